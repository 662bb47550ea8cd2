-- A domain at work that has just started.
use Rattle.std.proofs.Common.{◌≡◌, ℕ, List, [], ◌∷◌, map, refl, sym, ap, subst, ◌∙◌}
use Rattle.wire_base.specs.declared.conf.RouterConf.{RouterConf}
use Rattle.wire_base.specs.model.Configuration.{DomainConf, IsValid}
use Rattle.wire_base.specs.model.Control.{Control}
use Rattle.wire_base.specs.model.Flooding.{first_control}
use Rattle.wire_base.specs.model.Item.{Item}
use Rattle.laws_router.specs.State.{RouterState}
use Rattle.frames_in_flight.specs.declared.flight.Flight.{Flight}
use Rattle.frames_in_flight.specs.Flights.{items_seen, no_frames}
use Rattle.domain_core.specs.Network.{NetworkState, confs_of, world_of, started_router, IsFrameOver, IsTrueNetwork}
use Rattle.domain_model.specs.Truth.{IsTruthful}
use Rattle.domain_model.specs.World.{first_world, no_flights}
use Rattle.domain_core.proofs.SeenLaws.{seen_none}
use Rattle.domain_core.proofs.TransitLaws.{same_frames}
use Rattle.domain_model.proofs.QueueLaws.{none_queued}
use Rattle.domain_model.proofs.WorldTruth.{first_true}

started_controls : (confs : List RouterConf) → map (λ r. r.control) (map started_router confs) ≡ map first_control confs
started_controls [] = refl
started_controls (r ∷ rs) = ap (λ (cs : List Control). first_control r ∷ cs) (started_controls rs)

started_heard : (confs : List RouterConf) → map (λ r. r.heard) (map started_router confs) ≡ map (λ r. 0) confs
started_heard [] = refl
started_heard (r ∷ rs) = ap (λ (ns : List ℕ). 0 ∷ ns) (started_heard rs)

abbrev started : DomainConf → List RouterState → List (List (List Flight)) → NetworkState
started d routers flights = record { domain = d; routers = routers; flights = flights; injections = 0; events = 0 }

module _ (d : DomainConf) (confs : List RouterConf) (same : confs ≡ d.routers) (routers : List RouterState) (are : routers ≡ map started_router confs) where
  pub start_heard : map (λ r. r.heard) routers ≡ map (λ r. 0) d.routers
  start_heard = ap (λ (rs : List RouterState). map (λ r. r.heard) rs) are ∙ started_heard confs ∙ ap (λ (cs : List RouterConf). map (λ r. 0) cs) same

  pub start_world : (flights : List (List (List Flight))) → flights ≡ no_frames confs → world_of (started d routers flights) ≡ first_world d
  unfolding first_world
  start_world flights none =
      let cs : map (λ r. r.control) routers ≡ map first_control d.routers =
      ap (λ (rs : List RouterState). map (λ r. r.control) rs) are ∙ started_controls confs ∙ ap (map first_control) same in
      let items : items_seen (confs_of routers) flights ≡ no_flights d.routers = ap (items_seen (confs_of routers)) none ∙ seen_none (confs_of routers) confs ∙ ap no_flights same in
      ap (λ (l : List Control). record { domain = d; routers = l; flights = items_seen (confs_of routers) flights; injections = 0; events = 0 }) cs
      ∙ ap (λ (l : List (List (List Item))). record { domain = d; routers = map first_control d.routers; flights = l; injections = 0; events = 0 }) items

  pub start_kept : IsValid d → (flights : List (List (List Flight))) → flights ≡ no_frames confs → IsTrueNetwork (started d routers flights)
  start_kept valid flights none = record {
    truth = subst IsTruthful (sym (start_world flights none)) (first_true d valid);
    frames = same_frames d.routers (confs_of routers) flights (no_frames confs) none (none_queued (IsFrameOver d.routers (confs_of routers)) confs);
  }
