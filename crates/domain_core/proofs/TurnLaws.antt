-- A router of a domain at work turns into another state.
use Rattle.std.proofs.Common.{◌≡◌, ℕ, ◌<◌, List, [], length, map, slice_get, slice_set, slice_index_or, Option, Some, Result, Ok, Err, OnOk, OnErr, IfOk, refl, sym, ap, subst, ◌∙◌}
use Rattle.std.proofs.lemmas.List.{map-set}
use Rattle.std.proofs.lemmas.Option.{slice_get_read, get_or_from_slice_get}
use Rattle.wire_base.specs.declared.conf.RouterConf.{RouterConf}
use Rattle.wire_base.specs.model.Control.{Control}
use Rattle.wire_base.specs.model.Flooding.{Reply}
use Rattle.wire_base.specs.model.Item.{Item}
use Rattle.laws_router.specs.Becoming.{IsLater}
use Rattle.laws_router.specs.State.{RouterState, counted}
use Rattle.domain_model.specs.declared.step_out.StepOut.{StepOut}
use Rattle.frames_in_flight.specs.Told.{told}
use Rattle.domain_model.specs.Moves.{Made, none_made}
use Rattle.domain_core.specs.Network.{NetworkState, confs_of, confs_in, world_of, heard_at, AreFramesOver}
use Rattle.domain_model.specs.Step.{Happened, with_router, turns, changes, changes_end}
use Rattle.domain_model.specs.Truth.{IsTruthful}
use Rattle.domain_model.proofs.QueueLaws.{get_mapped, map_set}
use Rattle.domain_core.proofs.FramedWorld.{conf_there, control_there}
use Rattle.domain_core.proofs.StayLaws.{ItemsStay, same_stay, later_stay, seen_stays, frames_stay}

-- what holds anyway holds after a success
pub on_ok : {T E : Type 0} (r : Result T E) (P : Type 0) → P → OnOk r P
on_ok (Ok x) P p = p
on_ok (Err e) P p = tt

-- what follows from what holds after a success
pub ok_on : {T E : Type 0} (r : Result T E) (A B : Type 0) → OnOk r A → (A → B) → OnOk r B
ok_on (Ok x) A B a f = f a
ok_on (Err e) A B a f = tt

-- what follows from what is said of a success
pub if_ok : {T E : Type 0} (r : Result T E) (P Q : T → Type 0) → IfOk r P → ((x : T) → P x → Q x) → IfOk r Q
if_ok (Ok x) P Q p f = f x p
if_ok (Err e) P Q p f = tt

-- what is said of a success, and what holds after it, taken together
pub with_ok : {T E : Type 0} (r : Result T E) (P Q : T → Type 0) (A : Type 0) → IfOk r P → OnOk r A → ((x : T) → P x → A → Q x) → IfOk r Q
with_ok (Ok x) P Q A p a f = f x p a
with_ok (Err e) P Q A p a f = tt

pub err_on : {T E : Type 0} (r : Result T E) (A B : Type 0) → OnErr r A → (A → B) → OnErr r B
err_on (Ok x) A B a f = tt
err_on (Err e) A B a f = f a

-- and of a failure
pub with_err : {T E : Type 0} (r : Result T E) (A B Q : Type 0) → OnErr r A → OnErr r B → (A → B → Q) → OnErr r Q
with_err (Ok x) A B Q a b f = tt
with_err (Err e) A B Q a b f = f a b

-- the router at a place, as it is read
pub router_there : (routers : List RouterState) (i a : ℕ) (r : RouterState) → i ≡ a → a < length routers → r ≡ slice_index_or routers i r → slice_get routers a ≡ Some r
router_there routers i a r same within read = slice_get_read routers (length routers) a r refl within (read ∙ ap (λ (k : ℕ). slice_index_or routers k r) same)

-- nothing is reported of it
pub nothing_told : (confs : List RouterConf) (out : StepOut) (m : Made) → out ≡ record { sent = []; got = []; drops = [] } → m ≡ none_made → out ≡ told confs m
nothing_told confs out m nothing none = nothing ∙ sym (ap (told confs) none)

module _ (n : NetworkState) (a : ℕ) (r : RouterState) (at : slice_get n.routers a ≡ Some r) where
  pub control_at : slice_get (world_of n).routers a ≡ Some r.control
  control_at = get_mapped (λ (x : RouterState). x.control) n.routers a r at

  -- its configuration of now
  pub confs_next : (i : ℕ) (next : RouterState) → i ≡ a → confs_of (slice_set n.routers i next) ≡ slice_set (confs_in n) a next.control.conf
  confs_next i next same =
      ap (λ (k : ℕ). confs_of (slice_set n.routers k next)) same
      ∙ ap (map (λ (c : Control). c.conf)) (map-set (λ (x : RouterState). x.control) n.routers a next)
      ∙ map-set (λ (c : Control). c.conf) (map (λ (x : RouterState). x.control) n.routers) a next.control

  pub confs_kept : (i : ℕ) (next : RouterState) → i ≡ a → next.control.conf ≡ r.control.conf → confs_of (slice_set n.routers i next) ≡ confs_in n
  confs_kept i next same is =
      ap (λ (k : ℕ). confs_of (slice_set n.routers k next)) same
      ∙ ap (map (λ (c : Control). c.conf)) (map-set (λ (x : RouterState). x.control) n.routers a next)
      ∙ map_set (λ (c : Control). c.conf) (map (λ (x : RouterState). x.control) n.routers) a next.control r.control control_at is

  -- so each frame has its item
  pub kept_stay : (i : ℕ) (next : RouterState) → i ≡ a → next.control.conf ≡ r.control.conf → ItemsStay (confs_of (slice_set n.routers i next)) (confs_in n) n.flights
  kept_stay i next same is = same_stay (confs_of (slice_set n.routers i next)) (confs_in n) n.flights (confs_kept i next same is)

  -- also where it is given other labels, or leaves or joins a sub-domain
  pub changed_stay : IsTruthful (world_of n) → (i : ℕ) (next : RouterState) (conf : RouterConf) → i ≡ a → next.control.conf ≡ conf → IsLater r.control.conf conf → ItemsStay (confs_of (slice_set n.routers i next)) (confs_in n) n.flights
  changed_stay t i next conf same is later =
      subst (λ (cs : List RouterConf). ItemsStay cs (confs_in n) n.flights) (sym (confs_next i next same ∙ ap (slice_set (confs_in n) a) is))
      (later_stay n t a r.control.conf conf (conf_there (world_of n) a r.control control_at) (control_there (world_of n) t a r.control control_at).kept.sound later)

  pub turned_world : (i : ℕ) (next : RouterState) (c : Control) → i ≡ a → next.control ≡ c → ItemsStay (confs_of (slice_set n.routers i next)) (confs_in n) n.flights
      → world_of (record n { routers = slice_set n.routers i next }) ≡ with_router (world_of n) a c
  turned_world i next c same is stay =
      ap (λ (xs : List (List (List Item))). record (world_of n) { routers = map (λ (x : RouterState). x.control) (slice_set n.routers i next); flights = xs }) (seen_stays (confs_of (slice_set n.routers i next)) (confs_in n) n.flights stay)
      ∙ ap (λ (cs : List Control). record (world_of n) { routers = cs })
      (ap (λ (k : ℕ). map (λ (x : RouterState). x.control) (slice_set n.routers k next)) same ∙ map-set (λ (x : RouterState). x.control) n.routers a next ∙ ap (slice_set (map (λ (x : RouterState). x.control) n.routers) a) is)

  pub same_heard : (i : ℕ) (next : RouterState) → i ≡ a → next.heard ≡ r.heard → map (λ (x : RouterState). x.heard) (slice_set n.routers i next) ≡ map (λ (x : RouterState). x.heard) n.routers
  same_heard i next same is = ap (λ (k : ℕ). map (λ (x : RouterState). x.heard) (slice_set n.routers k next)) same ∙ map_set (λ (x : RouterState). x.heard) n.routers a next r at is

  -- it has taken one frame more
  pub counted_heard : (i : ℕ) (next : RouterState) → i ≡ a → next.heard ≡ counted r.heard → map (λ (x : RouterState). x.heard) (slice_set n.routers i next) ≡ heard_at (map (λ (x : RouterState). x.heard) n.routers) a
  counted_heard i next same is =
      let heard = map (λ (x : RouterState). x.heard) n.routers in
      ap (λ (k : ℕ). map (λ (x : RouterState). x.heard) (slice_set n.routers k next)) same ∙ map-set (λ (x : RouterState). x.heard) n.routers a next
      ∙ ap (slice_set heard a) (is ∙ ap counted (sym (get_or_from_slice_get heard a r.heard 0 (get_mapped (λ (x : RouterState). x.heard) n.routers a r at))))

  pub change_is : (change : Control → Reply) → changes (world_of n) a change (slice_get (world_of n).routers a) ≡ turns (world_of n) a (change r.control)
  change_is change = ap (changes (world_of n) a change) control_at

  pub end_change_is : (change : Control → ℕ → Reply) (link : ℕ) (l : Option ℕ) → l ≡ Some link → changes_end (world_of n) a change (slice_get (world_of n).routers a) l ≡ turns (world_of n) a (change r.control link)
  end_change_is change link l e =
      ap (λ (o : Option ℕ). changes_end (world_of n) a change (slice_get (world_of n).routers a) o) e
      ∙ ap (λ (o : Option Control). changes_end (world_of n) a change o (Some link)) control_at

  -- what such a turn does
  pub record IsTurned (routers : List RouterState) (h : Happened) : Type 0 where
    pub world : world_of (record n { routers = routers }) ≡ h.world
    pub frames : AreFramesOver n.domain.routers (confs_of routers) n.flights

  pub turn_done : AreFramesOver n.domain.routers (confs_in n) n.flights → (i : ℕ) (next : RouterState) (h : Happened) (reply : Reply) → i ≡ a → next.control ≡ reply.control → ItemsStay (confs_of (slice_set n.routers i next)) (confs_in n) n.flights
      → h ≡ turns (world_of n) a reply → IsTurned (slice_set n.routers i next) h
  turn_done are i next h reply same is stay happened = record {
    world = turned_world i next reply.control same is stay ∙ sym (ap (λ (x : Happened). x.world) happened);
    frames = frames_stay n.domain.routers (confs_of (slice_set n.routers i next)) (confs_in n) n.flights stay are;
  }
