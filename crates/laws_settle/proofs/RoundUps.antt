-- Traffic leaves interfaces as they are.
use Rattle.std.proofs.Common.{◌≡◌, ℕ, Bool, false, List, slice_get, slice_index_or, Some, refl, sym, ap, ◌∙◌}
use Rattle.replay_text.specs.declared.event.Event.{Event}
use Rattle.replay_text.specs.declared.event.Event.TheVariants.{Down, Up}
use Rattle.replay_text.specs.Hand.{is_move}
use Rattle.domain_model.specs.Faults.{up_over}
use Rattle.domain_model.specs.Step.{happens}
use Rattle.domain_model.specs.World.{WorldState}
use Rattle.laws_course.proofs.KeptLaws.{domain_kept}
use Rattle.laws_settle.specs.Gentle.{IsTraffic}
use Rattle.laws_settle.proofs.WorldUps.{over_some, row_at, steady_ups}

-- the domain and its interfaces as before
pub record IsStill (w v : WorldState) : Type 0 where
  pub domain : v.domain ≡ w.domain
  pub up : (a link : ℕ) → up_over (slice_get v.routers a) (Some link) ≡ up_over (slice_get w.routers a) (Some link)

moves_none : (e : Event) → IsTraffic e → is_move e ≡ false
moves_none (Down a b) of = absurd of
moves_none (Up a b) of = absurd of
moves_none other of = refl

pub still_step : (w : WorldState) (e : Event) → IsTraffic e → IsStill w (happens w e).world
still_step w e of = record {
  domain = domain_kept w e;
  up = λ a link.
      over_some (happens w e).world.routers a link
      ∙ ap (λ (ups : List (List Bool)). slice_index_or (row_at ups a) link false) (steady_ups w e (moves_none e of))
      ∙ sym (over_some w.routers a link);
}
