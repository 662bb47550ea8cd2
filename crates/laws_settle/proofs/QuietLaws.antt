-- Enough rounds make a domain quiet, and traffic leaves it so.
use Rattle.std.proofs.Common.{◌⊎◌, inl, inr, ℕ, suc, ◌<◌, ◌≤◌, List, length}
use Rattle.std.specs.List.{AllByRecursion}
use Rattle.replay_text.specs.declared.event.Event.{Event}
use Rattle.domain_model.specs.Run.{settle_events, world_after}
use Rattle.domain_model.specs.World.{WorldState}
use Rattle.laws_ledger.specs.Runs.{AreAllowed}
use Rattle.laws_quiet.specs.Quiet.{IsQuiet}
use Rattle.laws_settle.specs.Fresh.{HasWholeLinks}
use Rattle.laws_settle.specs.Gentle.{IsTraffic}
use Rattle.laws_settle.specs.Idle.{IsIdle}
use Rattle.laws_settle.specs.Width.{HasWidth}
use Rattle.laws_settle.proofs.IdleLaws.{idle_later, settled_still}
use Rattle.laws_settle.proofs.RestLaws.{IsLevel, level_is_quiet}
use Rattle.laws_settle.proofs.RoundLaws.{level_after, level_on, onward, settled_on, whole_after}
use Rattle.laws_settle.proofs.RoundWidth.{wide_level}
use Rattle.laws_settle.proofs.RunLaws.{IsRun}

module _ (rounds : ℕ) (w : WorldState) (run : IsRun w) (whole : HasWholeLinks w) (enough : (length w.domain.routers ≤ suc rounds) ⊎ HasWidth w rounds) (allowed : AreAllowed w (settle_events w rounds)) where
  pub run_after : IsRun (world_after w (settle_events w rounds))
  run_after = (settled_on rounds w allowed run).run

  level_there : IsLevel (world_after w (settle_events w rounds))
  level_there = elim enough [
    | inl many ↦ level_after rounds w run whole many allowed
    | inr width ↦ wide_level rounds w run whole width allowed
  ]

  pub quiet_after : (fs : List Event) → AllByRecursion IsTraffic fs → AreAllowed (world_after w (settle_events w rounds)) fs → IsRun (world_after (world_after w (settle_events w rounds)) fs) × IsQuiet (world_after (world_after w (settle_events w rounds)) fs)
  quiet_after fs of more =
      let on = settled_on rounds w allowed run in
      let v = world_after w (settle_events w rounds) in
      let there = whole_after w v on.still whole in
      let later = onward fs v of more on.run in
      let u = world_after v fs in
      (later.run, level_is_quiet u later.run.truth later.run.fresh (level_on fs v of more on.run there level_there) (whole_after v u later.still there))

  -- three rounds more bring it to rest, where there was one
  pub idle_after : 0 < rounds → AreAllowed (world_after w (settle_events w rounds)) (settle_events (world_after w (settle_events w rounds)) 3) → IsIdle (world_after (world_after w (settle_events w rounds)) (settle_events (world_after w (settle_events w rounds)) 3))
  idle_after some more = idle_later (world_after w (settle_events w rounds)) (settled_still rounds w run whole allowed some level_there) more
