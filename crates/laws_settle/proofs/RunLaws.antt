-- What gentle events preserve holds after every run of them.
use Rattle.std.proofs.Common.{◌≡◌, List, [], ◌∷◌, length, None}
use Rattle.wire_base.specs.model.Configuration.{DomainConf, IsValid}
use Rattle.replay_text.specs.declared.event.Event.{Event}
use Rattle.domain_model.specs.Faults.{event_fault}
use Rattle.domain_model.specs.Run.{world_after}
use Rattle.domain_model.specs.Step.{happens}
use Rattle.domain_model.specs.Truth.{EventFits, IsTruthful}
use Rattle.domain_model.specs.World.{WorldState, first_world}
use Rattle.domain_model.proofs.WorldTruth.{first_true, happens_true}
use Rattle.laws_ledger.specs.Runs.{AreAllowed}
use Rattle.laws_settle.specs.Fresh.{IsFresh}
use Rattle.laws_settle.specs.Gentle.{AreGentle, IsGentle}
use Rattle.laws_settle.proofs.FirstLaws.{first_settling}
use Rattle.laws_settle.proofs.JournalFirst.{kept_first}
use Rattle.laws_settle.proofs.JournalSteps.{kept_step}
use Rattle.laws_settle.proofs.OwedSteps.{settling_step}

pub record IsRun (w : WorldState) : Type 0 where
  pub truth : IsTruthful w
  pub fresh : IsFresh w

fresh_step : (w : WorldState) (e : Event) → IsTruthful w → IsFresh w → EventFits (length w.domain.routers) e → event_fault w e ≡ None → IsGentle w e → IsFresh (happens w e).world
fresh_step w e t fresh fits ok gentle =
    let kept = kept_step w e t fresh fits ok gentle in
    let settling = settling_step w t fresh e gentle in
    record { journal = kept.journal; journaled = kept.journaled; own = kept.own; behind = settling.behind; owed = settling.owed }

pub run_first : (d : DomainConf) → IsValid d → IsRun (first_world d)
run_first d valid =
    let kept = kept_first d valid in
    let settling = first_settling d in
    record { truth = first_true d valid; fresh = record { journal = kept.journal; journaled = kept.journaled; own = kept.own; behind = settling.behind; owed = settling.owed } }

pub run_step : (w : WorldState) (e : Event) → IsRun w → EventFits (length w.domain.routers) e → event_fault w e ≡ None → IsGentle w e → IsRun (happens w e).world
run_step w e run fits ok gentle = record { truth = (happens_true w e run.truth fits ok).truth; fresh = fresh_step w e run.truth run.fresh fits ok gentle }

pub run_on : (es : List Event) (w : WorldState) → IsRun w → AreAllowed w es → AreGentle w es → IsRun (world_after w es)
run_on [] w run allowed gentle = run
run_on (e ∷ es) w run allowed gentle = run_on es (happens w e).world (run_step w e run allowed.0 allowed.1 gentle.0) allowed.2 gentle.1
