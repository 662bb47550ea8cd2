use Rattle.std.proofs.Common.{◌∙◌, length, IfOk, sym, ap, subst}
use Rattle.domain_model.specs.Faults.{event_fault}
use Rattle.domain_core.specs.Course.{KeepsCourse}
use Rattle.domain_core.specs.Held.{world_in}
use Rattle.domain_core.specs.Ledger.{KeepsLedger}
use Rattle.domain_core.specs.Network.{Seen}
use Rattle.domain_model.specs.Truth.{EventFits}
use Rattle.domain_core.proofs.CourseStep.{step_course}
use Rattle.domain_core.proofs.EventLaws.{early_is, refuses_first}
use Rattle.domain_core.proofs.LedgerStep.{step_keeps}
use Rattle.domain_core.proofs.ShortLaws.{step_short}
use Rattle.domain_core.proofs.world.World.step.Goals as goal

pub returns-in-Some-clause-refused : goal.returns-in-Some-clause-refused
returns-in-Some-clause-refused c =
    refuses_first (event_fault c.args.self.now.world c.args.event.now) c.in-Some.fault
    (ap (λ (s : Seen). event_fault s.world c.args.event.now) (sym c.self.view_is) ∙ early_is (world_in c.self.inside.network) c.args.event.now c.in-Some.fault (sym c.in-Some.ensures))

pub returns-clause-short : goal.returns-clause-short
returns-clause-short c =
    step_short c.execute.result (world_in c.self.inside.network) c.self.invariant.truth c.args.event.now
    (subst (λ (s : Seen). EventFits (length s.world.domain.routers) c.args.event.now) (sym c.self.view_is) c.requires) c.execute.ensures.refused c.execute.ensures.told

pub returns-clause-ledger : goal.returns-clause-ledger
returns-clause-ledger c =
    subst (λ (s : Seen). IfOk c.execute.result (λ out. KeepsLedger s.world (world_in c.execute.new.self) c.args.event.now out)) c.self.view_is
    (step_keeps c.execute.result (world_in c.self.inside.network) (world_in c.execute.new.self) c.self.invariant.truth c.args.event.now
    (subst (λ (s : Seen). EventFits (length s.world.domain.routers) c.args.event.now) (sym c.self.view_is) c.requires) c.execute.ensures.refused c.execute.ensures.world c.execute.ensures.told)

pub returns-clause-course : goal.returns-clause-course
returns-clause-course c =
    subst (λ (s : Seen). IfOk c.execute.result (λ out. KeepsCourse s.world (world_in c.execute.new.self) c.args.event.now out)) c.self.view_is
    (step_course c.execute.result (world_in c.self.inside.network) (world_in c.execute.new.self) c.self.invariant.truth c.args.event.now
    (subst (λ (s : Seen). EventFits (length s.world.domain.routers) c.args.event.now) (sym c.self.view_is) c.requires) c.execute.ensures.refused c.execute.ensures.world c.execute.ensures.told)
