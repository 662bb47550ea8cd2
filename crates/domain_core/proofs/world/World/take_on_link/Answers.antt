use Rattle.std.proofs.Common.{length, IfOk, sym, subst}
use Rattle.replay_text.specs.declared.event.Event.TheVariants.{Take}
use Rattle.domain_core.specs.Answers.{taken_outcome}
use Rattle.domain_core.specs.Course.{KeepsCourse}
use Rattle.domain_core.specs.Held.{world_in}
use Rattle.domain_core.specs.Ledger.{KeepsLedger}
use Rattle.domain_core.specs.Network.{Seen}
use Rattle.domain_model.specs.Truth.{EventFits}
use Rattle.domain_core.proofs.CourseStep.{over_course}
use Rattle.domain_core.proofs.LedgerStep.{over_keeps}
use Rattle.domain_core.proofs.ShortLaws.{over_drops, over_short}
use Rattle.domain_core.proofs.world.World.take_on_link.Goals as goal

pub returns-clause-drops : goal.returns-clause-drops
returns-clause-drops c =
    over_drops (λ some. taken_outcome some c.step_take.new.made) c.step_take.result (world_in c.self.inside.network) c.self.invariant.truth (Take c.args.from c.args.to 0)
    (subst (λ (s : Seen). EventFits (length s.world.domain.routers) (Take c.args.from c.args.to 0)) (sym c.self.view_is) c.requires.places) c.step_take.ensures.refused c.step_take.ensures.told

pub returns-clause-short : goal.returns-clause-short
returns-clause-short c =
    over_short (λ some. taken_outcome some c.step_take.new.made) c.step_take.result (world_in c.self.inside.network) c.self.invariant.truth (Take c.args.from c.args.to 0)
    (subst (λ (s : Seen). EventFits (length s.world.domain.routers) (Take c.args.from c.args.to 0)) (sym c.self.view_is) c.requires.places) c.step_take.ensures.refused c.step_take.ensures.told

pub returns-clause-ledger : goal.returns-clause-ledger
returns-clause-ledger c =
    subst (λ (s : Seen). IfOk c.step_take.result (λ some. KeepsLedger s.world (world_in c.step_take.new.self) (Take c.args.from c.args.to 0) (taken_outcome some c.step_take.new.made))) c.self.view_is
    (over_keeps (λ some. taken_outcome some c.step_take.new.made) c.step_take.result (world_in c.self.inside.network) (world_in c.step_take.new.self) c.self.invariant.truth (Take c.args.from c.args.to 0)
    (subst (λ (s : Seen). EventFits (length s.world.domain.routers) (Take c.args.from c.args.to 0)) (sym c.self.view_is) c.requires.places) c.step_take.ensures.refused c.step_take.ensures.world c.step_take.ensures.told)

pub returns-clause-course : goal.returns-clause-course
returns-clause-course c =
    subst (λ (s : Seen). IfOk c.step_take.result (λ some. KeepsCourse s.world (world_in c.step_take.new.self) (Take c.args.from c.args.to 0) (taken_outcome some c.step_take.new.made))) c.self.view_is
    (over_course (λ some. taken_outcome some c.step_take.new.made) c.step_take.result (world_in c.self.inside.network) (world_in c.step_take.new.self) c.self.invariant.truth (Take c.args.from c.args.to 0)
    (subst (λ (s : Seen). EventFits (length s.world.domain.routers) (Take c.args.from c.args.to 0)) (sym c.self.view_is) c.requires.places) c.step_take.ensures.refused c.step_take.ensures.world c.step_take.ensures.told)
