use Rattle.std.proofs.Common.{length, IfOk, sym, subst}
use Rattle.replay_text.specs.declared.event.Event.TheVariants.{Send}
use Rattle.domain_core.specs.Answers.{sent_outcome}
use Rattle.domain_core.specs.Course.{KeepsCourse}
use Rattle.domain_core.specs.Held.{world_in}
use Rattle.domain_core.specs.Ledger.{KeepsLedger}
use Rattle.domain_core.specs.Network.{Seen}
use Rattle.domain_model.specs.Truth.{EventFits}
use Rattle.domain_core.proofs.CourseStep.{over_course}
use Rattle.domain_core.proofs.LedgerStep.{over_keeps}
use Rattle.domain_core.proofs.ShortLaws.{over_drops, over_short}
use Rattle.domain_core.proofs.world.World.send_on_link.Goals as goal

pub returns-clause-drops : goal.returns-clause-drops
returns-clause-drops c =
    over_drops (λ due. sent_outcome due c.step_send.new.sent) c.step_send.result (world_in c.self.inside.network) c.self.invariant.truth (Send c.args.from c.args.to)
    (subst (λ (s : Seen). EventFits (length s.world.domain.routers) (Send c.args.from c.args.to)) (sym c.self.view_is) c.requires.places) c.step_send.ensures.refused c.step_send.ensures.told

pub returns-clause-short : goal.returns-clause-short
returns-clause-short c =
    over_short (λ due. sent_outcome due c.step_send.new.sent) c.step_send.result (world_in c.self.inside.network) c.self.invariant.truth (Send c.args.from c.args.to)
    (subst (λ (s : Seen). EventFits (length s.world.domain.routers) (Send c.args.from c.args.to)) (sym c.self.view_is) c.requires.places) c.step_send.ensures.refused c.step_send.ensures.told

pub returns-clause-ledger : goal.returns-clause-ledger
returns-clause-ledger c =
    subst (λ (s : Seen). IfOk c.step_send.result (λ due. KeepsLedger s.world (world_in c.step_send.new.self) (Send c.args.from c.args.to) (sent_outcome due c.step_send.new.sent))) c.self.view_is
    (over_keeps (λ due. sent_outcome due c.step_send.new.sent) c.step_send.result (world_in c.self.inside.network) (world_in c.step_send.new.self) c.self.invariant.truth (Send c.args.from c.args.to)
    (subst (λ (s : Seen). EventFits (length s.world.domain.routers) (Send c.args.from c.args.to)) (sym c.self.view_is) c.requires.places) c.step_send.ensures.refused c.step_send.ensures.world c.step_send.ensures.told)

pub returns-clause-course : goal.returns-clause-course
returns-clause-course c =
    subst (λ (s : Seen). IfOk c.step_send.result (λ due. KeepsCourse s.world (world_in c.step_send.new.self) (Send c.args.from c.args.to) (sent_outcome due c.step_send.new.sent))) c.self.view_is
    (over_course (λ due. sent_outcome due c.step_send.new.sent) c.step_send.result (world_in c.self.inside.network) (world_in c.step_send.new.self) c.self.invariant.truth (Send c.args.from c.args.to)
    (subst (λ (s : Seen). EventFits (length s.world.domain.routers) (Send c.args.from c.args.to)) (sym c.self.view_is) c.requires.places) c.step_send.ensures.refused c.step_send.ensures.world c.step_send.ensures.told)
