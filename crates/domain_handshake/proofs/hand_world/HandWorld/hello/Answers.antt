use Rattle.std.proofs.Common.{Err, ap, subst, ◌∙◌}
use Rattle.wire_base.specs.model.Configuration.{IsValid}
use Rattle.isis_hello.specs.Circuits.{CircuitsState}
use Rattle.isis_hello.proofs.QueueLaws.{left}
use Rattle.domain_handshake.specs.Doing.{Does}
use Rattle.domain_handshake.specs.Handshakes.{HandState, hello_does}
use Rattle.domain_handshake.proofs.Steps.{hello_does_so, hello_refused_at, within_so}
use Rattle.domain_handshake.proofs.hand_world.HandWorld.hello.Goals as goal

pub invariant_of-self : goal.invariant_of-self
invariant_of-self c = ap (λ (s : CircuitsState). s.domain) c.in-Ok.ensures.state ∙ (left c.self.inside.circuits c.args.event.now).domain ∙ c.self.invariant

pub follow-requires-clause-within : goal.follow-requires-clause-within
follow-requires-clause-within c =
    within_so c.self.inside.circuits c.self.inside.replay.world.domain c.args.event.now c.in-Ok.out c.self.invariant (subst IsValid c.domain-domain.ensures.domain c.domain-domain.ensures.valid) c.in-Ok.ensures.reported

pub returns-in-Ok-clause-does : goal.returns-in-Ok-clause-does
returns-in-Ok-clause-does c =
    subst (λ (s : HandState). Does (hello_does c.args.line s c.args.event.now) c.follow.new.self c.args.texts.now c.follow.new.texts c.follow.result) c.self.view_is
    (hello_does_so c.args.line (record { replay = c.self.inside.replay; circuits = c.self.inside.circuits }) c.follow.new.self c.args.event.now c.step.new.self c.in-Ok.out.sent c.in-Ok.out.changes c.args.texts.now c.follow.new.texts c.follow.result
    c.in-Ok.ensures.refused c.in-Ok.ensures.state c.in-Ok.ensures.reported c.follow.ensures.does)

pub returns-in-Err-clause-does : goal.returns-in-Err-clause-does
returns-in-Err-clause-does c =
    subst (λ (s : HandState). Does (hello_does c.args.line s c.args.event.now) (record { replay = c.self.inside.replay; circuits = c.step.new.self }) c.args.texts.now c.args.texts.now (Err c.fault_of.result)) c.self.view_is
    (hello_refused_at c.args.line (record { replay = c.self.inside.replay; circuits = c.self.inside.circuits }) c.args.event.now c.in-Err.why c.args.texts.now c.step.new.self c.fault_of.result c.in-Err.ensures.refused c.in-Err.ensures.stays c.fault_of.ensures)
