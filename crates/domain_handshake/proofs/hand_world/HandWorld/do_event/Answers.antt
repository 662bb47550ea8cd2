use Rattle.std.proofs.Common.{subst}
use Rattle.replay_text.specs.declared.event.Line.TheVariants.{One}
use Rattle.domain_handshake.specs.Doing.{Does}
use Rattle.domain_handshake.specs.Handshakes.{HandState, world_does}
use Rattle.domain_handshake.proofs.Steps.{world_does_so}
use Rattle.domain_handshake.proofs.hand_world.HandWorld.do_event.Goals as goal

pub returns-clause-does : goal.returns-clause-does
returns-clause-does c =
    subst (λ (s : HandState). Does (world_does c.args.line s (One c.args.event.now)) (record { replay = c.event.new.self; circuits = c.self.inside.circuits }) c.args.texts.now c.event.new.texts c.event.result) c.self.view_is
    (world_does_so c.args.line (record { replay = c.self.inside.replay; circuits = c.self.inside.circuits }) c.event.new.self c.args.texts.now c.event.new.texts (One c.args.event.now) c.event.result c.event.ensures.ok c.event.ensures.refused)
