use Rattle.std.proofs.Common.{subst}
use Rattle.replay_text.specs.declared.event.Line.TheVariants.{Settle}
use Rattle.domain_handshake.specs.Doing.{Does}
use Rattle.domain_handshake.specs.Handshakes.{HandState, world_does}
use Rattle.domain_handshake.proofs.Steps.{world_does_so}
use Rattle.domain_handshake.proofs.hand_world.HandWorld.do_own_round.Goals as goal

pub returns-clause-does : goal.returns-clause-does
returns-clause-does c =
    subst (λ (s : HandState). Does (world_does c.args.line s (Settle 1)) (record { replay = c.line.new.self; circuits = c.self.inside.circuits }) c.args.texts.now c.line.new.texts c.line.result) c.self.view_is
    (world_does_so c.args.line (record { replay = c.self.inside.replay; circuits = c.self.inside.circuits }) c.line.new.self c.args.texts.now c.line.new.texts (Settle 1) c.line.result c.line.ensures.ok c.line.ensures.refused)
