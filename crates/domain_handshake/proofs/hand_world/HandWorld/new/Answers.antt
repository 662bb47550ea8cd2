use Rattle.domain_handshake.proofs.Steps.{start_joined}
use Rattle.domain_handshake.proofs.hand_world.HandWorld.new.Goals as goal

pub invariant_of-result : goal.invariant_of-result
invariant_of-result c = start_joined c.args.domain c.args.recording c.in_ok-circuits.circuits c.in_ok-replay.replay c.in_ok-circuits.ensures.start c.in_ok-replay.ensures
