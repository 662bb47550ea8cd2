use Rattle.command_handshake.proofs.HandCourse.{hand_promised}
use Rattle.command_handshake.proofs.laws.handshakes_keep_promises.Goals as goal

pub returns : goal.returns
returns _ d lines valid = hand_promised d lines valid
