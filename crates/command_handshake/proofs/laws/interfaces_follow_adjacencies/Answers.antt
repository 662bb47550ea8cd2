use Rattle.command_handshake.proofs.Followed.{keeps_handshakes}
use Rattle.command_handshake.proofs.laws.interfaces_follow_adjacencies.Goals as goal

pub returns : goal.returns
returns _ d lines valid = keeps_handshakes d valid lines
