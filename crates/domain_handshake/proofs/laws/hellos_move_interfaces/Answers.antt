use Rattle.domain_handshake.proofs.FollowLaws.{hello_follows}
use Rattle.domain_handshake.proofs.laws.hellos_move_interfaces.Goals as goal

pub returns-clause-hello : goal.returns-clause-hello
returns-clause-hello _ d before s line e valid is none = hello_follows d before s line e valid is none
