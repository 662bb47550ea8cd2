use Rattle.std.proofs.Common.{refl}
use Rattle.isis_hello.specs.Circuits.{first_circuits}
use Rattle.isis_hello.specs.Events.{happens}
use Rattle.isis_hello.proofs.examples.example_handshake.Goals as goal

pub returns : goal.returns
unfolding happens first_circuits
returns c = refl
