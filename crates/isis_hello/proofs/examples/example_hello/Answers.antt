use Rattle.std.proofs.Common.{refl}
use Rattle.wire_base.specs.model.Ethernet.{frame_at}
use Rattle.wire_base.specs.model.Tlv.{tlvs_of, tlvs_within}
use Rattle.isis_hello.specs.Circuits.{first_circuits}
use Rattle.isis_hello.specs.Events.{happens, hello_in}
use Rattle.isis_hello.specs.Hello.{body_at, hello_at, named_at, neighbor_at, way_at, way_in}
use Rattle.isis_hello.proofs.examples.example_hello.Goals as goal

pub returns-clause-sent : goal.returns-clause-sent
unfolding happens first_circuits
returns-clause-sent c = refl

pub returns-clause-parsed : goal.returns-clause-parsed
unfolding hello_in frame_at hello_at body_at way_in tlvs_of tlvs_within way_at named_at neighbor_at
returns-clause-parsed c = refl
