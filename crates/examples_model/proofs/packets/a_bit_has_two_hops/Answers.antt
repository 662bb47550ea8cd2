use Rattle.std.proofs.Common.{refl}
use Rattle.wire_base.specs.model.Walk.{dist}
use Rattle.wire_base.specs.model.Graph.{owner, covers}
use Rattle.wire_base.specs.model.Tight.{tight_from}
use Rattle.wire_base.specs.model.Supporting.{firsts}
use Rattle.wire_base.specs.model.Choice.{candidates, choice}
use Rattle.wire_base.specs.model.HopCount.{hops}
use Rattle.examples_model.proofs.packets.a_bit_has_two_hops.Goals as goal

pub returns : goal.returns
unfolding dist owner covers tight_from firsts candidates choice hops
returns c = refl
