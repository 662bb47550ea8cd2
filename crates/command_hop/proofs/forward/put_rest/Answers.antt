use Rattle.std.proofs.Common.{◌∷◌, []}
use Rattle.replay_text.specs.Ids.{ids_text}
use Rattle.command_hop.proofs.BlockLines.{then_on_ok}
use Rattle.command_hop.proofs.forward.put_rest.Goals as goal

pub returns : goal.returns
returns g c = then_on_ok c.put_octet.result c.args.out.now c.args.block.now (ids_text c.args.set.now) c.put_set.new.out c.put_set.new.block (10 ∷ []) c.put_octet.new.out c.put_octet.new.block c.in_ok-put_set.ensures.ok c.put_octet.ensures
