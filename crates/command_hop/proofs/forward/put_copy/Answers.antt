use Rattle.std.proofs.Common.{◌++◌, ◌∷◌, [], codes}
use Rattle.std.specs.Fmt.{decimal}
use Rattle.replay_text.specs.Ids.{ids_text}
use Rattle.command_hop.specs.Ways.{name_at, number_of}
use Rattle.command_hop.proofs.BlockLines.{copy_put}
use Rattle.command_hop.proofs.forward.put_copy.Goals as goal

pub returns : goal.returns
returns g c = copy_put c.put_rest.result c.args.out.now c.args.block.now (decimal c.args.line.now ++ codes " copy ") (name_at c.args.names.now (number_of c.args.to.now)) (32 ∷ []) (ids_text c.args.set.now) (10 ∷ []) c.begin_line.new.out c.begin_line.new.block c.put_name.new.block c.put_rest.new.out c.put_rest.new.block c.in_ok-begin_line.ensures.text c.put_name.ensures c.put_rest.ensures
