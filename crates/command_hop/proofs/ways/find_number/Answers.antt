use Rattle.std.proofs.Common.{sym}
use Rattle.command_hop.proofs.WayLaws.{found_number}
use Rattle.command_hop.proofs.ways.find_number.Goals as goal

pub returns-then-is_name : goal.returns-then-is_name
returns-then-is_name c = found_number c.args.names.now c.args.text.now c.index-names-n.result c.loop-n.n c.loop-n-test.true c.loop-n.invariant c.index-names-n.is (sym c.if-is_name.ensures)
