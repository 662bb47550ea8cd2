use Rattle.std.proofs.Common.{◌≡◌}
use Rattle.path_tree.specs.Ways.{turned}
use Rattle.path_tree.proofs.ways.incoming.Given as goal

abbrev pub invariant-loop-node : goal.invariant-loop-node
invariant-loop-node l = l.ways.items ≡ turned l.nodes l.node
