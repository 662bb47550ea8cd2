use Rattle.std.proofs.Common.{◌≡◌, [], replicate}
use Rattle.path_tree.proofs.ways.no_ways.Given as goal

abbrev pub invariant-loop-node : goal.invariant-loop-node
invariant-loop-node l = l.ways.items ≡ replicate l._node []
