use Rattle.std.proofs.Common.{◌≡◌, None, replicate}
use Rattle.topo_mt.proofs.paths.no_costs.Given as goal

abbrev pub invariant-loop-node : goal.invariant-loop-node
invariant-loop-node l = l.found.items ≡ replicate l._node None
