use Rattle.std.proofs.Common.{◌≡◌, ◌++◌, take}
use Rattle.std.specs.Prelude.{flat_map}
use Rattle.command_topo.specs.Lines.{node_edges}
use Rattle.command_topo.proofs.graphs.push_edges.Given as goal

abbrev pub invariant-loop-node : goal.invariant-loop-node
invariant-loop-node l = l.out ≡ l.fn.out ++ flat_map (node_edges l.nodes) (take l.node-index l.nodes)
