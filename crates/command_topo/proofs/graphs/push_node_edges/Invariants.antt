use Rattle.std.proofs.Common.{◌≡◌, ◌++◌, take}
use Rattle.std.specs.Prelude.{flat_map}
use Rattle.command_topo.specs.Lines.{edge_text}
use Rattle.command_topo.proofs.graphs.push_node_edges.Given as goal

abbrev pub invariant-loop-edge : goal.invariant-loop-edge
invariant-loop-edge l = l.out ≡ l.fn.out ++ flat_map (edge_text l.nodes l.node.system) (take l.edge-index l.edges)
