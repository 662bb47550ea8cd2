use Rattle.std.proofs.Common.{◌≡◌, ◌++◌, map}
use Rattle.topo_mt.specs.Topology.{node_without}
use Rattle.topo_mt.proofs.without.rebuilt.Given as goal

abbrev pub invariant-nodes : goal.invariant-nodes
invariant-nodes l = l.kept.items ++ map (node_without l.place) l.node-iterator.rest.items ≡ map (node_without l.place) l.fn.nodes.items
