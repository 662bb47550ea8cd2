use Rattle.std.proofs.Common.{◌≡◌, take}
use Rattle.topo_mt.specs.Topology.{edges_without}
use Rattle.topo_mt.proofs.without.edges_without.Given as goal

abbrev pub invariant-loop-edge : goal.invariant-loop-edge
invariant-loop-edge l = l.kept ≡ edges_without l.place (take l.edge-index l.edges)
