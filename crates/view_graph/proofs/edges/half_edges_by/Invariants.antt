use Rattle.std.proofs.Common.{◌≡◌, map, take}
use Rattle.view_graph.specs.Edges.{half_edges_of}
use Rattle.view_graph.proofs.edges.half_edges_by.Given as goal

abbrev pub invariant-systems : goal.invariant-systems
invariant-systems l = l.halves.items ≡ map (half_edges_of l.claims) (take l.claim-index l.claims)
