use Rattle.std.proofs.Common.{◌≡◌, ◌+◌, drop}
use Rattle.view_graph.specs.Edges.{edge_place}
use Rattle.view_graph.proofs.edges.edge_place.Given as goal

abbrev pub invariant-edges : goal.invariant-edges
invariant-edges l = l.place + edge_place l.to (drop l.place l.edges) ≡ edge_place l.to l.edges
