use Rattle.std.proofs.Common.{◌≡◌, take}
use Rattle.view_graph.specs.Edges.{half_edges, metrics_to}
use Rattle.view_graph.proofs.edges.fill_half_edges.Given as goal

abbrev pub invariant-links : goal.invariant-links
invariant-links l = l.edges ≡ half_edges 0 (metrics_to (take l.link-index l.links) l.claims)
