use Rattle.std.proofs.Common.{◌≡◌, take}
use Rattle.view_graph.specs.Edges.{half_edges, metrics_to}
use Rattle.view_graph.specs.Renewal.{node_claims}
use Rattle.view_graph.proofs.node_index.half_edges.Given as goal

abbrev pub invariant-links : goal.invariant-links
invariant-links l = l.edges ≡ half_edges 0 (metrics_to (take l.link-index l.links) (node_claims l.nodes))
