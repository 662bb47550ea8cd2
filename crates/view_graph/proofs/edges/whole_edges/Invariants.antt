use Rattle.std.proofs.Common.{◌≡◌, [], take, filter, slice_index_or}
use Rattle.view_graph.specs.Edges.{leads_to}
use Rattle.view_graph.proofs.edges.whole_edges.Given as goal

abbrev pub invariant-edges : goal.invariant-edges
invariant-edges l = l.edges ≡ filter (λ e. leads_to l.place (slice_index_or l.halves e.to [])) (take l.edge-index l.own)
