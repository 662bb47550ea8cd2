use Rattle.std.proofs.Common.{◌≡◌, ◌<◌, ℕ, [], slice_index_or}
use Rattle.view_graph.specs.Edges.{whole_edges}
use Rattle.view_graph.proofs.edges.all_lead_back.Given as goal

abbrev pub invariant-systems : goal.invariant-systems
invariant-systems l = (i : ℕ) → i < l.place → slice_index_or l.halves i [] ≡ whole_edges l.halves i
