use Rattle.std.proofs.Common.{◌≡◌, ◌<◌, ℕ, [], length, slice_index_or}
use Rattle.view_graph.specs.Edges.{whole_edges}
use Rattle.view_graph.proofs.edges.whole_copies.Given as goal

abbrev pub invariant-systems : goal.invariant-systems
invariant-systems l = record {
  long : length l.edges.items ≡ l.place;
  each : (i : ℕ) → i < l.place → slice_index_or l.edges.items i [] ≡ whole_edges l.halves i;
}
