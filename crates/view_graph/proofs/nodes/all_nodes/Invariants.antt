use Rattle.std.proofs.Common.{◌≡◌, ◌≤◌, ◌++◌, ℕ, [], map, length, drop, slice_index_or}
use Rattle.wire_base.specs.model.View.{node_of, nodes_of}
use Rattle.view_graph.proofs.nodes.all_nodes.Given as goal

-- the nodes so far and those of the claims that are left, whose edges are still there
abbrev pub invariant-systems : goal.invariant-systems
invariant-systems l = record {
  made : l.nodes.items ++ map (node_of l.fn.claims.items) l.claim-iterator.rest.items ≡ nodes_of l.fn.claims.items;
  left : l.claim-iterator.rest.items ≡ drop (length l.nodes.items) l.fn.claims.items;
  long : length l.edges.items ≡ length l.fn.claims.items;
  edges : (i : ℕ) → length l.nodes.items ≤ i → slice_index_or l.edges.items i [] ≡ slice_index_or l.fn.edges.items i [];
}
