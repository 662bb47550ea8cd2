use Rattle.std.proofs.Common.{◌≡◌, ◌++◌, map, take, length}
use Rattle.path_tree.proofs.ways.with_edges.Given as goal

-- the nodes so far have the first of the edges and of the marks
abbrev pub invariant-ways : goal.invariant-ways
invariant-ways l = record {
  edges : map (λ n. n.edges) l.made.items ++ l.edges-iterator.rest.items ≡ l.fn.ways.items;
  overload : map (λ n. n.overload) l.made.items ≡ map (λ n. n.overload) (take (length l.made.items) l.nodes);
}
