-- The edges of a search: those that leave each node, or those that lead into it, reversed.
use Rattle.std.specs.Prelude.{◌≡◌, ℕ, zero, suc, ◌<◌, List, [], ◌∷◌, ◌++◌, length, fold, replicate, slice_set, slice_index_or, Contains, ◌↔◌, Option, None}
use Rattle.wire_base.specs.declared.view.ViewEdge.{ViewEdge}
use Rattle.wire_base.specs.declared.view.ViewNode.{ViewNode}
use Rattle.wire_base.specs.model.Graph.{edges_of, is_overloaded}
use Rattle.wire_base.specs.model.Walk.{dist}

-- what is past the end has no edges
abbrev pub ways_of : List (List ViewEdge) → ℕ → List ViewEdge
ways_of xs x = slice_index_or xs x []

-- an edge from a node, reversed and added to the list of the node that it leads to
abbrev pub put : ℕ → List (List ViewEdge) → ViewEdge → List (List ViewEdge)
put from ways e = slice_set ways e.to (ways_of ways e.to ++ record { to = from; metric = e.metric } ∷ [])

-- the edges of the first k nodes, reversed
abbrev pub turned : List ViewNode → ℕ → List (List ViewEdge)
turned g zero = replicate (length g) []
turned g (suc k) = fold (put k) (turned g k) (edges_of g k)

-- the edges of x lead back over each edge that leads into x
pub record AreIncoming (g : List ViewNode) (ways : List (List ViewEdge)) : Type 0 where
  pub rows : length ways ≡ length g
  pub each : (x : ℕ) (e : ViewEdge) → x < length g → (Contains (ways_of ways x) e ↔ Contains (edges_of g e.to) (record { to = x; metric = e.metric }))

-- the nodes of t are those of g, and their edges lead back over each edge that leads into them
pub record IsTurned (g t : List ViewNode) : Type 0 where
  pub rows : length t ≡ length g
  pub overload : (x : ℕ) → is_overloaded t x ≡ is_overloaded g x
  pub each : (x : ℕ) (e : ViewEdge) → x < length g → (Contains (edges_of t x) e ↔ Contains (edges_of g e.to) (record { to = x; metric = e.metric }))

-- these are the distances from u to the nodes
pub record AreDistsFrom (g : List ViewNode) (u : ℕ) (xs : List (Option ℕ)) : Type 0 where
  pub rows : length xs ≡ length g
  pub each : (x : ℕ) → x < length g → slice_index_or xs x None ≡ dist g u x
