-- Walks (paths) in a graph and the costs of the shortest (ISO/IEC 10589, 7.2.6). No walk goes through a router with its overload
-- bit set.
use Rattle.std.specs.Prelude.{◌≡◌, ℕ, zero, suc, ◌+◌, ◌-◌, ◌<◌, ◌≤◌, ◌⊎◌, Bool, false, ◌==◌, ◌||◌, not, List, [], ◌∷◌, length, slice_index_or, Contains, Option, Some, None, min, option_map, if◌then◌else◌}
use Rattle.wire_base.specs.declared.view.ViewEdge.{ViewEdge}
use Rattle.wire_base.specs.declared.view.ViewNode.{ViewNode}
use Rattle.wire_base.specs.model.Graph.{edges_of, is_overloaded}

-- the edges lead from u to d one after another, and no node between the two has its overload bit set
abbrev pub Leads : List ViewNode → ℕ → ℕ → List ViewEdge → Type 0
Leads g u d [] = u ≡ d
Leads g u d (e ∷ es) = Contains (edges_of g u) e × ((es ≡ []) ⊎ (is_overloaded g e.to ≡ false)) × Leads g e.to d es

-- the sum of the metrics
abbrev pub cost : List ViewEdge → ℕ
cost [] = 0
cost (e ∷ es) = e.metric + cost es

-- a walk from u to d has fewer edges than there are nodes
pub record IsWalk (g : List ViewNode) (u d : ℕ) (es : List ViewEdge) : Type 0 where
  pub leads : Leads g u d es
  pub short : length es < length g

-- the distance from u to d: the least sum of metrics of a walk, or none where there is no walk
abbrev pub IsDist : List ViewNode → ℕ → ℕ → Option ℕ → Type 0
IsDist g u d None = (es : List ViewEdge) → IsWalk g u d es → ⊥
IsDist g u d (Some n) =
    ((es : List ViewEdge) × IsWalk g u d es × (cost es ≡ n)) × ((es : List ViewEdge) → IsWalk g u d es → n ≤ cost es)

-- The distance as a function, by recursion on the number of edges of a walk; a law states that it is the distance.

-- the lesser of two lengths
abbrev pub least : Option ℕ → Option ℕ → Option ℕ
least None b = b
least (Some x) None = Some x
least (Some x) (Some y) = Some (min x y)

-- whether a walk to d may come to x
abbrev pub may_enter : List ViewNode → ℕ → ℕ → Bool
may_enter g d x = (x == d) || not (is_overloaded g x)

-- the length of a walk that starts with an edge, where f has the lengths from there on
abbrev pub over : List ViewNode → ℕ → (ℕ → Option ℕ) → ViewEdge → Option ℕ
over g d f e = if may_enter g d e.to then option_map (λ n. e.metric + n) (f e.to) else None

abbrev pub least_over : List ViewNode → ℕ → (ℕ → Option ℕ) → List ViewEdge → Option ℕ
least_over g d f [] = None
least_over g d f (e ∷ es) = least (over g d f e) (least_over g d f es)

abbrev pub one_more : List ViewNode → ℕ → (ℕ → Option ℕ) → ℕ → Option ℕ
one_more g d f u = if u == d then Some 0 else least_over g d f (edges_of g u)

-- the least length of a walk from u to d with at most k edges
abbrev pub best : List ViewNode → ℕ → ℕ → ℕ → Option ℕ
best g d zero u = if u == d then Some 0 else None
best g d (suc k) u = one_more g d (best g d k) u

-- the distance from u to d
unfoldable pub dist : List ViewNode → ℕ → ℕ → Option ℕ
dist g u d = best g d (length g - 1) u

-- these are the distances of the nodes to d
pub record AreDists (g : List ViewNode) (d : ℕ) (xs : List (Option ℕ)) : Type 0 where
  pub rows : length xs ≡ length g
  pub each : (u : ℕ) → u < length g → slice_index_or xs u None ≡ dist g u d
