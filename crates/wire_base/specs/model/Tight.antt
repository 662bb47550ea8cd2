-- Steps on shortest paths.
use Rattle.std.specs.Prelude.{◌≡◌, ℕ, ◌+◌, ◌⊎◌, Bool, false, ◌==◌, ◌&&◌, map, filter, List, [], ◌∷◌, Contains, Option, Some, None}
use Rattle.wire_base.specs.declared.view.ViewEdge.{ViewEdge}
use Rattle.wire_base.specs.declared.view.ViewNode.{ViewNode}
use Rattle.wire_base.specs.model.Graph.{edges_of, is_overloaded}
use Rattle.wire_base.specs.model.Walk.{dist, may_enter}

-- a step from u to v is tight toward d where the metric of the edge plus the distance from v equals the distance from u,
-- and v is d or does not have its overload bit set: the step begins a shortest walk to d
pub record IsTight (g : List ViewNode) (d u v : ℕ) : Type 0 where
  pub edge : ViewEdge
  pub leaves : Contains (edges_of g u) edge
  pub enters : edge.to ≡ v
  pub passes : (v ≡ d) ⊎ (is_overloaded g v ≡ false)
  pub rest : ℕ
  pub from_there : dist g v d ≡ Some rest
  pub whole : dist g u d ≡ Some (edge.metric + rest)

-- The same as a list, where f has the distances to d.

-- whether a metric and the rest add up to the whole
abbrev pub makes_up : ℕ → Option ℕ → Option ℕ → Bool
makes_up m (Some rest) (Some whole) = m + rest == whole
makes_up m (Some rest) None = false
makes_up m None whole = false

abbrev pub is_tight : List ViewNode → ℕ → (ℕ → Option ℕ) → ℕ → ViewEdge → Bool
is_tight g d f u e = may_enter g d e.to && makes_up e.metric (f e.to) (f u)

abbrev pub tight_list : List ViewNode → ℕ → (ℕ → Option ℕ) → ℕ → List ViewEdge → List ℕ
tight_list g d f u es = map (λ e. e.to) (filter (is_tight g d f u) es)

-- the nodes that the tight steps from u toward d lead to, in the order of the nodes
unfoldable pub tight_from : List ViewNode → ℕ → ℕ → List ℕ
tight_from g d u = tight_list g d (λ x. dist g x d) u (edges_of g u)

-- the tight step from u toward d whose node has the least system ID: it is the first
abbrev pub head : List ℕ → Option ℕ
head [] = None
head (x ∷ xs) = Some x

unfoldable pub next_step : List ViewNode → ℕ → ℕ → Option ℕ
next_step g d u = head (tight_from g d u)
