-- Steps away from a router on its shortest paths, and a search along them.
use Rattle.std.specs.Prelude.{◌≡◌, ℕ, zero, suc, ◌+◌, ◌⊎◌, Bool, true, false, ◌&&◌, List, [], ◌∷◌, ◌++◌, fold, slice_index_or, slice_set, Contains, Option, Some, None, if◌then◌else◌}
use Rattle.wire_base.specs.declared.view.ViewEdge.{ViewEdge}
use Rattle.wire_base.specs.declared.view.ViewNode.{ViewNode}
use Rattle.wire_base.specs.model.Graph.{edges_of, is_overloaded}
use Rattle.wire_base.specs.model.Walk.{dist, may_enter}
use Rattle.wire_base.specs.model.Tight.{makes_up}

-- an edge from y ends a shortest walk from u to z over y
pub record IsForward (g : List ViewNode) (u y z : ℕ) : Type 0 where
  pub edge : ViewEdge
  pub leaves : Contains (edges_of g y) edge
  pub enters : edge.to ≡ z
  pub passes : (y ≡ u) ⊎ (is_overloaded g y ≡ false)
  pub before : ℕ
  pub to_there : dist g u y ≡ Some before
  pub whole : dist g u z ≡ Some (edge.metric + before)

-- one more than k such steps lead from y to x, over nodes at which the search does not stop
abbrev pub ForwardWay : List ViewNode → ℕ → (ℕ → Bool) → ℕ → ℕ → ℕ → Type 0
ForwardWay g u stops zero y x = IsForward g u y x
ForwardWay g u stops (suc k) y x = (z : ℕ) × IsForward g u y z × (stops z ≡ false) × ForwardWay g u stops k z x

-- the search stops at no node
abbrev pub nowhere : ℕ → Bool
nowhere x = false

-- whether an edge from y makes such a step, where f has the distances from u
abbrev pub is_forward : List ViewNode → ℕ → (ℕ → Option ℕ) → ℕ → ViewEdge → Bool
is_forward g u f y e = may_enter g u y && makes_up e.metric (f y) (f e.to)

-- the distance of a node from which such steps may lead on
abbrev pub cost_before : List ViewNode → ℕ → (ℕ → Option ℕ) → ℕ → Option ℕ
cost_before g u f y = if may_enter g u y then f y else None

-- which nodes were seen, and from which the search still has to continue; what is past the end counts as seen
pub record Search : Type 0 where
  pub seen : List Bool
  pub work : List ℕ

abbrev pub visit : (ℕ → Bool) → Search → ℕ → Search
visit stops s z =
    if slice_index_or s.seen z true
    then s
    else record { seen = slice_set s.seen z true; work = if stops z then s.work else s.work ++ z ∷ [] }

abbrev pub look : (ℕ → Bool) → (ViewEdge → Bool) → Search → ViewEdge → Search
look stops test s e = if test e then visit stops s e.to else s

abbrev pub look_along : (ℕ → Bool) → (ViewEdge → Bool) → Search → List ViewEdge → Search
look_along stops test s es = fold (λ t e. look stops test t e) s es
