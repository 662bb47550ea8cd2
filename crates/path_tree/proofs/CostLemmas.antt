-- The cost of a node, from which the steps from there go on.
use Rattle.std.proofs.Common.{◌≡◌, ℕ, ◌&&◌, Bool, true, false, cond, List, [], ◌∷◌, Option, Some, None, refl}
use Rattle.wire_base.specs.declared.view.ViewEdge.{ViewEdge}
use Rattle.wire_base.specs.declared.view.ViewNode.{ViewNode}
use Rattle.wire_base.specs.model.Tight.{makes_up}
use Rattle.wire_base.specs.model.Walk.{may_enter}
use Rattle.path_tree.specs.Forward.{Search, cost_before, is_forward, look_along}

-- what the cost of a node says of the steps from there
pub steps-none : (g : List ViewNode) (u : ℕ) (f : ℕ → Option ℕ) (y : ℕ) → cost_before g u f y ≡ None → (e : ViewEdge) → is_forward g u f y e ≡ false
steps-none g u f y q e = go (may_enter g u y) (f y) q
  where
    go : (b : Bool) (o : Option ℕ) → cond b o None ≡ None → (b && makes_up e.metric o (f e.to)) ≡ false
    go true None r = refl
    go true (Some n) r = cc
    go false o r = refl

-- a search that no step leads on from a node
pub along-none : (stops : ℕ → Bool) (test : ViewEdge → Bool) (s : Search) (es : List ViewEdge) → ((e : ViewEdge) → test e ≡ false) → look_along stops test s es ≡ s
along-none stops test s [] h = refl
along-none stops test s (e ∷ es) h = rw (h e) (along-none stops test s es h)
