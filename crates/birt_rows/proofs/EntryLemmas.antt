-- The first supporting routers are the entries from which shortest walks lead on.
use Rattle.std.proofs.Common.{◌≡◌, ℕ, suc, ◌+◌, ◌<◌, ◌⊎◌, inl, inr, Bool, true, false, List, length, Some, refl, ap, arith, sym, ◌∙◌, subst}
use Rattle.std.proofs.lemmas.Bool.Decides.{eqb_tells}
use Rattle.wire_base.specs.declared.view.ViewNode.{ViewNode}
use Rattle.wire_base.specs.model.Graph.{is_overloaded, IsGraph}
use Rattle.wire_base.specs.model.Walk.{dist}
use Rattle.wire_base.specs.model.Supporting.{IsFirst}
use Rattle.laws_route.specs.OnWay.{IsOnWay}
use Rattle.laws_route.proofs.DescentLemmas.{dist-end, TightWay-nearer, TightWay-within}
use Rattle.path_tree.specs.Forward.{ForwardWay, nowhere}
use Rattle.path_tree.proofs.ForwardLemmas.{forward-way, way-on, on-way, tight-way, ends-apart, way-last}

-- x supports, is reached from u over nodes that don't, and shortest walks lead on from it to d
pub record IsThrough (g : List ViewNode) (c : ℕ → Bool) (u d x : ℕ) : Type 0 where
  pub covers : c x ≡ true
  pub steps : ℕ
  pub way : ForwardWay g u c steps u x
  pub beyond : (d ≡ x) ⊎ ((k : ℕ) × ForwardWay g u nowhere k x d)

module _ (g : List ViewNode) (good : IsGraph g) (c : ℕ → Bool) (u d : ℕ) (node : u < length g) (ends : c d ≡ true) where
  pub first-through : (x : ℕ) → IsFirst g c d u x → IsThrough g c u d x
  first-through x f =
      let n = TightWay-nearer g good c d f.steps u x f.way in
      let sum : n.far ≡ 0 + n.far = omega arith in
      let w : IsOnWay g u u d = record { before = 0; after = n.far; to = dist-end g u; on = n.from; whole = n.from ∙ ap Some sum } in
      let r = forward-way g good u node c d ends f.steps u x w (inl refl) f.way in
      record { covers = f.covers; steps = f.steps; way = r.0; beyond = on (TightWay-within g good c d f.steps u x f.way) n.near n.to r.1 r.2 }
    where
      on : x < length g → (r : ℕ) → dist g x d ≡ Some r → IsOnWay g u x d → (x ≡ d) ⊎ (is_overloaded g x ≡ false) → (d ≡ x) ⊎ ((k : ℕ) × ForwardWay g u nowhere k x d)
      on within r q w (inl e) = inl (sym e)
      on within r q w (inr free) =
          elim (eqb_tells x d) [
            | inl h ↦ inl (sym h.1)
            | inr h ↦ inr (way-on g good u node (suc r) d x r within w (inr free) h.1 q (omega arith))
          ]

  pub through-first : (x : ℕ) → IsThrough g c u d x → IsFirst g c d u x
  through-first x t = on t.beyond
    where
      on : (d ≡ x) ⊎ ((k : ℕ) × ForwardWay g u nowhere k x d) → IsFirst g c d u x
      on (inl e) =
          let l = way-last g good u node c t.steps u x t.way in
          let w : IsOnWay g u x x = record { before = l.1.edge.metric + l.1.before; after = 0; to = l.1.whole; on = dist-end g x; whole = l.1.whole ∙ ap Some (omega arith) } in
          let w' : IsOnWay g u x d = subst (λ z. IsOnWay g u x z) (sym e) w in
          record { covers = t.covers; steps = t.steps; way = (tight-way g good u node c d t.steps u x t.way w' (inl (sym e))).0 }
      on (inr b) =
          let r = on-way g good u node b.0 x d b.1 in
          record { covers = t.covers; steps = t.steps; way = (tight-way g good u node c d t.steps u x t.way r.0 (inr (free r.1))).0 }
        where
          free : (x ≡ u) ⊎ (is_overloaded g x ≡ false) → is_overloaded g x ≡ false
          free (inl h) = absurd (ends-apart g good u node c t.steps u x t.way h)
          free (inr h) = h
