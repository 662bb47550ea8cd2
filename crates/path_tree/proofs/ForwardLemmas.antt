-- Steps away from a router, and steps toward another.
use Rattle.std.proofs.Common.{◌≡◌, ℕ, zero, suc, ◌+◌, ◌<◌, ◌≤◌, ◌⊎◌, inl, inr, Bool, true, false, List, length, Contains, Option, Some, refl, ap, arith, sym, ◌∙◌, subst}
use Rattle.std.proofs.lemmas.Option.{same_Some}
use Rattle.std.proofs.lemmas.Bool.Decides.{eqb_tells}
use Rattle.wire_base.specs.declared.view.ViewEdge.{ViewEdge}
use Rattle.wire_base.specs.declared.view.ViewNode.{ViewNode}
use Rattle.wire_base.specs.model.Graph.{edges_of, is_overloaded, IsGraph}
use Rattle.wire_base.specs.model.Walk.{dist, may_enter}
use Rattle.wire_base.specs.model.Tight.{IsTight, makes_up}
use Rattle.wire_base.specs.model.Supporting.{TightWay}
use Rattle.laws_route.specs.OnWay.{IsOnWay}
use Rattle.laws_route.proofs.WalkLemmas.{edges-node, enter-cases, may-enter-end, may-enter-free}
use Rattle.laws_route.proofs.DescentLemmas.{dist-end, dist-over, dist-edge, edge-within}
use Rattle.laws_route.proofs.TightLemmas.{both, both-true, made-up, makes-up}
use Rattle.laws_route.proofs.RouteLemmas.{dist-through}
use Rattle.laws_route.proofs.LastLemmas.{dist-last-over}
use Rattle.path_tree.specs.Forward.{IsForward, ForwardWay, is_forward, nowhere}

pub forward-within : (g : List ViewNode) → IsGraph g → (o y z : ℕ) → IsForward g o y z → z < length g
forward-within g good o y z s = rw (← s.enters) (edge-within g good y s.edge s.leaves).names

-- an edge that passes the test
pub record IsStepped (g : List ViewNode) (o : ℕ) (f : ℕ → Option ℕ) (y z : ℕ) : Type 0 where
  pub item : ViewEdge
  pub there : Contains (edges_of g y) item
  pub passes : is_forward g o f y item ≡ true
  pub gives : item.to ≡ z

module _ (g : List ViewNode) (good : IsGraph g) (o : ℕ) (f : ℕ → Option ℕ) (dists : (x : ℕ) → x < length g → f x ≡ dist g o x) where
  pub step-from : (y : ℕ) → y < length g → (e : ViewEdge) → Contains (edges_of g y) e → is_forward g o f y e ≡ true → IsForward g o y e.to
  step-from y within e there q =
      let t = both (may_enter g o y) (makes_up e.metric (f y) (f e.to)) q in
      let m = made-up e.metric (f y) (f e.to) t.1 in
      record {
        edge = e;
        leaves = there;
        enters = refl;
        passes = enter-cases g o y t.0;
        before = m.0;
        to_there = sym (dists y within) ∙ m.1;
        whole = sym (dists e.to (edge-within g good y e there).names) ∙ m.2;
      }

  pub step-has : (y z : ℕ) → y < length g → IsForward g o y z → IsStepped g o f y z
  step-has y z within s =
      let here : f y ≡ Some s.before = dists y within ∙ s.to_there in
      let there : f s.edge.to ≡ Some (s.edge.metric + s.before) = dists s.edge.to (edge-within g good y s.edge s.leaves).names ∙ ap (dist g o) s.enters ∙ s.whole in
      record {
        item = s.edge;
        there = s.leaves;
        passes = both-true (may_enter g o y) (makes_up s.edge.metric (f y) (f s.edge.to)) (entered s.passes) (makes-up s.edge.metric s.before (f y) (f s.edge.to) here there);
        gives = s.enters;
      }
    where
      entered : (y ≡ o) ⊎ (is_overloaded g y ≡ false) → may_enter g o y ≡ true
      entered (inl h) = may-enter-end g o y h
      entered (inr h) = may-enter-free g o y h

-- other tests that stop at the same nodes
pub way-same : (g : List ViewNode) (o : ℕ) (c c' : ℕ → Bool) → ((z : ℕ) → c z ≡ c' z) → (k y x : ℕ) → ForwardWay g o c k y x → ForwardWay g o c' k y x
way-same g o c c' same zero y x w = w
way-same g o c c' same (suc k) y x w = (w.0, w.1, sym (same w.0) ∙ w.2, way-same g o c c' same k w.0 x w.3)

module _ (g : List ViewNode) (good : IsGraph g) (u : ℕ) (node : u < length g) where
  -- where it may be passed, or is the end
  abbrev pub Passes : ℕ → ℕ → Type 0
  Passes d z = (z ≡ d) ⊎ (is_overloaded g z ≡ false)

  -- a step toward d from a node on the way leads away from u, to a node on the way
  pub forward-from-tight : (d y z : ℕ) → IsOnWay g u y d → Passes u y → IsTight g d y z → IsForward g u y z × IsOnWay g u z d × Passes d z
  forward-from-tight d y z w passes t =
      let l = dist-last-over g good u y w.before t.edge node passes t.leaves w.to in
      let to-z : dist g u z ≡ Some l.0 = ap (dist g u) (sym t.enters) ∙ l.1 in
      let h = dist-through g good u z d l.0 t.rest node t.passes to-z t.from_there in
      let rest : w.after ≡ t.edge.metric + t.rest = same_Some w.after (t.edge.metric + t.rest) (sym w.on ∙ t.whole) in
      let whole : w.before + w.after ≡ h.0 = same_Some (w.before + w.after) h.0 (sym w.whole ∙ h.1) in
      let sum : l.0 ≡ t.edge.metric + w.before = omega (arith, l.2, h.2, rest, whole) in (
        record { edge = t.edge; leaves = t.leaves; enters = t.enters; passes = passes; before = w.before; to_there = w.to; whole = to-z ∙ ap Some sum },
        record { before = l.0; after = t.rest; to = to-z; on = t.from_there; whole = w.whole ∙ ap Some (omega (arith, sum, rest)) },
        t.passes,
      )

  -- and a step away from u to a node on the way to d is one toward d, from a node on the way
  pub tight-from-forward : (d y z : ℕ) → IsForward g u y z → IsOnWay g u z d → Passes d z → IsTight g d y z × IsOnWay g u y d
  tight-from-forward d y z s w passes =
      let within = edges-node g y s.edge s.leaves in
      let o = dist-over g good y d w.after s.edge within s.leaves (on passes) (ap (λ v. dist g v d) s.enters ∙ w.on) in
      let before : w.before ≡ s.edge.metric + s.before = same_Some w.before (s.edge.metric + s.before) (sym w.to ∙ s.whole) in
      let least : w.before + w.after ≤ s.before + o.0 = at-most s.passes o.0 o.1 in
      let sum : o.0 ≡ s.edge.metric + w.after = omega (arith, o.2, before, least) in (
        record { edge = s.edge; leaves = s.leaves; enters = s.enters; passes = passes; rest = w.after; from_there = w.on; whole = o.1 ∙ ap Some sum },
        record { before = s.before; after = o.0; to = s.to_there; on = o.1; whole = w.whole ∙ ap Some (omega (arith, sum, before)) },
      )
    where
      on : Passes d z → (s.edge.to ≡ d) ⊎ (is_overloaded g s.edge.to ≡ false)
      on (inl h) = inl (s.enters ∙ h)
      on (inr h) = inr (ap (is_overloaded g) s.enters ∙ h)

      at-most : (y ≡ u) ⊎ (is_overloaded g y ≡ false) → (k : ℕ) → dist g y d ≡ Some k → w.before + w.after ≤ s.before + k
      at-most (inl h) k q =
          let same : w.before + w.after ≡ k = same_Some (w.before + w.after) k (sym w.whole ∙ ap (λ v. dist g v d) (sym h) ∙ q) in
          omega (arith, same)
      at-most (inr h) k q =
          let t = dist-through g good u y d s.before k node (inr h) s.to_there q in
          let same : w.before + w.after ≡ t.0 = same_Some (w.before + w.after) t.0 (sym w.whole ∙ t.1) in
          omega (arith, same, t.2)

  -- no step leads back to u
  not-back : (y z : ℕ) → IsForward g u y z → z ≡ u → ⊥
  not-back y z s e =
      let zero-there : s.edge.metric + s.before ≡ 0 = same_Some (s.edge.metric + s.before) 0 (sym s.whole ∙ ap (dist g u) e ∙ dist-end g u) in
      omega (arith, zero-there, (edge-within g good y s.edge s.leaves).positive)

  free-after : (y z : ℕ) → IsForward g u y z → Passes u z → is_overloaded g z ≡ false
  free-after y z s (inl h) = absurd (not-back y z s h)
  free-after y z s (inr h) = h

  way-passes : (c : ℕ → Bool) (k y x : ℕ) → ForwardWay g u c k y x → Passes u y
  way-passes c zero y x w = w.passes
  way-passes c (suc k) y x w = w.1.passes

  -- the last step of a way
  pub way-last : (c : ℕ → Bool) (k y x : ℕ) → ForwardWay g u c k y x → (z : ℕ) × IsForward g u z x
  way-last c zero y x w = (y, w)
  way-last c (suc k) y x w = way-last c k w.0 x w.3

  -- a way of steps toward d from a node on the way is one of steps away from u
  pub forward-way : (c : ℕ → Bool) (d : ℕ) → c d ≡ true → (k y x : ℕ) → IsOnWay g u y d → Passes u y → TightWay g c d k y x → ForwardWay g u c k y x × IsOnWay g u x d × Passes d x
  forward-way c d ends zero y x w passes t = forward-from-tight d y x w passes t
  forward-way c d ends (suc k) y x w passes t =
      let s = forward-from-tight d y t.0 w passes t.1 in
      let free : is_overloaded g t.0 ≡ false = between t.0 t.2 s.2 in
      let r = forward-way c d ends k t.0 x s.1 (inr free) t.3 in
      ((t.0, s.0, t.2, r.0), r.1, r.2)
    where
      between : (z : ℕ) → c z ≡ false → Passes d z → is_overloaded g z ≡ false
      between z h (inl e) = let n : true ≡ false = sym ends ∙ ap c (sym e) ∙ h in cc
      between z h (inr f) = f

  -- from a node on the way to d a way leads there
  pub way-on : (n d y r : ℕ) → y < length g → IsOnWay g u y d → Passes u y → (y ≡ d → ⊥) → dist g y d ≡ Some r → r < n → (k : ℕ) × ForwardWay g u nowhere k y d
  way-on zero d y r within w passes apart q few = absurd (omega arith)
  way-on (suc n) d y r within w passes apart q few =
      let t = dist-edge g good y d r within apart q in
      let s = forward-from-tight d y t.0 w passes t.2 in
      let sum : r ≡ t.2.edge.metric + t.2.rest = same_Some r (t.2.edge.metric + t.2.rest) (sym q ∙ t.2.whole) in
      let less : t.2.rest < n = omega (arith, sum, (edge-within g good y t.2.edge t.2.leaves).positive) in
      elim (eqb_tells t.0 d) [
        | inl h ↦ (0, subst (λ z. IsForward g u y z) h.1 s.0)
        | inr h ↦
            let free = other s.2 h.1 in
            let m = way-on n d t.0 t.2.rest t.1 s.1 (inr free) h.1 t.2.from_there less in
            (suc m.0, (t.0, s.0, refl, m.1))
      ]
    where
      other : {z : ℕ} → Passes d z → (z ≡ d → ⊥) → is_overloaded g z ≡ false
      other (inl e) h = absurd (h e)
      other (inr f) h = f

  -- a way leads to d, so its first node is on the way
  pub on-way : (k y d : ℕ) → ForwardWay g u nowhere k y d → IsOnWay g u y d × Passes u y
  on-way zero y d s =
      let w : IsOnWay g u d d = record { before = s.edge.metric + s.before; after = 0; to = s.whole; on = dist-end g d; whole = s.whole ∙ ap Some (omega arith) } in
      ((tight-from-forward d y d s w (inl refl)).1, s.passes)
  on-way (suc k) y d w =
      let r = on-way k w.0 d w.3 in
      ((tight-from-forward d y w.0 w.1 r.0 (inr (free-after y w.0 w.1 r.1))).1, w.1.passes)

  -- a way of steps away from u to a node on the way to d is one of steps toward d
  pub tight-way : (c : ℕ → Bool) (d k y x : ℕ) → ForwardWay g u c k y x → IsOnWay g u x d → Passes d x → TightWay g c d k y x × IsOnWay g u y d
  tight-way c d zero y x s w passes = tight-from-forward d y x s w passes
  tight-way c d (suc k) y x s w passes =
      let r = tight-way c d k s.0 x s.3 w passes in
      let free = free-after y s.0 s.1 (way-passes c k s.0 x s.3) in
      let t = tight-from-forward d y s.0 s.1 r.1 (inr free) in
      ((s.0, t.0, s.2, r.0), t.1)

  pub ends-apart : (c : ℕ → Bool) (k y x : ℕ) → ForwardWay g u c k y x → x ≡ u → ⊥
  ends-apart c k y x w e = let l = way-last c k y x w in not-back l.0 x l.1 e
