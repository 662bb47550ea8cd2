-- Shortest walks over a node, and tunnels.
use Rattle.std.proofs.Common.{◌≡◌, ℕ, zero, suc, ◌+◌, ◌-◌, ◌<◌, ◌≤◌, ◌==◌, Bool, true, false, List, [], ◌∷◌, ◌++◌, length, Some, refl, ap, arith, sym, ◌∙◌, ◌⊎◌, inl, inr, Contains, subst}
use Rattle.std.proofs.lemmas.Option.{same_Some}
use Rattle.wire_base.specs.declared.view.ViewEdge.{ViewEdge}
use Rattle.wire_base.specs.declared.view.ViewNode.{ViewNode}
use Rattle.wire_base.specs.model.Graph.{is_overloaded, IsGraph}
use Rattle.wire_base.specs.model.Walk.{Leads, cost, dist}
use Rattle.wire_base.specs.model.Tight.{IsTight, tight_from}
use Rattle.wire_base.specs.model.Supporting.{TightWay, IsFirst}
use Rattle.laws_route.specs.OnWay.{IsOnWay}
use Rattle.wire_base.specs.model.Tight.{next_step, head}
use Rattle.wire_base.specs.model.HopCount.{tunnel_links}
use Rattle.laws_route.proofs.WalkLemmas.{best-route}
use Rattle.laws_route.proofs.DescentLemmas.{dist-least, dist-over, dist-edge, IsTight-within, IsTight-nearer}
use Rattle.laws_route.proofs.TightLemmas.{tight_list-IsTight}
use Rattle.laws_route.proofs.ChoiceLemmas.{follow-some}

-- a walk to x, and one on from x
pub Leads-append : (g : List ViewNode) (u x d : ℕ) (es fs : List ViewEdge) → is_overloaded g x ≡ false → Leads g u x es → Leads g x d fs → Leads g u d (es ++ fs)
Leads-append g u x d [] fs free l k = subst (λ y. Leads g y d fs) (sym l) k
Leads-append g u x d (e ∷ es) fs free l k = (l.0, inr (passes es l.1 l.2), Leads-append g e.to x d es fs free l.2 k)
  where
    passes : (es : List ViewEdge) → (es ≡ []) ⊎ (is_overloaded g e.to ≡ false) → Leads g e.to x es → is_overloaded g e.to ≡ false
    passes es (inr h) l = h
    passes [] (inl h) l = rw l free
    passes (y ∷ ys) (inl h) l = cc

pub cost-append : (es fs : List ViewEdge) → cost (es ++ fs) ≡ cost es + cost fs
cost-append [] fs = omega arith
cost-append (e ∷ es) fs = omega (arith, cost-append es fs)

-- the distance is no more than that over x
pub dist-through : (g : List ViewNode) → IsGraph g → (u x d a b : ℕ) → u < length g → (x ≡ d) ⊎ (is_overloaded g x ≡ false) → dist g u x ≡ Some a → dist g x d ≡ Some b
    → (k : ℕ) × (dist g u d ≡ Some k) × (k ≤ a + b)
unfolding dist
dist-through g good u x d a b node (inl ends) p q = (a, rw ends at p, omega arith)
dist-through g good u x d a b node (inr free) p q =
    let r = best-route g x (length g - 1) u a p in
    let s = best-route g d (length g - 1) x b q in
    let w = dist-least g good u d node (r.edges ++ s.edges) (Leads-append g u x d r.edges s.edges free r.leads s.leads) in
    (w.0, w.1, omega (arith, w.2, cost-append r.edges s.edges, r.sum, s.sum))

-- a way of tight steps as a walk to its end
record Walked (g : List ViewNode) (d u x : ℕ) : Type 0 where
  edges : List ViewEdge
  leads : Leads g u x edges
  near : ℕ
  on : dist g x d ≡ Some near
  whole : dist g u d ≡ Some (cost edges + near)
  passes : (x ≡ d) ⊎ (is_overloaded g x ≡ false)

walked : (g : List ViewNode) (c : ℕ → Bool) (d k u x : ℕ) → c d ≡ true → TightWay g c d k u x → Walked g d u x
walked g c d zero u x ends t =
    record {
      edges = t.edge ∷ [];
      leads = (t.leaves, inl refl, t.enters);
      near = t.rest;
      on = t.from_there;
      whole = t.whole ∙ ap Some (omega arith);
      passes = t.passes;
    }
walked g c d (suc k) u x ends w =
    let t = w.1 in
    let r = walked g c d k w.0 x ends w.3 in
    let same : t.rest ≡ cost r.edges + r.near = same_Some t.rest (cost r.edges + r.near) (sym t.from_there ∙ r.whole) in
    record {
      edges = t.edge ∷ r.edges;
      leads = (t.leaves, inr (rw t.enters (free w.0 w.2 t.passes)), rw t.enters r.leads);
      near = r.near;
      on = r.on;
      whole = t.whole ∙ ap Some (omega (arith, same));
      passes = r.passes;
    }
  where
    free : (y : ℕ) → c y ≡ false → (y ≡ d) ⊎ (is_overloaded g y ≡ false) → is_overloaded g y ≡ false
    free y h (inl e) = let z : c d ≡ false = rw e at h in cc
    free y h (inr f) = f

-- a first node toward d lies on a shortest walk to d
pub first-on-way : (g : List ViewNode) → IsGraph g → (c : ℕ → Bool) (d u x : ℕ) → u < length g → c d ≡ true → IsFirst g c d u x → IsOnWay g u x d × ((x ≡ d) ⊎ (is_overloaded g x ≡ false))
first-on-way g good c d u x node ends f =
    let w = walked g c d f.steps u x ends f.way in
    let a = dist-least g good u x node w.edges w.leads in
    let t = dist-through g good u x d a.0 w.near node w.passes a.1 w.on in
    let same : cost w.edges + w.near ≡ t.0 = same_Some (cost w.edges + w.near) t.0 (sym w.whole ∙ t.1) in
    let sum : cost w.edges + w.near ≡ a.0 + w.near = omega (arith, same, t.2, a.2) in
    (record { before = a.0; after = w.near; to = a.1; on = w.on; whole = w.whole ∙ ap Some sum }, w.passes)

-- a tight one_more toward a node on the way is tight toward the end, and the node is still on the way
pub IsTight-onward : (g : List ViewNode) → IsGraph g → (u x d v : ℕ) → u < length g → (x ≡ d) ⊎ (is_overloaded g x ≡ false) → IsOnWay g u x d → IsTight g x u v → IsTight g d u v × IsOnWay g v x d
IsTight-onward g good u x d v node passes w t =
    let within = IsTight-within g good x u v t in
    let a = dist-through g good v x d t.rest w.after within passes t.from_there w.on in
    let first : w.before ≡ t.edge.metric + t.rest = same_Some w.before (t.edge.metric + t.rest) (sym w.to ∙ t.whole) in
    let pass : (v ≡ d) ⊎ (is_overloaded g v ≡ false) = on t.passes passes in
    let o = dist-over g good u d a.0 t.edge node t.leaves (rw t.enters pass) (ap (λ y. dist g y d) t.enters ∙ a.1) in
    let same : w.before + w.after ≡ o.0 = same_Some (w.before + w.after) o.0 (sym w.whole ∙ o.1) in
    let sum : w.before + w.after ≡ t.edge.metric + a.0 = omega (arith, same, o.2, a.2, first) in
    let rest : a.0 ≡ t.rest + w.after = omega (arith, sum, first) in (
      record { edge = t.edge; leaves = t.leaves; enters = t.enters; passes = pass; rest = a.0; from_there = a.1; whole = w.whole ∙ ap Some sum },
      record { before = t.rest; after = w.after; to = t.from_there; on = w.on; whole = a.1 ∙ ap Some rest },
    )
  where
    on : (v ≡ x) ⊎ (is_overloaded g v ≡ false) → (x ≡ d) ⊎ (is_overloaded g x ≡ false) → (v ≡ d) ⊎ (is_overloaded g v ≡ false)
    on (inr f) p = inr f
    on (inl e) (inl h) = inl (e ∙ h)
    on (inl e) (inr f) = inr (rw e f)

head-from : (xs : List ℕ) (x : ℕ) → head xs ≡ Some x → Contains xs x
head-from [] x q = cc
head-from (y ∷ xs) x q = (0, omega arith, same_Some y x q)

head-some : (xs : List ℕ) (x : ℕ) → Contains xs x → (y : ℕ) × (head xs ≡ Some y)
head-some [] x (k, l, e) = absurd (omega arith)
head-some (y ∷ xs) x h = (y, refl)

module _ (g : List ViewNode) (good : IsGraph g) (d : ℕ) where
  -- the next one_more is tight
  pub next_step-tight : (u v : ℕ) → u < length g → next_step g d u ≡ Some v → IsTight g d u v
  unfolding next_step tight_from
  next_step-tight u v node q = (tight_list-IsTight g good d (λ x. dist g x d) (λ x l. refl) u node v).0 (head-from (tight_from g d u) v q)

  -- there is one wherever a walk leads to d
  pub next_step-some : (u n : ℕ) → u < length g → (u ≡ d → ⊥) → dist g u d ≡ Some n → (v : ℕ) × (next_step g d u ≡ Some v)
  unfolding next_step tight_from
  next_step-some u n node other q =
      let t = dist-edge g good u d n node other q in
      head-some (tight_from g d u) t.0 ((tight_list-IsTight g good d (λ x. dist g x d) (λ x l. refl) u node t.0).1 t.2)

  -- the next steps lead to d over fewer links than there are nodes
  pub tunnel_links-some : (u n : ℕ) → u < length g → dist g u d ≡ Some n → (h : ℕ) × (tunnel_links g d u ≡ Some h) × (h < length g)
  unfolding tunnel_links
  tunnel_links-some u n node q =
      follow-some g d (next_step g d) (λ z. z == d) (λ z l. refl) next_step-some
      (λ y x in' p. (IsTight-nearer g good d y x (next_step-tight y x in' p), IsTight-within g good d y x (next_step-tight y x in' p))) u n node q
