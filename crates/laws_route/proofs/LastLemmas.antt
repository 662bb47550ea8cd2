-- The last edge of a shortest walk.
use Rattle.std.proofs.Common.{◌≡◌, ℕ, ◌+◌, ◌-◌, ◌<◌, ◌≤◌, false, List, [], ◌∷◌, ◌++◌, length, Some, refl, ap, arith, sym, ◌∙◌, ◌⊎◌, inl, inr, Contains, subst}
use Rattle.std.proofs.lemmas.Option.{same_Some}
use Rattle.wire_base.specs.declared.view.ViewEdge.{ViewEdge}
use Rattle.wire_base.specs.declared.view.ViewNode.{ViewNode}
use Rattle.wire_base.specs.model.Graph.{edges_of, is_overloaded, IsGraph}
use Rattle.wire_base.specs.model.Walk.{Leads, cost, dist}
use Rattle.laws_route.proofs.WalkLemmas.{best-route}
use Rattle.laws_route.proofs.DescentLemmas.{dist-least, edge-within}
use Rattle.laws_route.proofs.RouteLemmas.{Leads-append, cost-append}

-- over the last edge from a node that may be passed, the distance is no more than the one before and the metric
pub dist-last-over : (g : List ViewNode) → IsGraph g → (u x r : ℕ) (e : ViewEdge) → u < length g → (x ≡ u) ⊎ (is_overloaded g x ≡ false) → Contains (edges_of g x) e → dist g u x ≡ Some r
    → (k : ℕ) × (dist g u e.to ≡ Some k) × (k ≤ r + e.metric)
unfolding dist
dist-last-over g good u x r e node (inl same) there q =
    let w = dist-least g good u e.to node (e ∷ []) (subst (λ y. Contains (edges_of g y) e) same there, inl refl, refl) in
    (w.0, w.1, omega (arith, w.2))
dist-last-over g good u x r e node (inr free) there q =
    let p = best-route g x (length g - 1) u r q in
    let w = dist-least g good u e.to node (p.edges ++ e ∷ []) (Leads-append g u x e.to p.edges (e ∷ []) free p.leads (there, inl refl, refl)) in
    (w.0, w.1, omega (arith, w.2, cost-append p.edges (e ∷ []), p.sum))

-- a walk as what comes before its last edge, and that edge
record LastStep (g : List ViewNode) (u d n : ℕ) : Type 0 where
  from : ℕ
  before : List ViewEdge
  leads : Leads g u from before
  edge : ViewEdge
  there : Contains (edges_of g from) edge
  ends : edge.to ≡ d
  passes : (from ≡ u) ⊎ (is_overloaded g from ≡ false)
  sum : cost before + edge.metric ≡ n

last-step : (g : List ViewNode) (u d : ℕ) (e : ViewEdge) (es : List ViewEdge) → Leads g u d (e ∷ es) → LastStep g u d (cost (e ∷ es))
last-step g u d e [] l = record { from = u; before = []; leads = refl; edge = e; there = l.0; ends = l.2; passes = inl refl; sum = omega arith }
last-step g u d e (x ∷ xs) l =
    let s = last-step g e.to d x xs l.2 in
    let f = free l.1 in
    record {
      from = s.from;
      before = e ∷ s.before;
      leads = (l.0, inr f, s.leads);
      edge = s.edge;
      there = s.there;
      ends = s.ends;
      passes = inr (on s.from f s.passes);
      sum = omega (arith, s.sum);
    }
  where
    free : (x ∷ xs ≡ []) ⊎ (is_overloaded g e.to ≡ false) → is_overloaded g e.to ≡ false
    free (inl h) = cc
    free (inr h) = h

    on : (y : ℕ) → is_overloaded g e.to ≡ false → (y ≡ e.to) ⊎ (is_overloaded g y ≡ false) → is_overloaded g y ≡ false
    on y f (inl h) = ap (is_overloaded g) h ∙ f
    on y f (inr h) = h

pub leads-within : (g : List ViewNode) → IsGraph g → (u d : ℕ) (es : List ViewEdge) → u < length g → Leads g u d es → d < length g
leads-within g good u d [] node l = omega (arith, l)
leads-within g good u d (e ∷ es) node l = leads-within g good e.to d es (edge-within g good u e l.0).names l.2

-- a distance is that of a node before and of a last edge
pub record IsLast (g : List ViewNode) (u d n : ℕ) : Type 0 where
  pub from : ℕ
  pub within : from < length g
  pub passes : (from ≡ u) ⊎ (is_overloaded g from ≡ false)
  pub edge : ViewEdge
  pub there : Contains (edges_of g from) edge
  pub ends : edge.to ≡ d
  pub rest : ℕ
  pub known : dist g u from ≡ Some rest
  pub sum : rest + edge.metric ≡ n

pub dist-last : (g : List ViewNode) → IsGraph g → (u d n : ℕ) → u < length g → (d ≡ u → ⊥) → dist g u d ≡ Some n → IsLast g u d n
unfolding dist
dist-last g good u d n node apart q =
    let r = best-route g d (length g - 1) u n q in
    from r.edges r.leads r.sum
  where
    from : (es : List ViewEdge) → Leads g u d es → cost es ≡ n → IsLast g u d n
    from [] l s = absurd (apart (sym l))
    from (e ∷ es) l s =
        let t = last-step g u d e es l in
        let w = dist-least g good u t.from node t.before t.leads in
        let o = dist-last-over g good u t.from w.0 t.edge node t.passes t.there w.1 in
        let same : n ≡ o.0 = same_Some n o.0 (sym q ∙ ap (dist g u) (sym t.ends) ∙ o.1) in
        record {
          from = t.from;
          within = leads-within g good u t.from t.before node t.leads;
          passes = t.passes;
          edge = t.edge;
          there = t.there;
          ends = t.ends;
          rest = w.0;
          known = w.1;
          sum = omega (arith, same, o.2, w.2, t.sum, s);
        }
