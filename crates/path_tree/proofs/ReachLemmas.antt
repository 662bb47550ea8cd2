-- What the searches are to find.
use Rattle.std.proofs.Common.{◌≡◌, ℕ, ◌+◌, ◌-◌, ◌*◌, ◌<◌, ◌≤◌, ◌^◌, ◌⊎◌, inl, inr, true, false, not, ◌||◌, ◌==◌, List, [], ◌∷◌, length, Contains, Option, Some, None, IfSome, refl, ap, arith, sym, ◌∙◌, subst}
use Rattle.std.proofs.lemmas.Option.{same_Some}
use Rattle.std.proofs.lemmas.List.Elements.{All-contains}
use Rattle.wire_base.specs.declared.view.ViewEdge.{ViewEdge}
use Rattle.wire_base.specs.declared.view.ViewNode.{ViewNode}
use Rattle.wire_base.specs.model.Graph.{edges_of, is_overloaded, IsEdge, IsGraph}
use Rattle.wire_base.specs.model.Walk.{AreDists, IsDist, Leads, best, cost, dist, may_enter}
use Rattle.laws_route.proofs.WalkLemmas.{at-most-of, best-IsDist, best-route, edges-good, edges-node, enter-cases, may-enter-end, may-enter-free}
use Rattle.laws_route.proofs.DescentLemmas.{dist-end, dist-over, dist-edge, edge-within}
use Rattle.laws_route.proofs.LastLemmas.{dist-last-over, dist-last}
use Rattle.path_tree.specs.Search.{IsReach, lengths}
use Rattle.path_tree.specs.Ways.{IsTurned, AreDistsFrom}

module _ (g : List ViewNode) (good : IsGraph g) where
  cost-small : (u d : ℕ) (es : List ViewEdge) → Leads g u d es → cost es ≤ length es * 2 ^ 32
  cost-small u d [] leads = omega arith
  cost-small u d (e ∷ es) leads =
      let fits = All-contains (IsEdge (length g)) (edges_of g u) e (edges-good g good u) leads.0 in
      omega (arith, fits.small, cost-small e.to d es leads.2)

  -- so that with one edge more it is below 2 ^ 48
  dist-small : (u d : ℕ) → IfSome (dist g u d) (λ n. n ≤ 65535 * 2 ^ 32)
  unfolding dist
  dist-small u d = from (best g d (length g - 1) u) refl
    where
      from : (o : Option ℕ) → best g d (length g - 1) u ≡ o → IfSome o (λ n. n ≤ 65535 * 2 ^ 32)
      from None q = tt
      from (Some n) q =
          let r = best-route g d (length g - 1) u n q in
          omega (arith, good.few, r.within, r.sum, cost-small u d r.edges r.leads)

  entered : (d x : ℕ) → (x ≡ d) ⊎ (is_overloaded g x ≡ false) → may_enter g d x ≡ true
  entered d x (inl h) = may-enter-end g d x h
  entered d x (inr h) = may-enter-free g d x h

  -- a search from d over the edges turned round
  pub reach-to : (t : List ViewNode) → IsTurned g t → (d : ℕ) → d < length g → IsReach (length g) (edges_of t) (may_enter t d) d (λ x. dist g x d)
  reach-to t i d node =
      record {
        starts = dist-end g d;
        over =
            λ x e r within enters there q.
            (let was = (i.each x e within).0 there in
            let o = dist-over g good e.to d r (record { to = x; metric = e.metric }) (edges-node g e.to (record { to = x; metric = e.metric }) was) was (enter-cases g d x (sym (enters-same d x) ∙ enters)) q in
            at-most-of (dist g e.to d) o.0 (r + e.metric) o.1 (omega (arith, o.2)));
        last =
            λ y n within apart q.
            (let s = dist-edge g good y d n within apart q in
            let k = s.2 in
            let leaves : Contains (edges_of g y) (record { to = s.0; metric = k.edge.metric }) = subst (λ (v : ℕ). Contains (edges_of g y) (record { to = v; metric = k.edge.metric })) k.enters k.leaves in
            let sum : k.rest + k.edge.metric ≡ n = same-sum y n k.edge.metric k.rest q k.whole in
            record {
              from = s.0;
              within = s.1;
              goes_on = enters-same d s.0 ∙ entered d s.0 k.passes;
              edge = record { to = y; metric = k.edge.metric };
              there = (i.each s.0 (record { to = y; metric = k.edge.metric }) s.1).1 leaves;
              leads = refl;
              rest = k.rest;
              known = k.from_there;
              sum = sum;
              positive = (edge-within g good y k.edge k.leaves).positive;
            });
        small = λ x within. dist-small x d;
      }
    where
      enters-same : (d x : ℕ) → may_enter t d x ≡ may_enter g d x
      enters-same d x = ap (λ b. (x == d) || not b) (i.overload x)

      same-sum : (y n m r : ℕ) → dist g y d ≡ Some n → dist g y d ≡ Some (m + r) → r + m ≡ n
      same-sum y n m r p q = let e : n ≡ m + r = same_Some n (m + r) (sym p ∙ q) in omega arith

  -- a search from u over the edges of each node
  pub reach-from : (u : ℕ) → u < length g → IsReach (length g) (edges_of g) (may_enter g u) u (λ x. dist g u x)
  reach-from u node =
      record {
        starts = dist-end g u;
        over =
            λ x e r within enters there q.
            (let w = dist-last-over g good u x r e node (enter-cases g u x enters) there q in
            at-most-of (dist g u e.to) w.0 (r + e.metric) w.1 w.2);
        last =
            λ y n within apart q.
            (let t = dist-last g good u y n node apart q in
            record {
              from = t.from;
              within = t.within;
              goes_on = entered u t.from t.passes;
              edge = t.edge;
              there = t.there;
              leads = t.ends;
              rest = t.rest;
              known = t.known;
              sum = t.sum;
              positive = (edge-within g good t.from t.edge t.there).positive;
            });
        small = λ x within. dist-small u x;
      }

  pub dists-to : (t : List ViewNode) → IsTurned g t → (d : ℕ) → d < length g → (xs : List (Option ℕ)) → length xs ≡ length g
      → ((f : ℕ → Option ℕ) → IsReach (length g) (edges_of t) (may_enter t d) d f → (x : ℕ) → x < length g → lengths xs x ≡ f x) → AreDists g d xs
  dists-to t i d node xs long found = record { rows = long; each = found (λ x. dist g x d) (reach-to t i d node) }

  pub dists-from : (u : ℕ) → u < length g → (xs : List (Option ℕ)) → length xs ≡ length g
      → ((f : ℕ → Option ℕ) → IsReach (length g) (edges_of g) (may_enter g u) u f → (x : ℕ) → x < length g → lengths xs x ≡ f x) → AreDistsFrom g u xs
  dists-from u node xs long found = record { rows = long; each = found (λ x. dist g u x) (reach-from u node) }

dist-is : (g : List ViewNode) (u d : ℕ) → u < length g → IsDist g u d (dist g u d)
unfolding dist
dist-is g u d within = best-IsDist g d u (length g - 1) (omega arith)

-- the distances as those of walks
pub walks-to : (g : List ViewNode) (d : ℕ) (xs : List (Option ℕ)) → AreDists g d xs → (u : ℕ) → u < length g → IsDist g u d (lengths xs u)
walks-to g d xs a u within = subst (λ o. IsDist g u d o) (sym (a.each u within)) (dist-is g u d within)

pub walks-from : (g : List ViewNode) (u : ℕ) (xs : List (Option ℕ)) → u < length g → AreDistsFrom g u xs → (d : ℕ) → d < length g → IsDist g u d (lengths xs d)
walks-from g u xs node a d within = subst (λ o. IsDist g u d o) (sym (a.each d within)) (dist-is g u d node)
