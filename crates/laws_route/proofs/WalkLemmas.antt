-- The recursion on the number of edges gives the least lengths of walks.
use Rattle.std.proofs.Common.{slice_get, ◌≡◌, ℕ, zero, suc, ◌+◌, ◌*◌, ◌^◌, ◌<◌, ◌≤◌, Bool, true, false, List, [], ◌∷◌, length, Option, Some, None, min, refl, ap, arith, sym, ◌∙◌, ◌==◌, ◌||◌, not, ◌⊎◌, inl, inr, Contains, All, option_map, if◌then◌else◌, subst}
use Rattle.std.proofs.lemmas.Option.{same_Some, slice_get_within, get_or_from_slice_get}
use Rattle.std.proofs.lemmas.List.Elements.{All-contains}
use Rattle.std.proofs.lemmas.Bool.{eq-eqb, cases_lt}
use Rattle.std.proofs.lemmas.Bool.Decides.{eqb_tells}
use Rattle.wire_base.specs.declared.view.ViewEdge.{ViewEdge}
use Rattle.wire_base.specs.declared.view.ViewNode.{ViewNode}
use Rattle.wire_base.specs.model.Graph.{edges_at, edges_of, is_overloaded, IsEdge, IsGraph}
use Rattle.laws_route.specs.Bounds.{IsAtMost}
use Rattle.wire_base.specs.model.Walk.{Leads, cost, IsDist, least, may_enter, over, least_over, best}

pub Contains-cases : {X : Type 0} (x : X) (xs : List X) (e : X) → Contains (x ∷ xs) e → (x ≡ e) ⊎ Contains xs e
Contains-cases x xs e (zero, l, q) = inl q
Contains-cases x xs e (suc k, l, q) = inr (k, omega arith, q)

pub at-most-of : (o : Option ℕ) (m n : ℕ) → o ≡ Some m → m ≤ n → IsAtMost o n
at-most-of o m n q h = rw q h

pub least-left : (a b : Option ℕ) (n : ℕ) → IsAtMost a n → IsAtMost (least a b) n
least-left None b n h = absurd h
least-left (Some x) None n h = h
least-left (Some x) (Some y) n h = omega arith

pub least-right : (a b : Option ℕ) (n : ℕ) → IsAtMost b n → IsAtMost (least a b) n
least-right None b n h = h
least-right (Some x) None n h = absurd h
least-right (Some x) (Some y) n h = omega arith

least-some : (x y n : ℕ) → min x y ≡ n → (x ≡ n) ⊎ (y ≡ n)
least-some x y n h = elim (cases_lt x y) [ inl l ↦ inl (omega arith) | inr l ↦ inr (omega arith) ]

pub least-from : (a b : Option ℕ) (n : ℕ) → least a b ≡ Some n → (a ≡ Some n) ⊎ (b ≡ Some n)
least-from None b n q = inr q
least-from (Some x) None n q = inl q
least-from (Some x) (Some y) n q =
    elim (least-some x y n (same_Some (min x y) n q)) [ inl h ↦ inl (ap Some h) | inr h ↦ inr (ap Some h) ]

-- a way on over the edge
pub record IsVia (g : List ViewNode) (d : ℕ) (f : ℕ → Option ℕ) (es : List ViewEdge) (n : ℕ) : Type 0 where
  pub edge : ViewEdge
  pub there : Contains es edge
  pub enters : may_enter g d edge.to ≡ true
  pub rest : ℕ
  pub from_there : f edge.to ≡ Some rest
  pub sum : edge.metric + rest ≡ n

choice-from : (b : Bool) (m : ℕ) (o : Option ℕ) (n : ℕ) → (if b then option_map (λ r. m + r) o else None) ≡ Some n → (b ≡ true) × ((r : ℕ) × (o ≡ Some r) × (m + r ≡ n))
choice-from false m o n q = cc
choice-from true m None n q = cc
choice-from true m (Some r) n q = (refl, (r, refl, same_Some (m + r) n q))

pub least_over-from : (g : List ViewNode) (d : ℕ) (f : ℕ → Option ℕ) (es : List ViewEdge) (n : ℕ) → least_over g d f es ≡ Some n → IsVia g d f es n
least_over-from g d f [] n q = cc
least_over-from g d f (e ∷ es) n q =
    elim (least-from (over g d f e) (least_over g d f es) n q) [
      | inl h ↦
          let w = choice-from (may_enter g d e.to) e.metric (f e.to) n h in
          record { edge = e; there = (0, omega arith, refl); enters = w.0; rest = w.1.0; from_there = w.1.1; sum = w.1.2 }
      | inr h ↦
          let w = least_over-from g d f es n h in
          record { edge = w.edge; there = (suc w.there.0, omega arith, w.there.2); enters = w.enters; rest = w.rest; from_there = w.from_there; sum = w.sum }
    ]

over-at : (b : Bool) (m r : ℕ) (o : Option ℕ) → b ≡ true → IsAtMost o r → IsAtMost (if b then option_map (λ r. m + r) o else None) (m + r)
over-at false m r o q h = cc
over-at true m r None q h = absurd h
over-at true m r (Some x) q h = omega arith

pub least_over-at : (g : List ViewNode) (d : ℕ) (f : ℕ → Option ℕ) (es : List ViewEdge) (e : ViewEdge) (r : ℕ) → Contains es e → may_enter g d e.to ≡ true → IsAtMost (f e.to) r → IsAtMost (least_over g d f es) (e.metric + r)
least_over-at g d f [] e r (k, l, q) enters h = absurd (omega arith)
least_over-at g d f (x ∷ es) e r there enters h =
    elim (Contains-cases x es e there) [
      | inl q ↦
          least-left (over g d f x) (least_over g d f es) (e.metric + r) (rw q (over-at (may_enter g d e.to) e.metric r (f e.to) enters h))
      | inr t ↦
          least-right (over g d f x) (least_over g d f es) (e.metric + r) (least_over-at g d f es e r t enters h)
    ]

-- edges that lead to d, at most k of them, with this sum
pub record IsRoute (g : List ViewNode) (u d k n : ℕ) : Type 0 where
  pub edges : List ViewEdge
  pub leads : Leads g u d edges
  pub within : length edges ≤ k
  pub sum : cost edges ≡ n

pub enter-cases : (g : List ViewNode) (d x : ℕ) → may_enter g d x ≡ true → (x ≡ d) ⊎ (is_overloaded g x ≡ false)
enter-cases g d x q = elim (eqb_tells x d) [ inl h ↦ inl h.1 | inr h ↦ inr (not-true (is_overloaded g x) (rw h.0 at q)) ]
  where
    not-true : (b : Bool) → not b ≡ true → b ≡ false
    not-true false q = refl
    not-true true q = cc

pub may-enter-end : (g : List ViewNode) (d x : ℕ) → x ≡ d → may_enter g d x ≡ true
may-enter-end g d x q = rw (eq-eqb x d q) refl

pub may-enter-free : (g : List ViewNode) (d x : ℕ) → is_overloaded g x ≡ false → may_enter g d x ≡ true
may-enter-free g d x q = rw q (or-true (x == d))
  where
    or-true : (b : Bool) → (b || true) ≡ true
    or-true false = refl
    or-true true = refl

pub best-end : (g : List ViewNode) (d k u : ℕ) → u ≡ d → best g d k u ≡ Some 0
best-end g d zero u q = rw (eq-eqb u d q) refl
best-end g d (suc k) u q = rw (eq-eqb u d q) refl

-- a least length is that of a walk
pub best-route : (g : List ViewNode) (d k u n : ℕ) → best g d k u ≡ Some n → IsRoute g u d k n
best-route g d zero u n q =
    elim (eqb_tells u d) [
      | inl h ↦ record { edges = []; leads = h.1; within = omega arith; sum = same_Some 0 n (rw h.0 at q) }
      | inr h ↦ let no : None ≡ Some n = rw h.0 at q in cc
    ]
best-route g d (suc k) u n q =
    elim (eqb_tells u d) [
      | inl h ↦ record { edges = []; leads = h.1; within = omega arith; sum = same_Some 0 n (rw h.0 at q) }
      | inr h ↦
          let w = least_over-from g d (best g d k) (edges_of g u) n (rw h.0 at q) in
          elim (enter-cases g d w.edge.to w.enters) [
            | inl ends ↦
                let none : w.rest ≡ 0 = same_Some w.rest 0 (sym w.from_there ∙ best-end g d k w.edge.to ends) in
                record { edges = w.edge ∷ []; leads = (w.there, inl refl, ends); within = omega arith; sum = omega (arith, w.sum) }
            | inr free ↦
                let r = best-route g d k w.edge.to w.rest w.from_there in
                record { edges = w.edge ∷ r.edges; leads = (w.there, inr free, r.leads); within = omega (arith, r.within); sum = omega (arith, r.sum, w.sum) }
          ]
    ]

-- and no walk is shorter
pub best-least : (g : List ViewNode) (d k u : ℕ) (es : List ViewEdge) → Leads g u d es → length es ≤ k → IsAtMost (best g d k u) (cost es)
best-least g d k u [] leads within = rw (best-end g d k u leads) (omega arith)
best-least g d zero u (e ∷ es) leads within = absurd (omega arith)
best-least g d (suc k) u (e ∷ es) leads within =
    elim (eqb_tells u d) [
      | inl h ↦ rw (best-end g d (suc k) u h.1) (omega arith)
      | inr h ↦
          rw h.0
          (least_over-at g d (best g d k) (edges_of g u) e (cost es) leads.0 (entered leads.1 leads.2) (best-least g d k e.to es leads.2 (omega arith)))
    ]
  where
    ended : (es : List ViewEdge) → es ≡ [] → Leads g e.to d es → e.to ≡ d
    ended [] q l = l
    ended (x ∷ xs) q l = cc

    entered : (es ≡ []) ⊎ (is_overloaded g e.to ≡ false) → Leads g e.to d es → may_enter g d e.to ≡ true
    entered (inl q) l = may-enter-end g d e.to (ended es q l)
    entered (inr q) l = may-enter-free g d e.to q

dist-from : (g : List ViewNode) (d u k : ℕ) (o : Option ℕ) → o ≡ best g d k u → suc k ≡ length g → IsDist g u d o
dist-from g d u k None q n = λ es w. subst (λ x. IsAtMost x (cost es)) (sym q) (best-least g d k u es w.leads (omega (arith, w.short)))
dist-from g d u k (Some m) q n =
    let r = best-route g d k u m (sym q) in (
      (r.edges, record { leads = r.leads; short = omega (arith, r.within) }, r.sum),
      λ es w. subst (λ x. IsAtMost x (cost es)) (sym q) (best-least g d k u es w.leads (omega (arith, w.short))),
    )

-- with one edge fewer than there are nodes it gives the distances
pub best-IsDist : (g : List ViewNode) (d u k : ℕ) → suc k ≡ length g → IsDist g u d (best g d k u)
best-IsDist g d u k n = dist-from g d u k (best g d k u) refl n

pub edges-good : (g : List ViewNode) → IsGraph g → (u : ℕ) → All (IsEdge (length g)) (edges_of g u)
edges-good g h u = from (slice_get g u) refl
  where
    from : (o : Option ViewNode) → slice_get g u ≡ o → All (IsEdge (length g)) (edges_at o)
    from None q = λ k d l. absurd (omega arith)
    from (Some n) q = (rw (get_or_from_slice_get g u n n q) at (h.nodes u n (slice_get_within g u n q))).edges

-- only nodes have edges
pub edges-node : (g : List ViewNode) (u : ℕ) (e : ViewEdge) → Contains (edges_of g u) e → u < length g
edges-node g u e there = go (slice_get g u) refl there
  where
    go : (o : Option ViewNode) → slice_get g u ≡ o → Contains (edges_at o) e → u < length g
    go None q (k, l, p) = absurd (omega arith)
    go (Some n) q h = slice_get_within g u n q

cost-small : (g : List ViewNode) → IsGraph g → (u d : ℕ) (es : List ViewEdge) → Leads g u d es → cost es ≤ length es * 2 ^ 32
cost-small g h u d [] l = omega arith
cost-small g h u d (e ∷ es) l =
    let good = All-contains (IsEdge (length g)) (edges_of g u) e (edges-good g h u) l.0 in
    omega (arith, good.small, cost-small g h e.to d es l.2)
