-- A walk that comes to a node twice can be cut short.
use Rattle.std.proofs.Common.{◌≡◌, ℕ, zero, suc, ◌<◌, ◌≤◌, List, [], ◌∷◌, length, refl, ap, arith, sym, ◌∙◌, ◌⊎◌, inl, inr, Contains, subst}
use Rattle.std.proofs.lemmas.Bool.Decides.{eqb_tells}
use Rattle.std.proofs.lemmas.List.Elements.{All-contains}
use Rattle.wire_base.specs.declared.view.ViewEdge.{ViewEdge}
use Rattle.wire_base.specs.declared.view.ViewNode.{ViewNode}
use Rattle.wire_base.specs.model.Graph.{edges_of, IsEdge, IsGraph}
use Rattle.wire_base.specs.model.Walk.{Leads, cost}
use Rattle.laws_route.proofs.WalkLemmas.{Contains-cases, edges-good}

-- the numbers below n
pub below : ℕ → List ℕ
below zero = []
below (suc n) = n ∷ below n

pub length-below : (n : ℕ) → length (below n) ≡ n
unfolding below
length-below zero = refl
length-below (suc n) = ap suc (length-below n)

Contains-more : {X : Type 0} (x : X) (xs : List X) (e : X) → Contains xs e → Contains (x ∷ xs) e
Contains-more x xs e (k, l, q) = (suc k, omega arith, q)

pub Contains-below : (n x : ℕ) → x < n → Contains (below n) x
unfolding below
Contains-below zero x h = absurd (omega arith)
Contains-below (suc n) x h =
    elim (eqb_tells n x) [
      | inl q ↦ (0, omega arith, q.1)
      | inr q ↦ let ne : n ≡ x → ⊥ = q.1 in Contains-more n (below n) x (Contains-below n x (omega arith))
    ]

-- the list without u is shorter
pub record Without (u : ℕ) (ns : List ℕ) : Type 0 where
  pub left : List ℕ
  pub shorter : length ns ≡ suc (length left)
  pub others : (x : ℕ) → Contains ns x → (x ≡ u → ⊥) → Contains left x

pub without : (u : ℕ) (ns : List ℕ) → Contains ns u → Without u ns
without u [] (k, l, q) = absurd (omega arith)
without u (n ∷ ns) there =
    elim (Contains-cases n ns u there) [
      | inl q ↦
          record {
            left = ns;
            shorter = refl;
            others = λ x h ne. elim (Contains-cases n ns x h) [ inl p ↦ absurd (ne (sym p ∙ q)) | inr t ↦ t ];
          }
      | inr t ↦
          let w = without u ns t in
          record {
            left = n ∷ w.left;
            shorter = ap suc w.shorter;
            others =
                λ x h ne.
                elim (Contains-cases n ns x h) [
                  | inl p ↦ (0, omega arith, p)
                  | inr s ↦ Contains-more n w.left x (w.others x s ne)
                ];
          }
    ]

-- each node that the edges lead to is in the list
abbrev Visits : List ℕ → List ViewEdge → Type 0
Visits ns [] = Unit {0}
Visits ns (e ∷ es) = Contains ns e.to × Visits ns es

-- no edge leads to u
abbrev Avoids : ℕ → List ViewEdge → Type 0
Avoids u [] = Unit {0}
Avoids u (e ∷ es) = (e.to ≡ u → ⊥) × Avoids u es

visits-others : (u : ℕ) (ns : List ℕ) (w : Without u ns) (es : List ViewEdge) → Visits ns es → Avoids u es → Visits w.left es
visits-others u ns w [] v a = tt
visits-others u ns w (e ∷ es) v a = (w.others e.to v.0 a.0, visits-others u ns w es v.1 a.1)

module _ (g : List ViewNode) (d : ℕ) where
  -- a walk from u that does not come back to u
  record Tail (u : ℕ) (ns : List ℕ) (n : ℕ) : Type 0 where
    edges : List ViewEdge
    leads : Leads g u d edges
    cheaper : cost edges ≤ n
    visits : Visits ns edges
    avoids : Avoids u edges

  -- what comes after the last visit to u
  tail : (u : ℕ) (ns : List ℕ) (y : ℕ) (es : List ViewEdge) → Leads g y d es → Visits ns es → Avoids u es ⊎ Tail u ns (cost es)
  tail u ns y [] l v = inl tt
  tail u ns y (e ∷ es) l v =
      elim (tail u ns e.to es l.2 v.1) [
        | inr t ↦ inr (record { edges = t.edges; leads = t.leads; cheaper = omega (arith, t.cheaper); visits = t.visits; avoids = t.avoids })
        | inl a ↦
            elim (eqb_tells e.to u) [
              | inl q ↦ inr (record { edges = es; leads = subst (λ z. Leads g z d es) q.1 l.2; cheaper = omega arith; visits = v.1; avoids = a })
              | inr q ↦ inl (q.1, a)
            ]
      ]

  last_tail : (u : ℕ) (ns : List ℕ) (es : List ViewEdge) → Leads g u d es → Visits ns es → Tail u ns (cost es)
  last_tail u ns es l v =
      elim (tail u ns u es l v) [
        | inl a ↦ record { edges = es; leads = l; cheaper = omega arith; visits = v; avoids = a }
        | inr t ↦ t
      ]

  -- a walk of fewer than k edges that costs at most n
  record Short (u k n : ℕ) : Type 0 where
    edges : List ViewEdge
    leads : Leads g u d edges
    short : length edges < k
    cheaper : cost edges ≤ n

  -- one edge, and then a short walk
  join : (k u n : ℕ) (ns : List ℕ) (w : Without u ns) → length w.left ≡ k
      → ((y : ℕ) (fs : List ViewEdge) → Contains w.left y → Leads g y d fs → Visits w.left fs → Short y k (cost fs))
      → (fs : List ViewEdge) → Leads g u d fs → cost fs ≤ n → Visits ns fs → Avoids u fs → Short u (suc k) n
  join k u n ns w long rest [] l cheap v a = record { edges = []; leads = l; short = omega arith; cheaper = cheap }
  join k u n ns w long rest (e ∷ fs) l cheap v a =
      let there = w.others e.to v.0 a.0 in
      elim l.1 [
        | inl none ↦
            record {
              edges = e ∷ [];
              leads = (l.0, inl refl, subst (λ xs. Leads g e.to d xs) none l.2);
              short = omega (arith, there.1);
              cheaper = omega arith;
            }
        | inr free ↦
            let r = rest e.to fs there l.2 (visits-others u ns w fs v.1 a.1) in
            record { edges = e ∷ r.edges; leads = (l.0, inr free, r.leads); short = omega (arith, r.short); cheaper = omega (arith, r.cheaper) }
      ]

  shorten : (k : ℕ) (ns : List ℕ) → length ns ≡ k → (u : ℕ) (es : List ViewEdge) → Contains ns u → Leads g u d es → Visits ns es → Short u k (cost es)
  shorten zero ns long u es there l v = absurd (omega (arith, there.1))
  shorten (suc k) ns long u es there l v =
      let w = without u ns there in
      let t = last_tail u ns es l v in
      let left : length w.left ≡ k = omega (arith, w.shorter) in
      join k u (cost es) ns w left (λ y fs at m vs. shorten k w.left left y fs at m vs) t.edges t.leads t.cheaper t.visits t.avoids

  visits-below : (u : ℕ) (es : List ViewEdge) → IsGraph g → Leads g u d es → Visits (below (length g)) es
  visits-below u [] good l = tt
  visits-below u (e ∷ es) good l =
      let here = All-contains (IsEdge (length g)) (edges_of g u) e (edges-good g good u) l.0 in
      (Contains-below (length g) e.to here.names, visits-below e.to es good l.2)

  -- each walk has one of fewer edges than there are nodes, that costs no more
  pub shortened : (u : ℕ) (es : List ViewEdge) → IsGraph g → u < length g → Leads g u d es
      → (fs : List ViewEdge) × Leads g u d fs × (length fs < length g) × (cost fs ≤ cost es)
  shortened u es good node l =
      let r = shorten (length g) (below (length g)) (length-below (length g)) u es (Contains-below (length g) u node) l (visits-below u es good l) in
      (r.edges, r.leads, r.short, r.cheaper)
