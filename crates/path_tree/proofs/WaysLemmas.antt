-- The edges that lead into a node.
use Rattle.std.proofs.Common.{◌≡◌, ℕ, zero, suc, ◌<◌, ◌≤◌, ◌⊎◌, inl, inr, List, [], ◌∷◌, ◌++◌, length, fold, map, replicate, get_or, Contains, All, false, ◌↔◌, refl, ap, arith, sym, ◌∙◌, subst}
use Rattle.std.proofs.lemmas.Bool.Decides.{eqb_tells}
use Rattle.std.proofs.lemmas.List.{get_or_default, get_or-set_same, get_or-set_other, get_or-replicate, get_or_past, length-replicate, length-map}
use Rattle.std.proofs.lemmas.List.Elements.{Contains-append_left, Contains-append_right, Contains-append_cases, All-head, All-tail}
use Rattle.std.proofs.lemmas.Bool.{cases_lt}
use Rattle.std.proofs.Math.ListN.{length-set}
use Rattle.wire_base.specs.declared.view.ViewEdge.{ViewEdge}
use Rattle.wire_base.specs.declared.view.ViewNode.{ViewNode}
use Rattle.wire_base.specs.model.Graph.{edges_of, is_overloaded, IsEdge, IsGraph}
use Rattle.laws_route.proofs.WalkLemmas.{Contains-cases, edges-good, edges-node}
use Rattle.laws_route.proofs.DescentLemmas.{edge-within}
use Rattle.laws_route.proofs.TightLemmas.{Contains-cons}
use Rattle.path_tree.specs.Ways.{ways_of, put, turned, AreIncoming, IsTurned}

nothing : {X : Type 0} (x : X) → Contains {X = X} [] x → ⊥
nothing x (k, l, q) = omega arith

one : {X : Type 0} (z w : X) → Contains (z ∷ []) w → z ≡ w
one z w m = elim (Contains-cases z [] w m) [ inl e ↦ e | inr n ↦ absurd (nothing w n) ]

edge_of : ℕ → ℕ → ViewEdge
edge_of to metric = record { to = to; metric = metric }

pub turned_edge : ℕ → ViewEdge → ViewEdge
turned_edge from e = record { to = from; metric = e.metric }

module _ (from : ℕ) where
  pub length-put : (w : List (List ViewEdge)) (e : ViewEdge) → length (put from w e) ≡ length w
  length-put w e = length-set w e.to (ways_of w e.to ++ record { to = from; metric = e.metric } ∷ [])

  pub length-along : (es : List ViewEdge) (w : List (List ViewEdge)) → length (fold (put from) w es) ≡ length w
  length-along [] w = refl
  length-along (e ∷ es) w = length-along es (put from w e) ∙ length-put w e

  put-cases : (w : List (List ViewEdge)) (e : ViewEdge) (x : ℕ) (z : ViewEdge) → e.to < length w → Contains (ways_of (put from w e) x) z → Contains (ways_of w x) z ⊎ ((e.to ≡ x) × (turned_edge from e ≡ z))
  unfolding turned_edge
  put-cases w e x z within there =
      elim (eqb_tells x e.to) [
        | inl s ↦
            let here : Contains (ways_of (put from w e) e.to) z = subst (λ y. Contains (ways_of (put from w e) y) z) s.1 there in
            let all : Contains (ways_of w e.to ++ turned_edge from e ∷ []) z = subst (λ zs. Contains zs z) (get_or-set_same w e.to (ways_of w e.to ++ turned_edge from e ∷ []) [] within) here in
            elim (Contains-append_cases (ways_of w e.to) (turned_edge from e ∷ []) z all) [
              | inl a ↦ inl (subst (λ y. Contains (ways_of w y) z) (sym s.1) a)
              | inr b ↦ inr (sym s.1, one (turned_edge from e) z b)
            ]
        | inr s ↦ inl (subst (λ zs. Contains zs z) (get_or-set_other w e.to x (ways_of w e.to ++ turned_edge from e ∷ []) [] s.1) there)
      ]

  put-old : (w : List (List ViewEdge)) (e : ViewEdge) (x : ℕ) (z : ViewEdge) → e.to < length w → Contains (ways_of w x) z → Contains (ways_of (put from w e) x) z
  unfolding turned_edge
  put-old w e x z within there =
      elim (eqb_tells x e.to) [
        | inl s ↦
            let a : Contains (ways_of w e.to) z = subst (λ y. Contains (ways_of w y) z) s.1 there in
            let b : Contains (ways_of w e.to ++ turned_edge from e ∷ []) z = Contains-append_left (ways_of w e.to) (turned_edge from e ∷ []) z a in
            let here : Contains (ways_of (put from w e) e.to) z = subst (λ zs. Contains zs z) (sym (get_or-set_same w e.to (ways_of w e.to ++ turned_edge from e ∷ []) [] within)) b in
            subst (λ y. Contains (ways_of (put from w e) y) z) (sym s.1) here
        | inr s ↦ subst (λ zs. Contains zs z) (sym (get_or-set_other w e.to x (ways_of w e.to ++ turned_edge from e ∷ []) [] s.1)) there
      ]

  put-new : (w : List (List ViewEdge)) (e : ViewEdge) → e.to < length w → Contains (ways_of (put from w e) e.to) (turned_edge from e)
  unfolding turned_edge
  put-new w e within =
      subst (λ zs. Contains zs (turned_edge from e)) (sym (get_or-set_same w e.to (ways_of w e.to ++ turned_edge from e ∷ []) [] within))
      (Contains-append_right (ways_of w e.to) (turned_edge from e ∷ []) (turned_edge from e) (0, omega arith, refl))

  pub along-cases : (es : List ViewEdge) (w : List (List ViewEdge)) (x : ℕ) (z : ViewEdge) → All (λ e. IsEdge (length w) e) es → Contains (ways_of (fold (put from) w es) x) z
      → Contains (ways_of w x) z ⊎ ((z.to ≡ from) × Contains es (record { to = x; metric = z.metric }))
  unfolding turned_edge edge_of
  along-cases [] w x z good there = inl there
  along-cases (e ∷ es) w x z good there =
      let here = All-head (λ e. IsEdge (length w) e) e es good in
      let rest = subst (λ n. All (λ e. IsEdge n e) es) (sym (length-put w e)) (All-tail (λ e. IsEdge (length w) e) e es good) in
      elim (along-cases es (put from w e) x z rest there) [
        | inr r ↦ inr (r.0, Contains-cons e es (record { to = x; metric = z.metric }) r.1)
        | inl a ↦
            elim (put-cases w e x z here.names a) [
              | inl b ↦ inl b
              | inr s ↦
                  let m : e.metric ≡ z.metric = ap (λ (y : ViewEdge). y.metric) s.1 in
                  let same : e ≡ edge_of x z.metric = ap (λ (t : ℕ). edge_of t e.metric) s.0 ∙ ap (λ (n : ℕ). edge_of x n) m in
                  inr (ap (λ (y : ViewEdge). y.to) (sym s.1), (0, omega arith, same))
            ]
      ]

  pub along-old : (es : List ViewEdge) (w : List (List ViewEdge)) (x : ℕ) (z : ViewEdge) → All (λ e. IsEdge (length w) e) es → Contains (ways_of w x) z → Contains (ways_of (fold (put from) w es) x) z
  along-old [] w x z good there = there
  along-old (e ∷ es) w x z good there =
      let here = All-head (λ e. IsEdge (length w) e) e es good in
      let rest = subst (λ n. All (λ e. IsEdge n e) es) (sym (length-put w e)) (All-tail (λ e. IsEdge (length w) e) e es good) in
      along-old es (put from w e) x z rest (put-old w e x z here.names there)

  pub along-new : (es : List ViewEdge) (w : List (List ViewEdge)) (y : ViewEdge) → All (λ e. IsEdge (length w) e) es → Contains es y → Contains (ways_of (fold (put from) w es) y.to) (turned_edge from y)
  along-new [] w y good there = absurd (nothing y there)
  along-new (e ∷ es) w y good there =
      let here = All-head (λ e. IsEdge (length w) e) e es good in
      let rest = subst (λ n. All (λ e. IsEdge n e) es) (sym (length-put w e)) (All-tail (λ e. IsEdge (length w) e) e es good) in
      elim (Contains-cases e es y there) [
        | inl same ↦
            subst (λ (v : ViewEdge). Contains (ways_of (fold (put from) w (e ∷ es)) v.to) (turned_edge from v)) same
            (along-old es (put from w e) e.to (turned_edge from e) rest (put-new w e here.names))
        | inr later ↦ along-new es (put from w e) y rest later
      ]

module _ (g : List ViewNode) (good : IsGraph g) where
  pub length-turned : (k : ℕ) → length (turned g k) ≡ length g
  length-turned zero = length-replicate (length g) []
  length-turned (suc k) = length-along k (edges_of g k) (turned g k) ∙ length-turned k

  pub edges-fit : (k u : ℕ) → All (λ e. IsEdge (length (turned g k)) e) (edges_of g u)
  edges-fit k u = subst (λ n. All (λ e. IsEdge n e) (edges_of g u)) (sym (length-turned k)) (edges-good g good u)

  empty-at : (x : ℕ) (z : ViewEdge) → Contains (ways_of (replicate (length g) []) x) z → ⊥
  empty-at x z there =
      elim (cases_lt x (length g)) [
        | inl h ↦ nothing z (subst (λ zs. Contains zs z) (get_or-replicate (length g) x [] [] h) there)
        | inr h ↦ nothing z (subst (λ zs. Contains zs z) (get_or_past (replicate (length g) []) x [] (omega (arith, length-replicate {A = List ViewEdge} (length g) []))) there)
      ]

  turned-from : (k x : ℕ) (z : ViewEdge) → Contains (ways_of (turned g k) x) z → (z.to < k) × Contains (edges_of g z.to) (record { to = x; metric = z.metric })
  turned-from zero x z there = absurd (empty-at x z there)
  turned-from (suc k) x z there =
      elim (along-cases k (edges_of g k) (turned g k) x z (edges-fit k k) there) [
        | inl old ↦ let r = turned-from k x z old in (omega (arith, r.0), r.1)
        | inr s ↦ (omega (arith, s.0), subst (λ y. Contains (edges_of g y) (record { to = x; metric = z.metric })) (sym s.0) s.1)
      ]

  turned-has : (k y : ℕ) (e : ViewEdge) → y < k → Contains (edges_of g y) e → Contains (ways_of (turned g k) e.to) (turned_edge y e)
  turned-has zero y e less there = absurd (omega arith)
  turned-has (suc k) y e less there =
      elim (eqb_tells y k) [
        | inl s ↦ subst (λ v. Contains (ways_of (turned g (suc k)) e.to) (turned_edge v e)) (sym s.1) (along-new k (edges_of g k) (turned g k) e (edges-fit k k) (subst (λ v. Contains (edges_of g v) e) s.1 there))
        | inr s ↦
            let ne : y ≡ k → ⊥ = s.1 in
            along-old k (edges_of g k) (turned g k) e.to (turned_edge y e) (edges-fit k k) (turned-has k y e (omega arith) there)
      ]

  pub turned-incoming : (ways : List (List ViewEdge)) (k : ℕ) → ways ≡ turned g k → length g ≤ k → AreIncoming g ways
  unfolding turned_edge
  turned-incoming ways k same all =
      subst (λ w. AreIncoming g w) (sym same)
      (record {
        rows = length-turned k;
        each = λ x e within. (
          λ there. (turned-from k x e there).1,
          λ there. turned-has k e.to (record { to = x; metric = e.metric }) (omega (arith, edges-node g e.to (record { to = x; metric = e.metric }) there, all)) there,
        );
      })

  -- an edge turned round is one
  pub incoming-edges : (ways : List (List ViewEdge)) → AreIncoming g ways → All (λ es. All (λ e. IsEdge (length g) e) es) ways
  incoming-edges ways i x d within k z less =
      let e = get_or (get_or ways x d) k z in
      let inside : x < length g = omega (arith, i.rows) in
      let here : get_or ways x d ≡ ways_of ways x = default-same ways x d [] within in
      let there : Contains (ways_of ways x) e = subst (λ zs. Contains zs e) here (k, less, default-same (get_or ways x d) k e z less) in
      let was = (i.each x e inside).0 there in
      let fits = edge-within g good e.to (record { to = x; metric = e.metric }) was in
      record { names = edges-node g e.to (record { to = x; metric = e.metric }) was; positive = fits.positive; small = fits.small }
    where
      default-same : {X : Type 0} (xs : List X) (i : ℕ) (a b : X) → i < length xs → get_or xs i a ≡ get_or xs i b
      default-same xs i a b h = get_or_default xs i a b h

  map-edges : (h : List ViewNode) (x : ℕ) → ways_of (map (λ n. n.edges) h) x ≡ edges_of h x
  map-edges [] x = refl
  map-edges (n ∷ h) zero = refl
  map-edges (n ∷ h) (suc x) = map-edges h x

  map-overload : (h : List ViewNode) (x : ℕ) → get_or (map (λ n. n.overload) h) x false ≡ is_overloaded h x
  map-overload [] x = refl
  map-overload (n ∷ h) zero = refl
  map-overload (n ∷ h) (suc x) = map-overload h x

  module _ (ways : List (List ViewEdge)) (i : AreIncoming g ways) (t : List ViewNode) (edges : map (λ n. n.edges) t ≡ ways) where
    edges-at : (x : ℕ) → ways_of ways x ≡ edges_of t x
    edges-at x = ap (λ w. ways_of w x) (sym edges) ∙ map-edges t x

    pub is-turned : map (λ n. n.overload) t ≡ map (λ n. n.overload) g → IsTurned g t
    is-turned overload =
        record {
          rows = sym (length-map t (λ n. n.edges)) ∙ ap length edges ∙ i.rows;
          overload = λ x. sym (map-overload t x) ∙ ap (λ b. get_or b x false) overload ∙ map-overload g x;
          each = λ x e within. subst (λ es. Contains es e ↔ Contains (edges_of g e.to) (record { to = x; metric = e.metric })) (edges-at x) (i.each x e within);
        }

    pub turned-edges : All (λ es. All (λ e. IsEdge (length g) e) es) ways → (x : ℕ) → All (λ e. IsEdge (length g) e) (edges_of t x)
    turned-edges fit x =
        subst (λ es. All (λ e. IsEdge (length g) e) es) (edges-at x)
        (elim (cases_lt x (length ways)) [
          | inl h ↦ fit x [] h
          | inr h ↦ subst (λ es. All (λ e. IsEdge (length g) e) es) (sym (get_or_past ways x [] h)) (λ k z less. absurd (omega arith))
        ])
