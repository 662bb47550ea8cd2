-- The list of the tight steps from a node.
use Rattle.std.proofs.Common.{◌≡◌, ℕ, zero, suc, ◌+◌, ◌<◌, Bool, true, false, cond, List, [], ◌∷◌, ◌++◌, length, Option, Some, None, refl, ap, arith, sym, ◌∙◌, ◌⊎◌, inl, inr, Contains, All, AllPairs, subst, map, filter, take, get_or, slice_get, ◌&&◌, ◌↔◌}
use Rattle.std.proofs.lemmas.Bool.{cases_Bool, cases_lt, eqb-true, eq-eqb}
use Rattle.std.proofs.lemmas.List.Elements.{All-head, All-tail, filter_more}
use Rattle.std.proofs.lemmas.List.Kept.{AllPairs-filter}
use Rattle.std.proofs.lemmas.List.{length-map}
use Rattle.std.proofs.lemmas.Option.{get_or_from_slice_get, slice_get_within}
use Rattle.wire_base.specs.declared.view.ViewEdge.{ViewEdge}
use Rattle.wire_base.specs.declared.view.ViewNode.{ViewNode}
use Rattle.wire_base.specs.model.Graph.{edges_at, edges_of, is_overloaded, IsGraph, IsEdge}
use Rattle.wire_base.specs.model.Walk.{dist, may_enter}
use Rattle.wire_base.specs.model.Tight.{IsTight, makes_up, is_tight, tight_list, tight_from}
use Rattle.laws_route.proofs.WalkLemmas.{edges-good, edges-node, Contains-cases, enter-cases, may-enter-end, may-enter-free}
use Rattle.laws_route.proofs.DescentLemmas.{edge-within}

-- lists under a map and a filter
pub map_append : {X Y : Type 0} (f : X → Y) (xs ys : List X) → map f (xs ++ ys) ≡ map f xs ++ map f ys
map_append f [] ys = refl
map_append f (x ∷ xs) ys = ap (λ zs. f x ∷ zs) (map_append f xs ys)

pub Contains-cons : {X : Type 0} (x : X) (xs : List X) (e : X) → Contains xs e → Contains (x ∷ xs) e
Contains-cons x xs e (k, l, q) = (suc k, omega arith, q)

-- where an element of the list came from
pub record IsFrom {X Y : Type 0} (f : X → Y) (p : X → Bool) (xs : List X) (y : Y) : Type 0 where
  pub item : X
  pub there : Contains xs item
  pub passes : p item ≡ true
  pub gives : f item ≡ y

pub Contains-picked : {X Y : Type 0} (f : X → Y) (p : X → Bool) (xs : List X) (y : Y) → Contains (map f (filter p xs)) y → IsFrom f p xs y
Contains-picked f p [] y (k, l, q) = absurd (omega arith)
Contains-picked {X} {Y} f p (x ∷ xs) y h =
    elim (cases_Bool (p x)) [
      | inl t ↦
          let P : Bool → Type 0 = λ b. Contains (map f (cond b (x ∷ filter p xs) (filter p xs))) y in
          let g : Contains (f x ∷ map f (filter p xs)) y = subst P t h in
          elim (Contains-cases (f x) (map f (filter p xs)) y g) [
            | inl q ↦ record { item = x; there = (0, omega arith, refl); passes = t; gives = q }
            | inr s ↦
                let r = Contains-picked f p xs y s in
                record { item = r.item; there = Contains-cons x xs r.item r.there; passes = r.passes; gives = r.gives }
          ]
      | inr t ↦
          let P : Bool → Type 0 = λ b. Contains (map f (cond b (x ∷ filter p xs) (filter p xs))) y in
          let g : Contains (map f (filter p xs)) y = subst P t h in
          let r = Contains-picked f p xs y g in
          record { item = r.item; there = Contains-cons x xs r.item r.there; passes = r.passes; gives = r.gives }
    ]

pub Contains-pick : {X Y : Type 0} (f : X → Y) (p : X → Bool) (xs : List X) (x : X) → Contains xs x → p x ≡ true → Contains (map f (filter p xs)) (f x)
Contains-pick f p [] x (k, l, q) t = absurd (omega arith)
Contains-pick {X} {Y} f p (z ∷ xs) x h t =
    let P : Bool → Type 0 = λ b. Contains (map f (cond b (z ∷ filter p xs) (filter p xs))) (f x) in
    elim (Contains-cases z xs x h) [
      | inl q ↦
          let e : p z ≡ true = ap p q ∙ t in
          subst P (sym e) (0, omega arith, ap f q)
      | inr s ↦
          let rest = Contains-pick f p xs x s t in
          elim (cases_Bool (p z)) [
            | inl e ↦ subst P (sym e) (Contains-cons (f z) (map f (filter p xs)) (f x) rest)
            | inr e ↦ subst P (sym e) rest
          ]
    ]

pub both : (a b : Bool) → (a && b) ≡ true → (a ≡ true) × (b ≡ true)
both true b q = (refl, q)
both false b q = cc

pub both-true : (a b : Bool) → a ≡ true → b ≡ true → (a && b) ≡ true
both-true true b p q = q
both-true false b p q = cc

pub made-up : (m : ℕ) (o w : Option ℕ) → makes_up m o w ≡ true → (r : ℕ) × (o ≡ Some r) × (w ≡ Some (m + r))
made-up m None w q = cc
made-up m (Some r) None q = cc
made-up m (Some r) (Some n) q = (r, refl, ap Some (sym (eqb-true (m + r) n q)))

pub makes-up : (m r : ℕ) (o w : Option ℕ) → o ≡ Some r → w ≡ Some (m + r) → makes_up m o w ≡ true
makes-up m r o w p q = rw (p, q) (eq-eqb (m + r) (m + r) refl)

-- the loop's one_more
pub tight_list-more : (g : List ViewNode) (d : ℕ) (f : ℕ → Option ℕ) (u : ℕ) (es : List ViewEdge) (i : ℕ) (e : ViewEdge) (b : Bool) → i < length es → e ≡ get_or es i e → b ≡ is_tight g d f u e
    → tight_list g d f u (take (i + 1) es) ≡ tight_list g d f u (take i es) ++ cond b (e.to ∷ []) []
tight_list-more g d f u es i e b h q t =
    ap (map (λ e. e.to)) (filter_more (is_tight g d f u) es i e h)
    ∙ map_append (λ e. e.to) (filter (is_tight g d f u) (take i es)) (cond (is_tight g d f u (get_or es i e)) (get_or es i e ∷ []) [])
    ∙ ap (λ zs. tight_list g d f u (take i es) ++ zs) (rw (← q, ← t) (one b e))
  where
    one : (b : Bool) (e : ViewEdge) → map (λ e. e.to) (cond b (e ∷ []) []) ≡ cond b (e.to ∷ []) []
    one true e = refl
    one false e = refl

module _ (g : List ViewNode) (good : IsGraph g) (d : ℕ) (f : ℕ → Option ℕ) (dists : (x : ℕ) → x < length g → f x ≡ dist g x d) (u : ℕ) (node : u < length g) where
  from-list : (x : ℕ) → Contains (tight_list g d f u (edges_of g u)) x → IsTight g d u x
  from-list x h =
      let p = Contains-picked (λ e. e.to) (is_tight g d f u) (edges_of g u) x h in
      let e = p.item in
      let t = both (may_enter g d e.to) (makes_up e.metric (f e.to) (f u)) p.passes in
      let m = made-up e.metric (f e.to) (f u) t.1 in
      let within = (edge-within g good u e p.there).names in
      rw (← p.gives)
      (record {
        edge = e;
        leaves = p.there;
        enters = refl;
        passes = enter-cases g d e.to t.0;
        rest = m.0;
        from_there = sym (dists e.to within) ∙ m.1;
        whole = sym (dists u node) ∙ m.2;
      })

  to-list : (x : ℕ) → IsTight g d u x → Contains (tight_list g d f u (edges_of g u)) x
  to-list x t =
      let within = (edge-within g good u t.edge t.leaves).names in
      let there : f t.edge.to ≡ Some t.rest = dists t.edge.to within ∙ ap (λ y. dist g y d) t.enters ∙ t.from_there in
      let whole : f u ≡ Some (t.edge.metric + t.rest) = dists u node ∙ t.whole in
      let passes : is_tight g d f u t.edge ≡ true =
      both-true (may_enter g d t.edge.to) (makes_up t.edge.metric (f t.edge.to) (f u))
      (enter t.edge.to x t.enters t.passes)
      (makes-up t.edge.metric t.rest (f t.edge.to) (f u) there whole) in
      rw t.enters at (Contains-pick (λ e. e.to) (is_tight g d f u) (edges_of g u) t.edge t.leaves passes)
    where
      enter : (y x : ℕ) → y ≡ x → (x ≡ d) ⊎ (is_overloaded g x ≡ false) → may_enter g d y ≡ true
      enter y x q (inl h) = may-enter-end g d y (q ∙ h)
      enter y x q (inr h) = may-enter-free g d y (rw q h)

  -- the list has the tight steps
  pub tight_list-IsTight : (x : ℕ) → Contains (tight_list g d f u (edges_of g u)) x ↔ IsTight g d u x
  tight_list-IsTight x = (from-list x, to-list x)

map_at : {X Y : Type 0} (f : X → Y) (xs : List X) (i : ℕ) (e : X) → get_or (map f xs) i (f e) ≡ f (get_or xs i e)
map_at f [] i e = refl
map_at f (x ∷ xs) zero e = refl
map_at f (x ∷ xs) (suc i) e = map_at f xs i e

pub tight_list-ordered : (g : List ViewNode) → IsGraph g → (d : ℕ) (f : ℕ → Option ℕ) (u : ℕ) → AllPairs (λ a b. a < b) (tight_list g d f u (edges_of g u))
tight_list-ordered g good d f u i j z h k =
    let kept = AllPairs-filter (λ a b. a.to < b.to) (is_tight g d f u) (edges_of g u) (edges-ordered (slice_get g u) refl) in
    let e : ViewEdge = record { to = z; metric = 0 } in
    let a = map_at (λ e. e.to) (filter (is_tight g d f u) (edges_of g u)) i e in
    let b = map_at (λ e. e.to) (filter (is_tight g d f u) (edges_of g u)) j e in
    let less = kept i j e h (omega (arith, length-map (filter (is_tight g d f u) (edges_of g u)) (λ e. e.to))) in
    rw (a, b) less
  where
    edges-ordered : (o : Option ViewNode) → slice_get g u ≡ o → AllPairs (λ a b. a.to < b.to) (edges_at o)
    edges-ordered None q = λ i j d h k. absurd (omega arith)
    edges-ordered (Some n) q = (rw (get_or_from_slice_get g u n n q) at (good.nodes u n (slice_get_within g u n q))).edges_in_order

-- the list with other lengths that agree at the nodes
pub tight_list-same : (g : List ViewNode) (d count : ℕ) (f h : ℕ → Option ℕ) (u : ℕ) → f u ≡ h u → ((x : ℕ) → x < count → f x ≡ h x) → (es : List ViewEdge) → All (λ e. IsEdge count e) es → tight_list g d f u es ≡ tight_list g d h u es
tight_list-same g d count f h u here same [] good = refl
tight_list-same g d count f h u here same (e ∷ es) good =
    let head = All-head (λ e. IsEdge count e) e es good in
    let rest = tight_list-same g d count f h u here same es (All-tail (λ e. IsEdge count e) e es good) in
    rw (here, same e.to head.names) (go (is_tight g d h u e) rest)
  where
    go : (b : Bool) → tight_list g d f u es ≡ tight_list g d h u es → map (λ e. e.to) (cond b (e ∷ filter (is_tight g d f u) es) (filter (is_tight g d f u) es)) ≡ map (λ e. e.to) (cond b (e ∷ filter (is_tight g d h u) es) (filter (is_tight g d h u) es))
    go true q = ap (λ xs. e.to ∷ xs) q
    go false q = q

-- where the lengths are the distances to d, the list is that of the tight steps
pub tight_list-from : (g : List ViewNode) → IsGraph g → (d u : ℕ) (f : ℕ → Option ℕ) → ((x : ℕ) → x < length g → f x ≡ dist g x d) → tight_list g d f u (edges_of g u) ≡ tight_from g d u
unfolding tight_from
tight_list-from g good d u f same =
    elim (cases_lt u (length g)) [
      | inl h ↦ tight_list-same g d (length g) f (λ x. dist g x d) u (same u h) same (edges_of g u) (edges-good g good u)
      | inr h ↦ none (edges_of g u) (λ e there. (let w = edges-node g u e there in omega arith))
    ]
  where
    none : (es : List ViewEdge) → ((e : ViewEdge) → Contains es e → ⊥) → tight_list g d f u es ≡ tight_list g d (λ x. dist g x d) u es
    none [] empty = refl
    none (e ∷ es) empty = absurd (empty e (0, omega arith, refl))

pub tight_from-ordered : (g : List ViewNode) → IsGraph g → (d u : ℕ) → AllPairs (λ a b. a < b) (tight_from g d u)
unfolding tight_from
tight_from-ordered g good d u = tight_list-ordered g good d (λ x. dist g x d) u

pub tight_from-IsTight : (g : List ViewNode) → IsGraph g → (d u x : ℕ) → u < length g → Contains (tight_from g d u) x ↔ IsTight g d u x
unfolding tight_from
tight_from-IsTight g good d u x node = tight_list-IsTight g good d (λ x. dist g x d) (λ x l. refl) u node x
