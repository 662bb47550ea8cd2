-- The first nodes, the choice, and how it comes nearer.
use Rattle.std.proofs.Common.{◌≡◌, ℕ, zero, suc, ◌+◌, ◌<◌, ◌≤◌, ◌%◌, Bool, true, false, not, ◌||◌, List, [], ◌∷◌, length, Option, Some, refl, ap, arith, sym, ◌∙◌, ◌⊎◌, inl, inr, Contains, subst, filter, unwrap_or, ◌↔◌, ◌==◌, if◌then◌else◌, get_or}
use Rattle.std.specs.List.{range_with_len, list_any}
use Rattle.std.proofs.lemmas.Bool.{cases_Bool, eqb-true, eq-eqb, ne_eqb}
use Rattle.std.proofs.lemmas.Bool.Decides.{eqb_tells}
use Rattle.std.proofs.lemmas.Option.{slice_get-get_or, slice_get_within, get_or_from_slice_get}
use Rattle.wire_base.specs.declared.view.ViewNode.{ViewNode}
use Rattle.wire_base.specs.model.Graph.{IsGraph}
use Rattle.wire_base.specs.model.Walk.{dist}
use Rattle.wire_base.specs.model.Tight.{IsTight, tight_from}
use Rattle.wire_base.specs.model.Supporting.{TightWay, IsFirst, meets, firsts}
use Rattle.laws_route.specs.Nearer.{Nearer}
use Rattle.wire_base.specs.model.Choice.{member, choice, candidates}
use Rattle.laws_route.specs.Candidate.{IsCandidate}
use Rattle.wire_base.specs.model.HopCount.{follow}
use Rattle.laws_route.proofs.WalkLemmas.{Contains-cases}
use Rattle.laws_route.proofs.ShortenLemmas.{Without, without, below, length-below, Contains-below}
use Rattle.laws_route.proofs.DescentLemmas.{IsTight-nearer, TightWay-nearer, IsTight-within, TightWay-within, first-exists}
use Rattle.laws_route.proofs.TightLemmas.{Contains-cons, tight_list-IsTight}

-- a list without repetition of nodes that come nearer is no longer than there are nodes
module _ (n : ℕ) (rank : ℕ → ℕ) where
  -- the list has u, and each node of a lower rank
  pub record Holds (ns : List ℕ) (u : ℕ) : Type 0 where
    pub here : Contains ns u
    pub lower : (z : ℕ) → z < n → rank z < rank u → Contains ns z

  apart : (z u : ℕ) → rank z < rank u → z ≡ u → ⊥
  apart z u h q = let e : rank z ≡ rank u = ap rank q in omega arith

  pub Holds-next : (ns : List ℕ) (u y : ℕ) → Holds ns u → (w : Without u ns) → y < n → rank y < rank u → Holds w.left y
  Holds-next ns u y h w within less =
      record {
        here = w.others y (h.lower y within less) (apart y u less);
        lower = λ z in' l. (let m : rank z < rank u = omega arith in w.others z (h.lower z in' m) (apart z u m));
      }

  pub Holds-all : (u : ℕ) → u < n → Holds (below n) u
  Holds-all u h = record { here = Contains-below n u h; lower = λ z l m. Contains-below n z l }

-- a distance as a number
pub rank_of : List ViewNode → ℕ → ℕ → ℕ
rank_of g d z = unwrap_or (dist g z d) 0

pub rank-less : (g : List ViewNode) (d u v : ℕ) → Nearer g d u v → rank_of g d v < rank_of g d u
unfolding rank_of
rank-less g d u v w = rw (w.from, w.to) w.less

way-length : (g : List ViewNode) → IsGraph g → (c : ℕ → Bool) (d k u x : ℕ) (ns : List ℕ) → Holds (length g) (rank_of g d) ns u → TightWay g c d k u x → k + 1 < length ns
way-length g good c d zero u x ns h t =
    let w = without u ns h.here in
    let s = Holds-next (length g) (rank_of g d) ns u x h w (IsTight-within g good d u x t) (rank-less g d u x (IsTight-nearer g good d u x t)) in
    omega (arith, w.shorter, s.here.1)
way-length g good c d (suc k) u x ns h t =
    let w = without u ns h.here in
    let s = Holds-next (length g) (rank_of g d) ns u t.0 h w (IsTight-within g good d u t.0 t.1) (rank-less g d u t.0 (IsTight-nearer g good d u t.0 t.1)) in
    omega (arith, w.shorter, way-length g good c d k t.0 x w.left s t.3)

pub TightWay-short : (g : List ViewNode) → IsGraph g → (c : ℕ → Bool) (d k u x : ℕ) → u < length g → TightWay g c d k u x → k + 1 < length g
TightWay-short g good c d k u x node t =
    omega (arith, length-below (length g), way-length g good c d k u x (below (length g)) (Holds-all (length g) (rank_of g d) u node) t)

-- some element passes the test
pub record Passing {X : Type 0} (p : X → Bool) (xs : List X) : Type 0 where
  pub item : X
  pub there : Contains xs item
  pub passes : p item ≡ true

or-cases : (a b : Bool) → (a || b) ≡ true → (a ≡ true) ⊎ (b ≡ true)
or-cases true b q = inl refl
or-cases false b q = inr q

or-left : (a b : Bool) → a ≡ true → (a || b) ≡ true
or-left true b q = refl
or-left false b q = cc

or-right : (a b : Bool) → b ≡ true → (a || b) ≡ true
or-right true b q = refl
or-right false b q = q

pub any-from : {X : Type 0} (p : X → Bool) (xs : List X) → list_any p xs ≡ true → Passing p xs
any-from p [] q = cc
any-from p (x ∷ xs) q =
    elim (or-cases (p x) (list_any p xs) q) [
      | inl h ↦ record { item = x; there = (0, omega arith, refl); passes = h }
      | inr h ↦
          let r = any-from p xs h in
          record { item = r.item; there = Contains-cons x xs r.item r.there; passes = r.passes }
    ]

pub any-at : {X : Type 0} (p : X → Bool) (xs : List X) (x : X) → Contains xs x → p x ≡ true → list_any p xs ≡ true
any-at p [] x (k, l, e) q = absurd (omega arith)
any-at p (z ∷ xs) x h q =
    elim (Contains-cases z xs x h) [
      | inl e ↦ or-left (p z) (list_any p xs) (ap p e ∙ q)
      | inr t ↦ or-right (p z) (list_any p xs) (any-at p xs x t q)
    ]

pub filter-from : {X : Type 0} (p : X → Bool) (xs : List X) (x : X) → Contains (filter p xs) x → Contains xs x × (p x ≡ true)
filter-from p [] x (k, l, e) = absurd (omega arith)
filter-from {X} p (z ∷ xs) x h =
    elim (cases_Bool (p z)) [
      | inl t ↦
          let g : Contains (z ∷ filter p xs) x = rw t at h in
          elim (Contains-cases z (filter p xs) x g) [
            | inl e ↦ ((0, omega arith, e), ap p (sym e) ∙ t)
            | inr s ↦ let r = filter-from p xs x s in (Contains-cons z xs x r.0, r.1)
          ]
      | inr t ↦
          let g : Contains (filter p xs) x = rw t at h in
          let r = filter-from p xs x g in
          (Contains-cons z xs x r.0, r.1)
    ]

pub filter-at : {X : Type 0} (p : X → Bool) (xs : List X) (x : X) → Contains xs x → p x ≡ true → Contains (filter p xs) x
filter-at p [] x (k, l, e) t = absurd (omega arith)
filter-at p (z ∷ xs) x h t =
    elim (Contains-cases z xs x h) [
      | inl e ↦ let y : p z ≡ true = ap p e ∙ t in rw y (0, omega arith, e)
      | inr s ↦
          let r = filter-at p xs x s t in
          elim (cases_Bool (p z)) [ inl y ↦ rw y (Contains-cons z (filter p xs) x r) | inr y ↦ rw y r ]
    ]

pub Contains-range : (a n x : ℕ) → a ≤ x → x < a + n → Contains (range_with_len a n) x
Contains-range a zero x low high = absurd (omega arith)
Contains-range a (suc n) x low high =
    elim (eqb_tells a x) [
      | inl q ↦ (0, omega arith, q.1)
      | inr q ↦ let ne : a ≡ x → ⊥ = q.1 in Contains-cons a (range_with_len (a + 1) n) x (Contains-range (a + 1) n x (omega arith) (omega arith))
    ]

pub range-within : (a n x : ℕ) → Contains (range_with_len a n) x → (a ≤ x) × (x < a + n)
range-within a zero x h = absurd (let k = h.1 in omega arith)
range-within a (suc n) x h =
    elim (Contains-cases a (range_with_len (a + 1) n) x h) [
      | inl e ↦ (omega arith, omega arith)
      | inr t ↦ let r = range-within (a + 1) n x t in (omega (arith, r.0), omega (arith, r.1))
    ]

module _ (g : List ViewNode) (good : IsGraph g) (c : ℕ → Bool) (d : ℕ) where
  tights : (u x : ℕ) → u < length g → Contains (tight_from g d u) x ↔ IsTight g d u x
  unfolding tight_from
  tights u x node = tight_list-IsTight g good d (λ x. dist g x d) (λ x l. refl) u node x

  -- what one one_more of `meets` says
  step-first : (u x y : ℕ) (m : Bool) → IsTight g d u y → (m ≡ true → IsFirst g c d y x) → (b : Bool) → c y ≡ b → (if b then y == x else m) ≡ true → IsFirst g c d u x
  step-first u x y m t rest true h q =
      let e = eqb-true y x q in
      record { covers = ap c (sym e) ∙ h; steps = 0; way = subst (λ z. IsTight g d u z) e t }
  step-first u x y m t rest false h q =
      let f = rest q in
      record { covers = f.covers; steps = suc f.steps; way = (y, t, h, f.way) }

  pub meets-first : (k u x : ℕ) → u < length g → meets g c d k u x ≡ true → IsFirst g c d u x
  meets-first zero u x node q = cc
  meets-first (suc k) u x node q =
      let p = any-from (λ y. if c y then y == x else meets g c d k y x) (tight_from g d u) q in
      let t = (tights u p.item node).0 p.there in
      step-first u x p.item (meets g c d k p.item x) t (λ r. meets-first k p.item x (IsTight-within g good d u p.item t) r) (c p.item) refl p.passes

  choose-yes : (b m : Bool) (y x : ℕ) → b ≡ true → y ≡ x → (if b then y == x else m) ≡ true
  choose-yes true m y x h e = eq-eqb y x e
  choose-yes false m y x h e = cc

  choose-no : (b m : Bool) (y x : ℕ) → b ≡ false → m ≡ true → (if b then y == x else m) ≡ true
  choose-no true m y x h e = cc
  choose-no false m y x h e = e

  pub way-meets : (k j u x : ℕ) → u < length g → c x ≡ true → TightWay g c d k u x → k < j → meets g c d j u x ≡ true
  way-meets k zero u x node h w less = absurd (omega arith)
  way-meets zero (suc j) u x node h t less =
      any-at (λ y. if c y then y == x else meets g c d j y x) (tight_from g d u) x ((tights u x node).1 t) (choose-yes (c x) (meets g c d j x x) x x h refl)
  way-meets (suc k) (suc j) u x node h w less =
      any-at (λ y. if c y then y == x else meets g c d j y x) (tight_from g d u) w.0 ((tights u w.0 node).1 w.1)
      (choose-no (c w.0) (meets g c d j w.0 x) w.0 x w.2 (way-meets k j w.0 x (IsTight-within g good d u w.0 w.1) h w.3 (omega arith)))

  -- the list has the first nodes
  pub firsts-are : (u x : ℕ) → u < length g → Contains (firsts g c d u) x → IsFirst g c d u x
  unfolding firsts
  firsts-are u x node h = meets-first (length g) u x node (filter-from (meets g c d (length g) u) (range_with_len 0 (length g)) x h).1

  pub firsts-have : (u x : ℕ) → u < length g → IsFirst g c d u x → Contains (firsts g c d u) x
  unfolding firsts
  firsts-have u x node f =
      filter-at (meets g c d (length g) u) (range_with_len 0 (length g)) x
      (Contains-range 0 (length g) x (omega arith) (omega (arith, TightWay-within g good c d f.steps u x f.way)))
      (way-meets f.steps (length g) u x node f.covers f.way (omega (arith, TightWay-short g good c d f.steps u x node f.way)))

follow-step : (next : ℕ → Option ℕ) (ends : ℕ → Bool) (k u x h : ℕ) → ends u ≡ false → next u ≡ Some x → follow next ends k x ≡ Some h → follow next ends (suc k) u ≡ Some (h + 1)
follow-step next ends k u x h t e r = rw (t, e, r) refl

follow-here : (next : ℕ → Option ℕ) (ends : ℕ → Bool) (k u : ℕ) → ends u ≡ true → follow next ends (suc k) u ≡ Some 0
follow-here next ends k u t = rw t refl

member-from : (xs : List ℕ) (class x : ℕ) → member xs class ≡ Some x → Contains xs x
member-from [] class x q = cc
member-from (z ∷ xs) class x q =
    let h = slice_get_within (z ∷ xs) (class % length (z ∷ xs)) x q in
    (class % length (z ∷ xs), h, get_or_from_slice_get (z ∷ xs) (class % length (z ∷ xs)) x x q)

member-some : (xs : List ℕ) (class x : ℕ) → Contains xs x → (y : ℕ) × (member xs class ≡ Some y)
member-some [] class x (k, l, e) = absurd (omega arith)
member-some (z ∷ xs) class x h =
    (get_or (z ∷ xs) (class % length (z ∷ xs)) 0, slice_get-get_or (z ∷ xs) (class % length (z ∷ xs)) 0 (omega arith))

-- a next node that is nearer, wherever there is a distance, until d
module _ (g : List ViewNode) (d : ℕ) (next : ℕ → Option ℕ) (ends : ℕ → Bool) (ends-at : (z : ℕ) → z < length g → ends z ≡ (z == d))
    (has : (u n : ℕ) → u < length g → (u ≡ d → ⊥) → dist g u d ≡ Some n → (x : ℕ) × (next u ≡ Some x))
    (nears : (u x : ℕ) → u < length g → next u ≡ Some x → Nearer g d u x × (x < length g)) where
  follow-ends : (k : ℕ) (ns : List ℕ) (u n : ℕ) → length ns ≡ k → Holds (length g) (rank_of g d) ns u → u < length g → dist g u d ≡ Some n
      → (h : ℕ) × (follow next ends k u ≡ Some h) × (h < k)
  follow-ends zero ns u n long holds node q = absurd (omega (arith, holds.here.1))
  follow-ends (suc k) ns u n long holds node q =
      elim (eqb_tells u d) [
        | inl t ↦ (0, follow-here next ends k u (ends-at u node ∙ t.0), omega arith)
        | inr t ↦
            let x = has u n node t.1 q in
            let near = (nears u x.0 node x.1).0 in
            let w = without u ns holds.here in
            let within = (nears u x.0 node x.1).1 in
            let left : length w.left ≡ k = omega (arith, w.shorter) in
            let r = follow-ends k w.left x.0 near.near left (Holds-next (length g) (rank_of g d) ns u x.0 holds w within (rank-less g d u x.0 near)) within near.to in
            (r.0 + 1, follow-step next ends k u x.0 r.0 (ends-at u node ∙ t.0) x.1 r.1, omega (arith, r.2))
      ]

  pub follow-some : (u n : ℕ) → u < length g → dist g u d ≡ Some n → (h : ℕ) × (follow next ends (length g) u ≡ Some h) × (h < length g)
  follow-some u n node q = follow-ends (length g) (below (length g)) u n (length-below (length g)) (Holds-all (length g) (rank_of g d) u node) node q

module _ (g : List ViewNode) (good : IsGraph g) (c : ℕ → Bool) (d : ℕ) where
  guarded : (a b : Bool) (xs : List ℕ) (x : ℕ) → Contains (if a || not b then [] else xs) x → (a ≡ false) × (b ≡ true) × Contains xs x
  guarded true b xs x h = absurd (let k = h.1 in omega arith)
  guarded false true xs x h = (refl, refl, h)
  guarded false false xs x h = absurd (let k = h.1 in omega arith)

  -- where there are candidates, d passes the test and is not u, and they are the first nodes
  pub candidates-are : (u x : ℕ) → u < length g → Contains (candidates g c d u) x → IsCandidate g c d u x
  unfolding candidates
  candidates-are u x node h =
      let s = guarded (u == d) (c d) (firsts g c d u) x h in
      record {
        ends = s.1;
        other = λ e. (let t = eq-eqb u d e in let z : true ≡ false = sym t ∙ s.0 in cc);
        first = firsts-are g good c d u x node s.2;
      }

  pub candidates-have : (u x : ℕ) → u < length g → IsCandidate g c d u x → Contains (candidates g c d u) x
  unfolding candidates
  candidates-have u x node k = rw (ne_eqb u d k.other, k.ends) (firsts-have g good c d u x node k.first)

  -- where d passes the test, each node with a distance that is not d has a candidate
  pub candidates-some : (u n : ℕ) → u < length g → c d ≡ true → (u ≡ d → ⊥) → dist g u d ≡ Some n → (x : ℕ) × Contains (candidates g c d u) x
  candidates-some u n node ends other q =
      let f = first-exists g good c d ends (suc n) u n node other q (omega arith) in
      (f.0, candidates-have u f.0 node (record { ends = ends; other = other; first = f.1 }))

  pub candidate-nearer : (u x : ℕ) → IsCandidate g c d u x → Nearer g d u x
  candidate-nearer u x k = TightWay-nearer g good c d k.first.steps u x k.first.way

  pub candidate-within : (u x : ℕ) → IsCandidate g c d u x → x < length g
  candidate-within u x k = TightWay-within g good c d k.first.steps u x k.first.way

module _ (g : List ViewNode) (good : IsGraph g) (c : ℕ → Bool) (d class : ℕ) where
  pub choice-from : (u x : ℕ) → u < length g → choice g c d class u ≡ Some x → IsCandidate g c d u x
  unfolding choice
  choice-from u x node q = candidates-are g good c d u x node (member-from (candidates g c d u) class x q)

  pub choice-some : (u n : ℕ) → u < length g → c d ≡ true → (u ≡ d → ⊥) → dist g u d ≡ Some n → (x : ℕ) × (choice g c d class u ≡ Some x)
  unfolding choice
  choice-some u n node ends other q =
      let f = candidates-some g good c d u n node ends other q in
      member-some (candidates g c d u) class f.0 f.1

  -- the descent: the choice is nearer to d, and has a choice itself unless it is d
  pub choice-descends : (u x : ℕ) → u < length g → choice g c d class u ≡ Some x → Nearer g d u x × (x < length g) × ((x ≡ d → ⊥) → (y : ℕ) × (choice g c d class x ≡ Some y))
  choice-descends u x node q =
      let k = choice-from u x node q in
      let w = candidate-nearer g good c d u x k in
      let within = candidate-within g good c d u x k in
      (w, within, λ other. choice-some x w.near within k.ends other w.to)

  -- so following it ends at d, in fewer steps than there are nodes
  pub choice-follows : (ends : ℕ → Bool) → ((z : ℕ) → z < length g → ends z ≡ (z == d)) → (u n : ℕ) → u < length g → c d ≡ true → dist g u d ≡ Some n
      → (h : ℕ) × (follow (choice g c d class) ends (length g) u ≡ Some h) × (h < length g)
  choice-follows ends at u n node covered q =
      follow-some g d (choice g c d class) ends at (λ y m in' other p. choice-some y m in' covered other p)
      (λ y x in' p. (let s = choice-descends y x in' p in (s.0, s.1))) u n node q
