-- The copies of a hop, one after the other: the first goes to the router of the first id with a choice, and the others are
-- the copies of the ids that don't go there.
use Rattle.std.proofs.Common.{◌≡◌, ℕ, ◌==◌, ◌&&◌, not, Bool, true, false, cond, List, [], ◌∷◌, filter, map, Option, Some, None, is_some, refl, ap, sym, ◌∙◌, inl, inr}
use Rattle.std.specs.List.{filter_map, cons_option}
use Rattle.std.proofs.Math.Bool.{or-true}
use Rattle.std.proofs.lemmas.Bool.{cases_Bool, eq-eqb, ne_eqb}
use Rattle.std.proofs.lemmas.Bool.Decides.{eqb_tells}
use Rattle.wire_base.specs.model.BitSet.{has_member}
use Rattle.wire_base.specs.model.Hop.{Outcome, Copy, distinct, is_this, copies}
use Rattle.wire_base.proofs.SetLaws.{has_head}

-- ---- filters

pub filter-same : (a b : ℕ → Bool) (xs : List ℕ) → ((p : ℕ) → has_member p xs ≡ true → a p ≡ b p) → filter a xs ≡ filter b xs
filter-same a b [] same = refl
filter-same a b (x ∷ xs) same =
    ap (λ (t : Bool). cond t (x ∷ filter a xs) (filter a xs)) (same x (has_head x xs))
    ∙ ap (λ (l : List ℕ). cond (b x) (x ∷ l) l) (filter-same a b xs (λ p has. same p (rw has (or-true (p == x)))))

pub filter-filter : (a b : ℕ → Bool) (xs : List ℕ) → filter a (filter b xs) ≡ filter (λ p. b p && a p) xs
filter-filter a b [] = refl
filter-filter a b (x ∷ xs) = elim (cases_Bool (b x)) [
  | inl t ↦ rw t (ap (λ (l : List ℕ). cond (a x) (x ∷ l) l) (filter-filter a b xs))
  | inr f ↦ rw f (filter-filter a b xs)
]

pub filter-none : (xs : List ℕ) → filter (λ p. false) xs ≡ []
filter-none [] = refl
filter-none (x ∷ xs) = filter-none xs

pub filter-every : (xs : List ℕ) → filter (λ p. true) xs ≡ xs
filter-every [] = refl
filter-every (x ∷ xs) = ap (λ (l : List ℕ). x ∷ l) (filter-every xs)

and-comm : (a b : Bool) → (a && b) ≡ (b && a)
and-comm true true = refl
and-comm true false = refl
and-comm false true = refl
and-comm false false = refl

filter-swap : (a b : ℕ → Bool) (xs : List ℕ) → filter a (filter b xs) ≡ filter b (filter a xs)
filter-swap a b xs = filter-filter a b xs ∙ filter-same (λ p. b p && a p) (λ p. a p && b p) xs (λ p has. and-comm (b p) (a p)) ∙ sym (filter-filter b a xs)

-- ---- each once

other : ℕ → ℕ → Bool
other x y = not (y == x)

distinct-filter : (q : ℕ → Bool) (xs : List ℕ) → distinct (filter q xs) ≡ filter q (distinct xs)
distinct-filter q [] = refl
distinct-filter q (x ∷ xs) = elim (cases_Bool (q x)) [
  | inl t ↦ rw t (ap (λ (l : List ℕ). x ∷ filter (λ y. not (y == x)) l) (distinct-filter q xs) ∙ ap (λ (l : List ℕ). x ∷ l) (filter-swap (λ y. not (y == x)) q (distinct xs)))
  | inr f ↦ rw f (distinct-filter q xs ∙ sym (filter-filter q (λ y. not (y == x)) (distinct xs) ∙ filter-same (λ y. not (y == x) && q y) q (distinct xs) (λ y has. gone f y)))
]
  where
    gone : q x ≡ false → (y : ℕ) → (not (y == x) && q y) ≡ q y
    gone f y = elim (eqb_tells y x) [
      | inl same ↦ rw (same.0, ap q same.1 ∙ f) refl
      | inr differs ↦ rw differs.0 refl
    ]

-- ---- choices

eqb-swap : (x y : ℕ) → (x == y) ≡ (y == x)
eqb-swap x y = elim (eqb_tells x y) [
  | inl same ↦ same.0 ∙ sym (eq-eqb y x (sym same.1))
  | inr differs ↦ differs.0 ∙ sym (ne_eqb y x (λ e. differs.1 (sym e)))
]

filter_map-filter : (choose : ℕ → Option ℕ) (x : ℕ) (ids : List ℕ) → filter_map choose (filter (λ k. not (is_this (choose k) x)) ids) ≡ filter (λ y. not (y == x)) (filter_map choose ids)
filter_map-filter choose x [] = refl
filter_map-filter choose x (k ∷ ids) = go (choose k) refl (filter_map-filter choose x ids)
  where
    go : (o : Option ℕ) → choose k ≡ o → filter_map choose (filter (λ j. not (is_this (choose j) x)) ids) ≡ filter (λ y. not (y == x)) (filter_map choose ids)
        → filter_map choose (cond (not (is_this o x)) (k ∷ filter (λ j. not (is_this (choose j) x)) ids) (filter (λ j. not (is_this (choose j) x)) ids)) ≡ filter (λ y. not (y == x)) (cons_option o (filter_map choose ids))
    go None q later = ap (λ o. cons_option o (filter_map choose (filter (λ j. not (is_this (choose j) x)) ids))) q ∙ later
    go (Some y) q later = elim (cases_Bool (y == x)) [
      | inl same ↦ rw (same, eqb-swap x y ∙ same) later
      | inr differs ↦ rw (differs, eqb-swap x y ∙ differs) (ap (λ o. cons_option o (filter_map choose (filter (λ j. not (is_this (choose j) x)) ids))) q ∙ ap (λ (l : List ℕ). y ∷ l) later)
    ]

pub filter_map-none : (choose : ℕ → Option ℕ) (ids : List ℕ) → filter (λ k. is_some (choose k)) ids ≡ [] → filter_map choose ids ≡ []
filter_map-none choose [] none = refl
filter_map-none choose (k ∷ ids) none = go (choose k) refl none (λ n. filter_map-none choose ids n)
  where
    go : (o : Option ℕ) → choose k ≡ o → cond (is_some o) (k ∷ filter (λ j. is_some (choose j)) ids) (filter (λ j. is_some (choose j)) ids) ≡ [] → (filter (λ j. is_some (choose j)) ids ≡ [] → filter_map choose ids ≡ []) → cons_option o (filter_map choose ids) ≡ []
    go None q n later = later n
    go (Some y) q n later = cc

pub filter_map-first : (choose : ℕ → Option ℕ) (ids : List ℕ) (p : ℕ) (ps : List ℕ) (x : ℕ) → filter (λ k. is_some (choose k)) ids ≡ p ∷ ps → choose p ≡ Some x → (ys : List ℕ) × (filter_map choose ids ≡ x ∷ ys)
filter_map-first choose [] p ps x first is = cc
filter_map-first choose (k ∷ ids) p ps x first is = go (choose k) refl first (λ f. filter_map-first choose ids p ps x f is)
  where
    go : (o : Option ℕ) → choose k ≡ o → cond (is_some o) (k ∷ filter (λ j. is_some (choose j)) ids) (filter (λ j. is_some (choose j)) ids) ≡ p ∷ ps → (filter (λ j. is_some (choose j)) ids ≡ p ∷ ps → (ys : List ℕ) × (filter_map choose ids ≡ x ∷ ys)) → (ys : List ℕ) × (cons_option o (filter_map choose ids) ≡ x ∷ ys)
    go None q f later = later f
    go (Some y) q f later =
        let same : k ≡ p = cc in
        let e : Some y ≡ Some x = sym q ∙ ap choose same ∙ is in
        let value : y ≡ x = cc in
        (filter_map choose ids, ap (λ (z : ℕ). z ∷ filter_map choose ids) value)

-- ---- copies

map-other : (x : ℕ) (f g : ℕ → Outcome) → ((y : ℕ) → (y == x) ≡ false → f y ≡ g y) → (ys : List ℕ) → map f (filter (λ y. not (y == x)) ys) ≡ map g (filter (λ y. not (y == x)) ys)
map-other x f g same [] = refl
map-other x f g same (y ∷ ys) = elim (cases_Bool (y == x)) [
  | inl t ↦ rw t (map-other x f g same ys)
  | inr d ↦ rw d (ap (λ (o : Outcome). o ∷ map f (filter (λ z. not (z == x)) ys)) (same y d) ∙ ap (λ (l : List Outcome). g y ∷ l) (map-other x f g same ys))
]

goes-once : (o : Option ℕ) (x y : ℕ) → (y == x) ≡ false → (not (is_this o x) && is_this o y) ≡ is_this o y
goes-once None x y differs = refl
goes-once (Some z) x y differs = elim (eqb_tells y z) [
  | inl same ↦ (let e : (x == z) ≡ false = eqb-swap x z ∙ ap (λ (k : ℕ). k == x) (sym same.1) ∙ differs in rw (same.0, e) refl)
  | inr other ↦ rw other.0 (and-false (not (x == z)))
]
  where
    and-false : (b : Bool) → (b && false) ≡ false
    and-false true = refl
    and-false false = refl

pub copies-first : (choose : ℕ → Option ℕ) (ids : List ℕ) (ttl x : ℕ) (ys : List ℕ) → filter_map choose ids ≡ x ∷ ys
    → copies choose ids ttl ≡ Copy x (filter (λ k. is_this (choose k) x) ids) ttl ∷ copies choose (filter (λ k. not (is_this (choose k) x)) ids) ttl
copies-first choose ids ttl x ys first =
    let rest = filter (λ k. not (is_this (choose k) x)) ids in
    let f : ℕ → Outcome = λ y. Copy y (filter (λ k. is_this (choose k) y) ids) ttl in
    let g : ℕ → Outcome = λ y. Copy y (filter (λ k. is_this (choose k) y) rest) ttl in
    let same : (y : ℕ) → (y == x) ≡ false → f y ≡ g y = λ y differs. ap (λ (l : List ℕ). Copy y l ttl)
    (sym (filter-filter (λ k. is_this (choose k) y) (λ k. not (is_this (choose k) x)) ids ∙ filter-same (λ k. not (is_this (choose k) x) && is_this (choose k) y) (λ k. is_this (choose k) y) ids (λ k has. goes-once (choose k) x y differs))) in
    let others : filter_map choose rest ≡ filter (λ y. not (y == x)) ys = filter_map-filter choose x ids ∙ ap (filter (λ y. not (y == x))) first ∙ rw (eq-eqb x x refl) refl in
    ap (λ (l : List ℕ). map f (distinct l)) first
    ∙ ap (λ (l : List Outcome). f x ∷ l) (map-other x f g same (distinct ys) ∙ ap (map g) (sym (ap distinct others ∙ distinct-filter (λ y. not (y == x)) ys)))
