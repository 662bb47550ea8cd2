-- Lists of what a function makes of the numbers from one on.
use Rattle.std.proofs.Common.{◌≡◌, ℕ, zero, suc, ◌+◌, ◌<◌, ◌≤◌, Bool, true, false, inl, inr, cond, eqb, List, [], ◌∷◌, ◌++◌, length, map, filter, filter_map, slice_get, Option, Some, None, is_some, refl, ap, ◌∙◌, arith}
use Rattle.std.proofs.lemmas.Bool.{eqb-true, eqb-false, ne_eqb, false_from_ne_true}
use Rattle.std.proofs.lemmas.Slice.Eq.{bytes_eq-Decides}
use Rattle.std.specs.List.{AllByRecursion, range_with_len, cons_option}
use Rattle.std.specs.Str.{bytes_eq}
use Rattle.wire_base.specs.model.Lists.{AreApart}
use Rattle.domain_conf.proofs.ValidAmong.{IsIn}

-- ---- the numbers

pub in_range : (a n i : ℕ) → IsIn i (range_with_len a n) → (a ≤ i) × (i < a + n)
in_range a zero i there = absurd there
in_range a (suc n) i (inl e) = (omega arith, omega arith)
in_range a (suc n) i (inr there) = let h = in_range (a + 1) n i there in (omega arith, omega arith)

pub all_range : (P : ℕ → Type 0) (a n : ℕ) → ((i : ℕ) → a ≤ i → i < a + n → P i) → AllByRecursion P (range_with_len a n)
all_range P a zero h = tt
all_range P a (suc n) h = (h a (omega arith) (omega arith), all_range P (a + 1) n (λ i low high. h i (omega arith) (omega arith)))

pub range_apart : (a n : ℕ) → AreApart eqb (range_with_len a n)
range_apart a zero = tt
range_apart a (suc n) = (all_range (λ j. eqb a j ≡ false) (a + 1) n (λ j low high. ne_eqb a j (omega arith)), range_apart (a + 1) n)

pub range_more : (a n last : ℕ) → a + n ≡ last → range_with_len a (n + 1) ≡ range_with_len a n ++ last ∷ []
range_more a zero last e = let same : a ≡ last = omega arith in ap (λ k. k ∷ []) same
range_more a (suc n) last e =
    let one : suc n + 1 ≡ suc (n + 1) = omega arith in
    ap (range_with_len a) one ∙ ap (λ (l : List ℕ). a ∷ l) (range_more (a + 1) n last (omega arith))

-- ---- what is made of them

pub made_at : {X : Type 0} (f : ℕ → X) (a n i : ℕ) → i < n → slice_get (map f (range_with_len a n)) i ≡ Some (f (a + i))
made_at f a zero i lt = absurd (omega arith)
made_at f a (suc n) zero lt = let e : a ≡ a + 0 = omega arith in ap (λ k. Some (f k)) e
made_at f a (suc n) (suc i) lt = let e : a + 1 + i ≡ a + suc i = omega arith in made_at f (a + 1) n i (omega arith) ∙ ap (λ k. Some (f k)) e

-- a test that fits one number keeps what is made of that one
kept_none : {X : Type 0} (p : X → Bool) (f : ℕ → X) (i : ℕ) → ((j : ℕ) → p (f j) ≡ eqb j i) → (a n : ℕ) → i < a → filter p (map f (range_with_len a n)) ≡ []
kept_none p f i fits a zero past = refl
kept_none p f i fits a (suc n) past = rw (fits a ∙ ne_eqb a i (omega arith)) (kept_none p f i fits (a + 1) n (omega arith))

pub kept_one : {X : Type 0} (p : X → Bool) (f : ℕ → X) (i : ℕ) → ((j : ℕ) → p (f j) ≡ eqb j i) → (a n : ℕ) → a ≤ i → i < a + n → filter p (map f (range_with_len a n)) ≡ f i ∷ []
kept_one p f i fits a zero low high = absurd (omega arith)
kept_one {X} p f i fits a (suc n) low high = by (eqb a i) refl (λ differ. kept_one p f i fits (a + 1) n (omega (arith, differ)) (omega arith))
  where
    rest : List X
    rest = map f (range_with_len (a + 1) n)

    by : (b : Bool) → eqb a i ≡ b → ((a ≡ i → ⊥) → filter p (map f (range_with_len (a + 1) n)) ≡ f i ∷ [])
        → cond (p (f a)) (f a ∷ filter p (map f (range_with_len (a + 1) n))) (filter p (map f (range_with_len (a + 1) n))) ≡ f i ∷ []
    by true is more =
        let same = eqb-true a i is in
        rw (fits a ∙ is) (ap (λ (l : List X). f a ∷ l) (kept_none p f i fits (a + 1) n (omega (arith, same))) ∙ ap (λ k. f k ∷ []) same)
    by false is more = rw (fits a ∙ is) (more (eqb-false a i is))

-- ---- counts

pub some_kept : {X Y : Type 0} (f : X → Option Y) (xs : List X) → length (filter_map f xs) ≡ length (filter (λ x. is_some (f x)) xs)
some_kept f [] = refl
some_kept {X} {Y} f (x ∷ xs) = by (f x) (some_kept f xs)
  where
    by : (o : Option Y) → length (filter_map f xs) ≡ length (filter (λ x. is_some (f x)) xs)
        → length (cons_option o (filter_map f xs)) ≡ length (cond (is_some o) (x ∷ filter (λ x. is_some (f x)) xs) (filter (λ x. is_some (f x)) xs))
    by None e = e
    by (Some y) e = ap suc e

-- ---- octets

pub bytes_differ : (xs ys : List ℕ) → (xs ≡ ys → ⊥) → bytes_eq xs ys ≡ false
bytes_differ xs ys differ = false_from_ne_true (bytes_eq xs ys) (λ h. differ ((bytes_eq-Decides xs ys).0 h))
