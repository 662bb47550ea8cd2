-- How many elements of a list pass a test, and when that number rises.
use Rattle.std.proofs.Common.{◌≡◌, ◌⊎◌, inl, inr, ℕ, zero, suc, ◌<◌, ◌≤◌, Bool, true, false, if◌then◌else◌, List, [], ◌∷◌, length, slice_get, Some, refl, sym, subst, ◌∙◌, arith}
use Rattle.std.proofs.lemmas.Bool.{false≢true}
use Rattle.std.proofs.lemmas.Option.{same_Some}

module _ {X : Type 0} (p : X → Bool) where
  pub many : List X → ℕ
  many [] = 0
  many (x ∷ xs) = if p x then suc (many xs) else many xs

  pub many_within : (xs : List X) → many xs ≤ length xs
  unfolding many
  many_within [] = omega arith
  many_within (x ∷ xs) = by (p x) (many_within xs)
    where
      by : (b : Bool) → many xs ≤ length xs → (if b then suc (many xs) else many xs) ≤ suc (length xs)
      by true more = omega (arith, more)
      by false more = omega (arith, more)

  -- one passes
  pub many_some : (xs : List X) (i : ℕ) (x : X) → slice_get xs i ≡ Some x → p x ≡ true → 1 ≤ many xs
  unfolding many
  many_some [] i x at passes = cc
  many_some (y ∷ ys) zero x at passes = by (p y) (subst (λ (z : X). p z ≡ true) (sym (same_Some y x at)) passes)
    where
      by : (b : Bool) → b ≡ true → 1 ≤ (if b then suc (many ys) else many ys)
      by true t = omega arith
      by false t = absurd (false≢true t)
  many_some (y ∷ ys) (suc i) x at passes = by (p y) (many_some ys i x at passes)
    where
      by : (b : Bool) → 1 ≤ many ys → 1 ≤ (if b then suc (many ys) else many ys)
      by true more = omega arith
      by false more = more

  -- all pass
  pub many_all : (xs : List X) → length xs ≤ many xs → (i : ℕ) (x : X) → slice_get xs i ≡ Some x → p x ≡ true
  unfolding many
  many_all [] full i x at = cc
  many_all (y ∷ ys) full i x at = by (p y) refl i at full (λ more k. many_all ys more k x)
    where
      low : many ys ≤ length ys
      low = many_within ys

      by : (b : Bool) → p y ≡ b → (i : ℕ) → slice_get (y ∷ ys) i ≡ Some x → suc (length ys) ≤ (if b then suc (many ys) else many ys) → (length ys ≤ many ys → (k : ℕ) → slice_get ys k ≡ Some x → p x ≡ true) → p x ≡ true
      by true t zero at full more = subst (λ (z : X). p z ≡ true) (same_Some y x at) t
      by true t (suc i) at full more = more (omega (arith, full)) i at
      by false t i at full more = absurd (omega (arith, full, low))

  -- each element of one list that passes stands in another one where an element passes
  abbrev pub Grows : List X → List X → Type 0
  Grows xs ys = (i : ℕ) (x y : X) → slice_get xs i ≡ Some x → slice_get ys i ≡ Some y → p x ≡ true → p y ≡ true

  pub many_grows : (xs ys : List X) → length xs ≡ length ys → Grows xs ys → many xs ≤ many ys
  unfolding many
  many_grows [] ys long grows = omega arith
  many_grows (x ∷ xs) [] long grows = absurd (omega (arith, long))
  many_grows (x ∷ xs) (y ∷ ys) long grows = by (p x) refl (p y) refl (many_grows xs ys (omega (arith, long)) (λ i. grows (suc i)))
    where
      by : (a : Bool) → p x ≡ a → (b : Bool) → p y ≡ b → many xs ≤ many ys → (if a then suc (many xs) else many xs) ≤ (if b then suc (many ys) else many ys)
      by true s true t more = omega (arith, more)
      by true s false t more = absurd (false≢true (sym t ∙ grows 0 x y refl refl s))
      by false s true t more = omega (arith, more)
      by false s false t more = more

  -- their number rises, or the same pass
  pub rises_or_same : (xs ys : List X) → length xs ≡ length ys → Grows xs ys → (many xs < many ys) ⊎ Grows ys xs
  unfolding many
  rises_or_same [] [] long grows = inr (λ i x y h k. cc)
  rises_or_same [] (y ∷ ys) long grows = absurd (omega (arith, long))
  rises_or_same (x ∷ xs) [] long grows = absurd (omega (arith, long))
  rises_or_same (x ∷ xs) (y ∷ ys) long grows = by (p x) refl (p y) refl (rises_or_same xs ys (omega (arith, long)) (λ i. grows (suc i)))
    where
      low : many xs ≤ many ys
      low = many_grows xs ys (omega (arith, long)) (λ i. grows (suc i))

      same : (p y ≡ true → p x ≡ true) → Grows ys xs → Grows (y ∷ ys) (x ∷ xs)
      same here later zero b a h k t = subst (λ (z : X). p z ≡ true) (same_Some x a k) (here (subst (λ (z : X). p z ≡ true) (sym (same_Some y b h)) t))
      same here later (suc i) b a h k t = later i b a h k t

      by : (a : Bool) → p x ≡ a → (b : Bool) → p y ≡ b → ((many xs < many ys) ⊎ Grows ys xs) → ((if a then suc (many xs) else many xs) < (if b then suc (many ys) else many ys)) ⊎ Grows (y ∷ ys) (x ∷ xs)
      by true s true t (inl more) = inl (omega (arith, more))
      by true s true t (inr later) = inr (same (λ h. s) later)
      by true s false t more = absurd (false≢true (sym t ∙ grows 0 x y refl refl s))
      by false s true t more = inl (omega (arith, low))
      by false s false t (inl more) = inl more
      by false s false t (inr later) = inr (same (λ h. absurd (false≢true (sym t ∙ h))) later)
