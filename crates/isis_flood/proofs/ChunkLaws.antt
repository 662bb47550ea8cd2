-- Masks that are tested for a link many at once.
use Rattle.std.proofs.Common.{◌≡◌, ℕ, zero, suc, ◌+◌, ◌<◌, ◌≤◌, ◌==◌, ◌||◌, max, ltb, Bool, true, false, List, [], ◌∷◌, ◌++◌, length, drop, bit_or, refl, sym, ap, ◌∙◌, arith, inl, inr}
use Rattle.std.specs.Int.{bit_at}
use Rattle.std.specs.List.{list_any, position_or_len}
use Rattle.std.specs.Simd.Lanes.{chunk, fold_l}
use Rattle.std.proofs.Math.Bool.{or_assoc}
use Rattle.std.proofs.lemmas.Bool.{cases_lt, lt-ltb, le-ltb, true≢false}
use Rattle.std.proofs.lemmas.Nat.Bits.{bit_at_or, bit_at-lt, bit_at-zero}
use Rattle.std.proofs.lemmas.Simd.{chunk-drop, length-chunk}
use Rattle.isis_flood.specs.Masks.{at_bit}

one_of : (m n : ℕ) → m < 2 → n < 2 → (max m n == 1) ≡ ((m == 1) || (n == 1))
one_of zero zero low high = refl
one_of zero (suc zero) low high = refl
one_of (suc zero) zero low high = refl
one_of (suc zero) (suc zero) low high = refl
one_of zero (suc (suc n)) low high = absurd (omega (arith, high))
one_of (suc zero) (suc (suc n)) low high = absurd (omega (arith, high))
one_of (suc (suc m)) n low high = absurd (omega (arith, low))

or_bit : (a b link : ℕ) → at_bit (bit_or a b) link ≡ (at_bit a link || at_bit b link)
or_bit a b link = ap (λ n. n == 1) (bit_at_or a b link) ∙ one_of (bit_at a link) (bit_at b link) (bit_at-lt a link) (bit_at-lt b link)

fold_bit : (link a : ℕ) (masks : List ℕ) → at_bit (fold_l bit_or a masks) link ≡ (at_bit a link || list_any (λ mask. at_bit mask link) masks)
fold_bit link a [] = elim (at_bit a link) as (λ b. b ≡ (b || false)) [ true ↦ refl | false ↦ refl ]
fold_bit link a (x ∷ xs) = fold_bit link (bit_or a x) xs ∙ ap (λ (b : Bool). b || list_any (λ mask. at_bit mask link) xs) (or_bit a x link) ∙ or_assoc (at_bit a link) (at_bit x link) (list_any (λ mask. at_bit mask link) xs)

-- the bits of all of them have a link where one of them has
pub joined_has : (link : ℕ) (masks : List ℕ) → at_bit (fold_l bit_or 0 masks) link ≡ list_any (λ mask. at_bit mask link) masks
joined_has link masks = fold_bit link 0 masks ∙ ap (λ (n : ℕ). (n == 1) || list_any (λ mask. at_bit mask link) masks) (bit_at-zero link)

none_first : {X : Type 0} (p : X → Bool) (xs ys : List X) → list_any p xs ≡ false → position_or_len p (xs ++ ys) ≡ length xs + position_or_len p ys
none_first p [] ys none = omega arith
none_first p (x ∷ xs) ys none = by (p x) refl none (none_first p xs ys)
  where
    by : (b : Bool) → p x ≡ b → (b || list_any p xs) ≡ false → (list_any p xs ≡ false → position_or_len p (xs ++ ys) ≡ length xs + position_or_len p ys) → position_or_len p (x ∷ xs ++ ys) ≡ suc (length xs) + position_or_len p ys
    by true e none rest = absurd (true≢false none)
    by false e none rest = rw e (let r = rest none in omega (arith, r))

-- those of a chunk of which none passes the test are passed over at once
pub chunk_passed : {X : Type 0} (p : X → Bool) (xs : List X) (at n next : ℕ) → next ≡ at + n → next ≤ length xs → list_any p (chunk at n xs) ≡ false → next + position_or_len p (drop next xs) ≡ at + position_or_len p (drop at xs)
chunk_passed p xs at n next step within none = rw step (
    let rest = position_or_len p (drop (at + n) xs) in
    let e = ap (position_or_len p) (chunk-drop at n xs) ∙ none_first p (chunk at n xs) (drop (at + n) xs) none in
    omega (arith, e, length-chunk at n xs (omega (arith, step, within))))

-- one passes the test where the first that does is among them
pub any_before : {X : Type 0} (p : X → Bool) (xs : List X) → ltb (position_or_len p xs) (length xs) ≡ list_any p xs
any_before p [] = refl
any_before p (x ∷ xs) = by (p x) refl (any_before p xs)
  where
    less : (m n : ℕ) → ltb (1 + m) (suc n) ≡ ltb m n
    less m n = elim (cases_lt m n) [
      | inl lt ↦ lt-ltb (1 + m) (suc n) (omega (arith, lt)) ∙ sym (lt-ltb m n lt)
      | inr le ↦ le-ltb (1 + m) (suc n) (omega (arith, le)) ∙ sym (le-ltb m n le)
    ]

    by : (b : Bool) → p x ≡ b → ltb (position_or_len p xs) (length xs) ≡ list_any p xs → ltb (position_or_len p (x ∷ xs)) (suc (length xs)) ≡ (p x || list_any p xs)
    by true e rest = rw e (lt-ltb 0 (suc (length xs)) (omega arith))
    by false e rest = rw e (less (position_or_len p xs) (length xs) ∙ rest)
