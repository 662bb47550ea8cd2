-- Words of 64 bits and the set of positions that they stand for.
use Rattle.std.proofs.Common.{◌≡◌, ℕ, ◌+◌, ◌-◌, ◌*◌, ◌/◌, ◌%◌, ◌^◌, ◌<◌, ◌≤◌, ◌≢◌, ◌==◌, ◌&&◌, ◌||◌, not, Bool, true, false, cond, List, [], ◌∷◌, length, get_or, set, replicate, bit_and, bit_or, w64, refl, sym, ap, subst, ◌∙◌, arith, inl, inr}
use Rattle.std.specs.Int.{bit_at, bit_not}
use Rattle.std.proofs.lemmas.Bool.{cases_eq, eq-eqb, ne_eqb}
use Rattle.std.proofs.lemmas.List.{get_or-replicate, get_or-set_same, get_or-set_other}
use Rattle.std.proofs.lemmas.Nat.Bits.{bit_at-zero, bit_at_set_same, bit_at_set_other, bit_at_clear_same, bit_at_clear_other, shr_and_one}
use Rattle.wire_base.specs.model.BitSet.{has_member, with_member, IsWithin, difference, up_to}
use Rattle.wire_base.proofs.SetLaws.{filter-is, has-filter, has-up_to, has-with, has-difference, none_above, none_below, within-filter, within-up_to, within-with, within-difference}
use Rattle.bier_bits.specs.Sets.{has_place, members_of}

pub within_members : (w : ℕ) (words s : List ℕ) → members_of w words ≡ s → IsWithin 0 (64 * w) s
unfolding members_of
within_members w words s is = subst (IsWithin 0 (64 * w)) is (within-filter 0 (64 * w) (λ p. has_place words (p - 1)) (up_to (64 * w)) (within-up_to (64 * w)))

-- a member is a bit that is set
pub has_members : (w i : ℕ) (words s : List ℕ) → members_of w words ≡ s → i < 64 * w → has_member (i + 1) s ≡ has_place words i
unfolding members_of
has_members w i words s is low =
    let back : i + 1 - 1 ≡ i = omega arith in
    ap (has_member (i + 1)) (sym is) ∙ has-filter (i + 1) (λ p. has_place words (p - 1)) (up_to (64 * w)) ∙ rw (has-up_to (i + 1) (64 * w) (omega arith) (omega arith), back) refl

-- the bits of one word
pub place_at : (words : List ℕ) (k i : ℕ) → i < 64 → has_place words (64 * k + i) ≡ (bit_at (get_or words k 0) i == 1)
place_at words k i low =
    let word : (64 * k + i) / 64 ≡ k = omega (arith, low) in
    let bit : (64 * k + i) % 64 ≡ i = omega (arith, low) in
    rw (word, bit) refl

-- words stand for the set that has the same members
pub members_is : (w : ℕ) (words xs : List ℕ) → IsWithin 0 (64 * w) xs → ((i : ℕ) → i < 64 * w → has_member (i + 1) xs ≡ has_place words i) → members_of w words ≡ xs
unfolding members_of
members_is w words xs is same = filter-is (64 * w) (λ p. has_place words (p - 1)) xs is (λ p low high.
    let back : p ≡ p - 1 + 1 = omega arith in
    ap (λ (k : ℕ). has_member k xs) back ∙ same (p - 1) (omega arith))

pub zero_is : (w : ℕ) → members_of w (replicate w 0) ≡ []
zero_is w = members_is w (replicate w 0) [] tt (λ i lt. sym (rw (get_or-replicate {A = ℕ} w (i / 64) 0 0 (omega arith), bit_at-zero (i % 64)) refl))

-- words without a bit stand for no position
pub none_is : (w : ℕ) (words : List ℕ) → ((k : ℕ) → get_or words k 0 ≡ 0) → members_of w words ≡ []
none_is w words none = members_is w words [] tt (λ i lt. sym (rw (none (i / 64), bit_at-zero (i % 64)) refl))

-- ---- one position

-- what a bit of the words is after another is set
bit_after : (words : List ℕ) (n i : ℕ) → n / 64 < length words → has_place (set words (n / 64) (bit_or (get_or words (n / 64) 0) (1 * 2 ^ (n % 64) % 2 ^ 64))) i ≡ cond (i == n) true (has_place words i)
bit_after words n i within =
    let x = get_or words (n / 64) 0 in
    elim (cases_eq i n) [
      | inl e ↦ rw (e, get_or-set_same words (n / 64) (bit_or x (1 * 2 ^ (n % 64) % 2 ^ 64)) 0 within, bit_at_set_same w64 x (n % 64) (omega arith), eq-eqb n n refl) refl
      | inr ne ↦ rw (ne_eqb i n ne) (elim (cases_eq (i / 64) (n / 64)) [
        | inl same ↦
            let apart : i % 64 ≢ n % 64 = λ h. ne (omega arith) in
            rw (same, get_or-set_same words (n / 64) (bit_or x (1 * 2 ^ (n % 64) % 2 ^ 64)) 0 within, bit_at_set_other w64 x (n % 64) (omega arith) (i % 64) apart) refl
        | inr other ↦ rw (get_or-set_other words (n / 64) (i / 64) (bit_or x (1 * 2 ^ (n % 64) % 2 ^ 64)) 0 other) refl
      ])
    ]

pub set_is : (w bp : ℕ) (words s : List ℕ) → length words ≡ w → members_of w words ≡ s → 1 ≤ bp → bp ≤ 64 * w
    → members_of w (set words ((bp - 1) / 64) (bit_or (get_or words ((bp - 1) / 64) 0) (1 * 2 ^ ((bp - 1) % 64) % 2 ^ 64))) ≡ with_member bp s
set_is w bp words s long is low high =
    members_is w _ (with_member bp s) (within-with 0 (64 * w) bp s low high (within_members w words s is)) (λ i lt.
    has-with (i + 1) bp s ∙ rw (has_members w i words s is lt) (sym (bit_after words (bp - 1) i (omega arith) ∙ shifted i)))
  where
    shifted : (i : ℕ) → cond (i == (bp - 1)) true (has_place words i) ≡ ((i + 1 == bp) || has_place words i)
    shifted i = elim (cases_eq i (bp - 1)) [
      | inl e ↦ rw (eq-eqb i (bp - 1) e, eq-eqb (i + 1) bp (omega arith)) refl
      | inr ne ↦ rw (ne_eqb i (bp - 1) ne, ne_eqb (i + 1) bp (λ h. ne (omega arith))) refl
    ]

-- what a bit of the words is after another is cleared
bit_cleared : (words : List ℕ) (n i : ℕ) → n / 64 < length words → has_place (set words (n / 64) (bit_and (get_or words (n / 64) 0) (bit_not w64 (1 * 2 ^ (n % 64) % 2 ^ 64)))) i ≡ cond (i == n) false (has_place words i)
bit_cleared words n i within =
    let x = get_or words (n / 64) 0 in
    let y = bit_and x (bit_not w64 (1 * 2 ^ (n % 64) % 2 ^ 64)) in
    elim (cases_eq i n) [
      | inl e ↦ rw (e, get_or-set_same words (n / 64) y 0 within, bit_at_clear_same w64 x (n % 64) (omega arith), eq-eqb n n refl) refl
      | inr ne ↦ rw (ne_eqb i n ne) (elim (cases_eq (i / 64) (n / 64)) [
        | inl same ↦
            let apart : i % 64 ≢ n % 64 = λ h. ne (omega arith) in
            rw (same, get_or-set_same words (n / 64) y 0 within, bit_at_clear_other w64 x (n % 64) (omega arith) (i % 64) (omega arith) apart) refl
        | inr other ↦ rw (get_or-set_other words (n / 64) (i / 64) y 0 other) refl
      ])
    ]

pub removed_is : (w bp : ℕ) (words s : List ℕ) → length words ≡ w → members_of w words ≡ s → 1 ≤ bp → bp ≤ 64 * w
    → members_of w (set words ((bp - 1) / 64) (bit_and (get_or words ((bp - 1) / 64) 0) (bit_not w64 (1 * 2 ^ ((bp - 1) % 64) % 2 ^ 64)))) ≡ difference s (bp ∷ [])
removed_is w bp words s long is low high =
    members_is w _ (difference s (bp ∷ [])) (within-difference 0 (64 * w) s (bp ∷ []) (within_members w words s is)) (λ i lt.
    has-difference (i + 1) s (bp ∷ []) ∙ rw (has_members w i words s is lt) (sym (bit_cleared words (bp - 1) i (omega arith) ∙ shifted i)))
  where
    no-false : (b : Bool) → (b && false) ≡ false
    no-false true = refl
    no-false false = refl

    no-true : (b : Bool) → (b && true) ≡ b
    no-true true = refl
    no-true false = refl

    shifted : (i : ℕ) → cond (i == (bp - 1)) false (has_place words i) ≡ (has_place words i && not ((i + 1 == bp) || false))
    shifted i = elim (cases_eq i (bp - 1)) [
      | inl e ↦ rw (eq-eqb i (bp - 1) e, eq-eqb (i + 1) bp (omega arith)) (sym (no-false (has_place words i)))
      | inr ne ↦ rw (ne_eqb i (bp - 1) ne, ne_eqb (i + 1) bp (λ h. ne (omega arith))) (sym (no-true (has_place words i)))
    ]

-- what is read at a position, outside of the words and inside
pub has_none : (high bp : ℕ) (s : List ℕ) → IsWithin 0 high s → bp ≡ 0 → false ≡ has_member bp s
has_none high bp s within none = sym (none_below bp 0 high s within (omega (arith, none)))

pub has_past : (high bp : ℕ) (s : List ℕ) → IsWithin 0 high s → high < bp → false ≡ has_member bp s
has_past high bp s within past = sym (none_above bp 0 high s within past)

pub has_here : (w bp i : ℕ) (words s : List ℕ) → members_of w words ≡ s → i + 1 ≡ bp → bp ≤ 64 * w → (bit_and (get_or words (i / 64) 0 / 2 ^ (i % 64)) 1 == 1) ≡ has_member bp s
has_here w bp i words s is at inside =
    rw (shr_and_one (get_or words (i / 64) 0) (i % 64)) (sym (has_members w i words s is (omega (arith, at, inside)))) ∙ ap (λ (p : ℕ). has_member p s) at
