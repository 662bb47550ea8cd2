-- How many positions a set has, word by word.
use Rattle.std.proofs.Common.{◌≡◌, ℕ, zero, suc, ◌+◌, ◌-◌, ◌*◌, ◌/◌, ◌%◌, ◌^◌, ◌<◌, ◌≤◌, ◌==◌, Bool, List, length, get_or, refl, sym, ap, ◌∙◌, arith, inl, inr}
use Rattle.std.specs.Int.{bit_at}
use Rattle.std.specs.Int.Count.{ones, ones_step}
use Rattle.std.proofs.lemmas.Bool.Decides.{eqb_tells}
use Rattle.std.proofs.lemmas.Nat.{ones_le_self}
use Rattle.std.proofs.lemmas.Nat.Bits.{bit_at-suc, bit_at_lowest}
use Rattle.std.proofs.Math.Nat.{pow-succ'}
use Rattle.bier_bits.specs.Sets.{has_place, members_of, places_in}
use Rattle.bier_bits.proofs.Chosen.{chosen, count_more, count_same}
use Rattle.bier_bits.proofs.WordLaws.{place_at}

-- the positions of so many bits of a number, from a place on
counted : (test : ℕ → Bool) (d base n : ℕ) → n < 2 ^ d → ((i : ℕ) → i < d → test (base + i + 1) ≡ (bit_at n i == 1)) → length (chosen test (base + d)) ≡ length (chosen test base) + ones n
counted test zero base n small bits =
    let none : n ≡ 0 = omega (arith, small) in
    let e : ones n ≡ 0 = omega (arith, ones_le_self n, none) in
    let end : base + 0 ≡ base = omega arith in
    ap (λ (k : ℕ). length (chosen test k)) end ∙ omega (arith, e)
counted test (suc d) base n small bits =
    let rest = counted test d (suc base) (n / 2) (omega (arith, small, pow-succ' 2 d)) (λ i lt.
    let place : suc base + i + 1 ≡ base + suc i + 1 = omega arith in
    ap test place ∙ bits (suc i) (omega (arith, lt)) ∙ ap (λ (b : ℕ). b == 1) (bit_at-suc n i)) in
    let here : test (base + 0 + 1) ≡ (n % 2 == 1) = bits 0 (omega arith) ∙ ap (λ (b : ℕ). b == 1) (bit_at_lowest n) in
    let next : suc base ≡ base + 0 + 1 = omega arith in
    let end : base + suc d ≡ suc base + d = omega arith in
    ap (λ (k : ℕ). length (chosen test k)) end ∙ rest ∙ elim (eqb_tells (n % 2) 1) [
      | inl odd ↦ omega (arith, ones_step n, odd.1, count_more test base (suc base) refl (ap test next ∙ here ∙ odd.0))
      | inr even ↦ omega (arith, ones_step n, even.1, count_same test base (suc base) refl (ap test next ∙ here ∙ even.0))
    ]

-- the positions of the first words
abbrev pub counted_to : List ℕ → ℕ → ℕ
counted_to words k = length (chosen (λ p. has_place words (p - 1)) (64 * k))

pub word_more : (words : List ℕ) (k next count : ℕ) → get_or words k 0 < 2 ^ 64 → next ≡ k + 1 → count ≡ counted_to words k → count + ones (get_or words k 0) ≡ counted_to words next
word_more words k next count fits step so_far =
    let whole = counted (λ p. has_place words (p - 1)) 64 (64 * k) (get_or words k 0) fits (λ i low.
    let place : 64 * k + i + 1 - 1 ≡ 64 * k + i = omega arith in
    ap (has_place words) place ∙ place_at words k i low) in
    let end : 64 * next ≡ 64 * k + 64 = omega (arith, step) in
    ap (λ (n : ℕ). n + ones (get_or words k 0)) so_far ∙ sym whole ∙ ap (λ (n : ℕ). length (chosen (λ p. has_place words (p - 1)) n)) (sym end)

pub words_all : (words : List ℕ) (k count : ℕ) → k ≡ length words → count ≡ counted_to words k → count ≡ length (places_in words)
unfolding members_of
words_all words k count end so_far = so_far ∙ ap (counted_to words) end

-- a word has at most 64
pub ones_small : (d n : ℕ) → n < 2 ^ d → ones n ≤ d
ones_small zero n small = omega (arith, small, ones_le_self n)
ones_small (suc d) n small = omega (arith, ones_step n, ones_small d (n / 2) (omega (arith, small, pow-succ' 2 d)))
