-- A set and the octets that stand for it, both ways.
use Rattle.std.proofs.Common.{◌≡◌, ℕ, zero, suc, ◌+◌, ◌-◌, ◌*◌, ◌/◌, ◌%◌, ◌^◌, ◌<◌, ◌≤◌, ◌==◌, List, [], ◌∷◌, length, get_or, refl, sym, ap, ◌∙◌, arith, inl, inr}
use Rattle.std.proofs.lemmas.Bool.{cases_Bool, eq-eqb, ne_eqb}
use Rattle.std.proofs.lemmas.Bool.Decides.{eqb_tells}
use Rattle.std.proofs.Math.Nat.{pow-succ', div-div-eq-div-mul}
use Rattle.wire_base.specs.model.BitSet.{has_member, IsWithin, has_bit, set_of, number_from, octets_of}
use Rattle.wire_base.proofs.SetLaws.{filter-is, has-set_of}

half_of : (b m j : ℕ) → b < 2 → (b + 2 * m) / 2 ^ suc j ≡ m / 2 ^ j
half_of b m j small =
    let same : (b + 2 * m) / 2 ≡ m = omega arith in
    rw (pow-succ' 2 j, sym (div-div-eq-div-mul (b + 2 * m) 2 (2 ^ j)), same) refl

-- each bit of a number made of bits
pub number-bit : (n j p q : ℕ) (xs : List ℕ) → j < n → q ≡ p + j → (number_from n p xs / 2 ^ j % 2 == 1) ≡ has_member q xs
number-bit zero j p q xs lt e = absurd (omega arith)
number-bit (suc n) zero p q xs lt e =
    let same : p ≡ q = omega arith in
    elim (cases_Bool (has_member p xs)) [
      | inl has ↦ rw has (eq-eqb ((1 + 2 * number_from n (p + 1) xs) / 1 % 2) 1 (omega arith) ∙ sym has ∙ ap (λ (k : ℕ). has_member k xs) same)
      | inr lacks ↦ rw lacks (ne_eqb ((0 + 2 * number_from n (p + 1) xs) / 1 % 2) 1 (λ h. omega arith) ∙ sym lacks ∙ ap (λ (k : ℕ). has_member k xs) same)
    ]
number-bit (suc n) (suc j) p q xs lt e = elim (cases_Bool (has_member p xs)) [
  | inl has ↦ rw (has, half_of 1 (number_from n (p + 1) xs) j (omega arith)) (number-bit n j (p + 1) q xs (omega arith) (omega arith))
  | inr lacks ↦ rw (lacks, half_of 0 (number_from n (p + 1) xs) j (omega arith)) (number-bit n j (p + 1) q xs (omega arith) (omega arith))
]

-- a number is made of its bits
pub number-is : (n p o : ℕ) (xs : List ℕ) → o < 2 ^ n → ((j q : ℕ) → j < n → q ≡ p + j → has_member q xs ≡ (o / 2 ^ j % 2 == 1)) → number_from n p xs ≡ o
number-is zero p o xs small bits = omega arith
number-is (suc n) p o xs small bits =
    let rest : number_from n (p + 1) xs ≡ o / 2 = number-is n (p + 1) (o / 2) xs (omega (arith, pow-succ' 2 n))
    (λ j q lt e. bits (suc j) q (omega arith) (omega arith) ∙ rw (pow-succ' 2 j, div-div-eq-div-mul o 2 (2 ^ j)) refl) in
    elim (eqb_tells (o / 1 % 2) 1) [
      | inl odd ↦ rw (bits 0 p (omega arith) (omega arith), odd.0, rest) (omega (arith, odd.1))
      | inr even ↦ rw (bits 0 p (omega arith) (omega arith), even.0, rest) (omega (arith, even.1))
    ]

-- the octets of a set: how many, and which number each is
pub length-octets_of : (n : ℕ) (xs : List ℕ) → length (octets_of n xs) ≡ n
unfolding octets_of
length-octets_of zero xs = refl
length-octets_of (suc n) xs = ap suc (length-octets_of n xs)

pub index-octets_of : (n k i : ℕ) (xs : List ℕ) → k < n → i ≡ n - 1 - k → get_or (octets_of n xs) i 0 ≡ number_from 8 (8 * k + 1) xs
unfolding octets_of
index-octets_of zero k i xs lt e = absurd (omega arith)
index-octets_of (suc n) k zero xs lt e = let last : n ≡ k = omega arith in ap (λ (m : ℕ). number_from 8 (8 * m + 1) xs) last
index-octets_of (suc n) k (suc i) xs lt e = index-octets_of n k i xs (omega arith) (omega arith)

pub bit-octets_of : (n p : ℕ) (xs : List ℕ) → 1 ≤ p → p ≤ 8 * n → has_bit (octets_of n xs) p ≡ has_member p xs
bit-octets_of n p xs low high =
    let k = (p - 1) / 8 in
    let j = (p - 1) % 8 in
    rw (length-octets_of n xs, index-octets_of n k (n - 1 - k) xs (omega arith) refl) (number-bit 8 j (8 * k + 1) p xs (omega arith) (omega arith))

-- the octets of a set stand for it
pub set_of-octets_of : (n : ℕ) (xs : List ℕ) → IsWithin 0 (8 * n) xs → set_of (octets_of n xs) ≡ xs
unfolding set_of
set_of-octets_of n xs is = rw (length-octets_of n xs) (filter-is (8 * n) (has_bit (octets_of n xs)) xs is (λ p low high. sym (bit-octets_of n p xs low high)))

-- octets are those of the set that they stand for
pub octets_of-is : (octets xs : List ℕ) → ((i : ℕ) → get_or octets i 0 < 256) → ((p : ℕ) → 1 ≤ p → p ≤ 8 * length octets → has_member p xs ≡ has_bit octets p) → octets_of (length octets) xs ≡ octets
unfolding octets_of
octets_of-is [] xs small bits = refl
octets_of-is (o ∷ os) xs small bits =
    let n = length os in
    let head : number_from 8 (8 * n + 1) xs ≡ o = number-is 8 (8 * n + 1) o xs (small 0) (λ j q lt e.
    let first : suc n - 1 - (q - 1) / 8 ≡ 0 = omega arith in
    let bit : (q - 1) % 8 ≡ j = omega arith in
    bits q (omega arith) (omega arith) ∙ rw (first, bit) refl) in
    let tail : octets_of n xs ≡ os = octets_of-is os xs (λ i. small (suc i)) (λ p low high.
    let later : suc n - 1 - (p - 1) / 8 ≡ suc (n - 1 - (p - 1) / 8) = omega arith in
    bits p low (omega arith) ∙ rw later refl) in
    rw (head, tail) refl

pub octets_of-set_of : (octets : List ℕ) → ((i : ℕ) → get_or octets i 0 < 256) → octets_of (length octets) (set_of octets) ≡ octets
octets_of-set_of octets small = octets_of-is octets (set_of octets) small (λ p low high. has-set_of p octets low high)
