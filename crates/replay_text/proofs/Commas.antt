-- The table of the texts of a comma and each number below 1,000.
use Rattle.std.proofs.Common.{◌≡◌, ℕ, zero, suc, ◌+◌, ◌*◌, ◌/◌, ◌%◌, ◌<◌, ◌≤◌, Bool, true, false, ◌&&◌, T, cond, eqb, List, [], ◌∷◌, ◌++◌, length, take, drop, sym, ap, ap₂, subst, ◌∙◌, refl, arith, inl, inr, eqb→eq}
use lib.Ieee.Fits.{and_l, and_r}
use Rattle.std.specs.Prelude.{nat_lt, nat_le}
use Rattle.std.specs.Int.{from_bool}
use Rattle.std.specs.Fmt.{decimal}
use Rattle.std.proofs.lemmas.Bool.{cases_lt, lt-ltb, le-ltb, lt-leb, le-leb}
use Rattle.std.proofs.lemmas.Fmt.{decimal_digit}
use Rattle.std.proofs.lemmas.List.{length-take-le}
use Rattle.std.proofs.lemmas.List.{take-append-le, take-take, drop-drop}
use Rattle.std.proofs.Math.Seq.{take-append-add}
use Rattle.itoa.proofs.Decimal.{pair, decimal_two, decimal_pair}
use Rattle.replay_text.specs.declared.block.TheConstants.{LISTED}
use Rattle.replay_text.proofs.Digits.{length_three}

-- the digits of a number below 1,000
digits : ℕ → List ℕ
digits n = cond (nat_lt n 10) ((48 + n) ∷ []) (cond (nat_lt n 100) (pair n) ((48 + n / 100) ∷ pair (n % 100)))

-- whether two lists begin with the same octets, as far as the first goes
begins : List ℕ → List ℕ → Bool
begins [] octets = true
begins (x ∷ xs) [] = false
begins (x ∷ xs) (y ∷ ys) = eqb y x && begins xs ys

begins-take : (xs ys : List ℕ) → T (begins xs ys) → take (length xs) ys ≡ xs
unfolding begins
begins-take [] ys t = refl
begins-take (x ∷ xs) [] t = absurd t
begins-take (x ∷ xs) (y ∷ ys) t = ap₂ (λ (a : ℕ) (l : List ℕ). a ∷ l) (eqb→eq _ _ (and_l _ (begins xs ys) t)) (begins-take xs ys (and_r (eqb y x) _ t))

-- whether so many texts of numbers from one on stand in the table, in four octets each
are_texts : (count n : ℕ) → List ℕ → Bool
are_texts zero n octets = true
are_texts (suc count) n octets = begins (44 ∷ digits n) octets && are_texts count (suc n) (drop 4 octets)

text_at : (count n p : ℕ) (octets : List ℕ) → T (are_texts count n octets) → p < count → T (begins (44 ∷ digits (n + p)) (drop (4 * p) octets))
unfolding are_texts begins
text_at zero n p octets t lt = absurd (omega (arith, lt))
text_at (suc count) n zero octets t lt = let e : n + 0 ≡ n = omega arith in rw e (and_l _ (are_texts count (suc n) (drop 4 octets)) t)
text_at (suc count) n (suc p) octets t lt =
    let e : n + suc p ≡ suc n + p = omega arith in
    let f : 4 * suc p ≡ 4 + 4 * p = omega arith in
    rw (e, f, sym (drop-drop (4 * p) 4 octets)) (text_at count (suc n) p (drop 4 octets) (and_r (begins (44 ∷ digits n) octets) _ t) (omega (arith, lt)))

table : T (are_texts 1000 0 LISTED)
unfolding are_texts begins digits
table = tt

digits_are : (n : ℕ) → n < 1000 → digits n ≡ decimal n
unfolding digits
digits_are n small = elim (cases_lt n 10) [
  | inl one ↦ rw (lt-ltb n 10 one) (sym (decimal_digit n one))
  | inr ten ↦ elim (cases_lt n 100) [
    | inl two ↦ rw (le-ltb n 10 ten, lt-ltb n 100 two) (sym (decimal_two n ten two))
    | inr hundred ↦ rw (le-ltb n 10 ten, le-ltb n 100 hundred) (sym (decimal_pair n hundred (omega (arith, small)) ∙ ap (λ (l : List ℕ). l ++ pair (n % 100)) (decimal_digit (n / 100) (omega (arith, small)))))
  ]
]

-- what the four octets begin with
text_is : (n : ℕ) → n < 1000 → take (1 + length (decimal n)) (drop (4 * n) LISTED) ≡ 44 ∷ decimal n
text_is n small =
    let e : 0 + n ≡ n = omega arith in
    let there = subst (λ (m : ℕ). T (begins (44 ∷ digits m) (drop (4 * n) LISTED))) e (text_at 1000 0 n LISTED table small) in
    let long : 1 + length (digits n) ≡ length (44 ∷ digits n) = omega arith in
    rw (sym (digits_are n small)) (ap (λ (k : ℕ). take k (drop (4 * n) LISTED)) long ∙ begins-take (44 ∷ digits n) (drop (4 * n) LISTED) there)

-- a text that is written behind others
pub text_put : (old new word rest : List ℕ) (at n end : ℕ) → at ≤ length old → n < 1000 → take 4 (drop (4 * n) LISTED) ≡ word → length word ≡ 4 → new ≡ take at old ++ (word ++ rest) → end ≡ at + (1 + length (decimal n)) → 1 + length (decimal n) ≤ 4 → take end new ≡ take at old ++ 44 ∷ decimal n
text_put old new word rest at n end inside small is four put ends few =
    let m = 1 + length (decimal n) in
    let front : length (take at old) ≡ at = length-take-le at old inside in
    ap₂ (λ (e : ℕ) (l : List ℕ). take e l) (ends ∙ ap (λ (k : ℕ). k + m) (sym front)) put ∙ take-append-add (take at old) (word ++ rest) m
    ∙ ap (λ (l : List ℕ). take at old ++ l) (take-append-le m word rest (omega (arith, four, few)) ∙ ap (λ (l : List ℕ). take m l) (sym is) ∙ take-take m 4 (drop (4 * n) LISTED) few ∙ text_is n small)

-- how long it is
pub length_short : (n tens hundreds : ℕ) → n < 1000 → tens ≡ from_bool (nat_le 10 n) → hundreds ≡ from_bool (nat_le 100 n) → 2 + tens + hundreds ≡ 1 + length (decimal n)
length_short n tens hundreds small is_tens is_hundreds = elim (cases_lt n 10) [
  | inl one ↦ rw (is_tens, is_hundreds, lt-leb 10 n one, lt-leb 100 n (omega (arith, one)), decimal_digit n one) refl
  | inr ten ↦ elim (cases_lt n 100) [
    | inl two ↦ rw (is_tens, is_hundreds, le-leb 10 n ten, lt-leb 100 n two, decimal_two n ten two) refl
    | inr hundred ↦ rw (is_tens, is_hundreds, le-leb 10 n ten, le-leb 100 n hundred, length_three n hundred small) refl
  ]
]
