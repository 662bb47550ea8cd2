-- The digits of numbers, put one after the other.
use Rattle.std.proofs.Common.{◌≡◌, ℕ, ◌+◌, ◌/◌, ◌%◌, ◌^◌, ◌<◌, ◌≤◌, List, [], ◌∷◌, ◌++◌, length, sym, ap, ◌∙◌, append_assoc, arith}
use Rattle.std.specs.Fmt.{decimal}
use Rattle.std.proofs.lemmas.Fmt.{decimal_digit, length-decimal-le}
use Rattle.itoa.proofs.Decimal.{pair, decimal_two, decimal_pair, decimal_four, length_one, length_two, length_pair, length_four as all_but_four}

pub one_digit : (old new : List ℕ) (n : ℕ) → n < 10 → new ≡ old ++ (48 + n) ∷ [] → new ≡ old ++ decimal n
one_digit old new n small is = is ∙ ap (λ (l : List ℕ). old ++ l) (sym (decimal_digit n small))

pub two_digits : (old new : List ℕ) (n : ℕ) → 10 ≤ n → n < 100 → new ≡ old ++ pair n → new ≡ old ++ decimal n
two_digits old new n large small is = is ∙ ap (λ (l : List ℕ). old ++ l) (sym (decimal_two n large small))

-- the first digit, and then two more
pub three_digits : (old a new : List ℕ) (n : ℕ) → 100 ≤ n → n < 1000 → a ≡ old ++ (48 + n / 100) ∷ [] → new ≡ a ++ pair (n % 100) → new ≡ old ++ decimal n
three_digits old a new n large small first is =
    is ∙ ap (λ (l : List ℕ). l ++ pair (n % 100)) (one_digit old a (n / 100) (omega (arith, small)) first) ∙ append_assoc old (decimal (n / 100)) (pair (n % 100)) ∙ ap (λ (l : List ℕ). old ++ l) (sym (decimal_pair n large (omega (arith, small))))

-- two pairs of digits
pub four_digits : (old new : List ℕ) (n : ℕ) → 1000 ≤ n → n < 10000 → new ≡ old ++ (pair (n / 100) ++ pair (n % 100)) → new ≡ old ++ decimal n
four_digits old new n large small is =
    is ∙ ap (λ (l : List ℕ). old ++ (l ++ pair (n % 100))) (sym (decimal_two (n / 100) (omega (arith, large)) (omega (arith, small)))) ∙ ap (λ (l : List ℕ). old ++ l) (sym (decimal_pair n (omega (arith, large)) (omega (arith, small))))

-- the digits of all but the last four, and those
pub more_digits : (old front new : List ℕ) (n : ℕ) → 10000 ≤ n → n < 2 ^ 64 → front ≡ old ++ decimal (n / 10000) → new ≡ front ++ (pair (n % 10000 / 100) ++ pair (n % 10000 % 100)) → new ≡ old ++ decimal n
more_digits old front new n large small so_far is =
    let four = pair (n % 10000 / 100) ++ pair (n % 10000 % 100) in
    is ∙ ap (λ (l : List ℕ). l ++ four) so_far ∙ append_assoc old (decimal (n / 10000)) four ∙ ap (λ (l : List ℕ). old ++ l) (sym (decimal_four n large small))

-- ---- how many there are

pub length_three : (n : ℕ) → 100 ≤ n → n < 1000 → length (decimal n) ≡ 3
length_three n large small = omega (arith, length_pair n large (omega (arith, small)), length_one (n / 100) (omega (arith, small)))

pub length_four : (n : ℕ) → 1000 ≤ n → n < 10000 → length (decimal n) ≡ 4
length_four n large small = omega (arith, length_pair n (omega (arith, large)) (omega (arith, small)), length_two (n / 100) (omega (arith, large)) (omega (arith, small)))

pub length_more : (n : ℕ) → 10000 ≤ n → n < 2 ^ 64 → length (decimal n) ≡ length (decimal (n / 10000)) + 4
length_more n large small = all_but_four n large small

pub length_few : (n : ℕ) → n < 10000 → length (decimal n) ≤ 4
length_few n small = length-decimal-le 4 n (omega arith) small (omega (arith, small))

pub length_word : (n : ℕ) → n < 2 ^ 32 → length (decimal n) ≤ 10
length_word n small = length-decimal-le 10 n (omega arith) (omega (arith, small)) (omega (arith, small))

pub length_many : (n : ℕ) → n < 2 ^ 64 → length (decimal n) ≤ 20
length_many n small = length-decimal-le 20 n (omega arith) (omega (arith, small)) small
