-- The sum of a header's numbers, and the checksum that makes it right.
use Rattle.std.proofs.Common.{◌≡◌, ℕ, ◌+◌, ◌-◌, ◌%◌, ◌<◌, ◌≤◌, List, [], ◌∷◌, length, drop, refl, arith}
use Rattle.std.proofs.lemmas.Bool.{ne_eqb}
use Rattle.byteorder.specs.Endian.{big_number}
use Rattle.wire_base.specs.model.Tunnel.{word_sum, ones_sum}

-- one number and the rest
pub first_word : (xs : List ℕ) → 2 ≤ length xs → word_sum xs ≡ big_number 2 xs + word_sum (drop 2 xs)
first_word [] long = absurd (omega arith)
first_word (x ∷ []) long = absurd (omega arith)
first_word (x ∷ y ∷ rest) long = omega arith

-- what is left to FFFF makes the sum FFFF
pub makes_right : (n c : ℕ) → 0 < n → c ≡ 65535 - ones_sum n → ones_sum (n + c) ≡ 65535
makes_right n c some is =
    let some_more : 0 < n + c = omega arith in
    let sum : ones_sum n ≡ (n - 1) % 65535 + 1 = rw (ne_eqb n 0 (λ e. omega arith)) refl in
    rw (ne_eqb (n + c) 0 (λ e. omega arith)) (omega (arith, is, sum))
