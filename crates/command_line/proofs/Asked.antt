-- The search for a number in a range, number by number.
use Rattle.std.proofs.Common.{◌≡◌, ℕ, suc, ◌+◌, ◌-◌, ◌<◌, Bool, true, false, cond, Some, ap, ◌∙◌, arith}
use Rattle.std.specs.List.{find, range_with_len}

one_more : (n last : ℕ) → n < last → last - n ≡ suc (last - (n + 1))
one_more n last below = omega (arith, below)

step : (p : ℕ → Bool) (n last : ℕ) → n < last → find p (range_with_len n (last - n)) ≡ cond (p n) (Some n) (find p (range_with_len (n + 1) (last - (n + 1))))
step p n last below = ap (λ (k : ℕ). find p (range_with_len n k)) (one_more n last below)

pub found : (p : ℕ → Bool) (n last : ℕ) → n < last → p n ≡ true → find p (range_with_len n (last - n)) ≡ Some n
found p n last below is = step p n last below ∙ ap (λ (b : Bool). cond b (Some n) (find p (range_with_len (n + 1) (last - (n + 1))))) is

pub not_found : (p : ℕ → Bool) (n last : ℕ) → n < last → p n ≡ false → find p (range_with_len n (last - n)) ≡ find p (range_with_len (n + 1) (last - (n + 1)))
not_found p n last below is = step p n last below ∙ ap (λ (b : Bool). cond b (Some n) (find p (range_with_len (n + 1) (last - (n + 1))))) is
