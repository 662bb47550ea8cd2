-- The octets of a read.
use Rattle.std.proofs.Common.{◌≡◌, ℕ, ◌≤◌, min, List, ◌++◌, length, take, drop, sym, ap, ◌∙◌, arith, inl, inr}
use Rattle.std.proofs.lemmas.Bool.{cases_lt}
use Rattle.std.proofs.lemmas.List.{take_all, take_at, take-take}

-- what a buffer has at its front after a read
pub piece_is : (k count m : ℕ) (into items given : List ℕ) → given ≡ take m (into ++ drop (length into) items) → m ≡ length into → k ≤ count → take k given ≡ take k (take count into)
piece_is k count m into items given given-is whole less =
    ap (λ (l : List ℕ). take k l) (given-is ∙ take_at into (drop (length into) items) m (sym whole)) ∙ sym (take-take k count into less)

-- all of what is short
pub piece_short : (room : ℕ) (piece : List ℕ) (count : ℕ) → length piece ≡ count → take (min count room) piece ≡ take room piece
piece_short room piece count size = elim (cases_lt count room) [
  | inl short ↦
      let all : min count room ≡ count = omega (arith, short) in
      ap (λ (n : ℕ). take n piece) all ∙ take_all count piece (omega (arith, size)) ∙ sym (take_all room piece (omega (arith, size, short)))
  | inr long ↦
      let part : min count room ≡ room = omega (arith, long) in
      ap (λ (n : ℕ). take n piece) part
]
