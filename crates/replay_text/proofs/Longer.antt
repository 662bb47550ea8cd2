-- A front of what was written.
use Rattle.std.proofs.Common.{◌≡◌, ℕ, ◌+◌, ◌≤◌, List, ◌++◌, length, take, sym, ap, ◌∙◌, arith}
use Rattle.std.proofs.lemmas.List.{length-take-le, take-take}
use Rattle.std.proofs.Math.Seq.{take-append-add}

-- if a text was written behind the first octets, each front of it stands there
pub front_of_longer : (at n : ℕ) (room old text : List ℕ) → n ≤ length text → at ≤ length old → take (at + length text) room ≡ take at old ++ text → take (at + n) room ≡ take at old ++ take n text
front_of_longer at n room old text le within written =
    sym (take-take (at + n) (at + length text) room (omega (arith, le))) ∙ ap (take (at + n)) written ∙ ap (λ (k : ℕ). take (k + n) (take at old ++ text)) (sym (length-take-le at old within)) ∙ take-append-add (take at old) text n
