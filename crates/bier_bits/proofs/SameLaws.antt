-- Sets of which neither has a position that the other lacks.
use Rattle.std.proofs.Common.{◌≡◌, ℕ, ◌==◌, Bool, true, false, ◌&&◌, not, List, [], length, refl, sym, ap, ◌∙◌}
use Rattle.std.proofs.lemmas.Bool.{eqb-true}
use Rattle.std.proofs.lemmas.List.{nil_from_length}
use Rattle.wire_base.specs.model.BitSet.{has_member, IsWithin, difference}
use Rattle.wire_base.proofs.SetLaws.{has-difference, same_within, within-difference}

is_nil : (xs : List ℕ) → (length xs == 0) ≡ true → xs ≡ []
is_nil xs e = nil_from_length xs (eqb-true (length xs) 0 e)

-- what one has, the other has
both_have : (p : ℕ) (xs ys : List ℕ) → (length (difference xs ys) == 0) ≡ true → (has_member p xs && not (has_member p ys)) ≡ false
both_have p xs ys none = sym (has-difference p xs ys) ∙ ap (has_member p) (is_nil (difference xs ys) none)

pub same_sets : (n : ℕ) (xs ys : List ℕ) → IsWithin 0 n xs → IsWithin 0 n ys → (length (difference xs ys) == 0) ≡ true → (length (difference ys xs) == 0) ≡ true → xs ≡ ys
same_sets n xs ys first second here there =
    same_within n xs ys first second (λ p low high. by (has_member p xs) (has_member p ys) (both_have p xs ys here) (both_have p ys xs there))
  where
    by : (a b : Bool) → (a && not b) ≡ false → (b && not a) ≡ false → a ≡ b
    by true true e f = refl
    by true false e f = absurd cc
    by false true e f = absurd cc
    by false false e f = refl

-- a set has nothing that it lacks
pub none_lacks : (n : ℕ) (xs : List ℕ) → IsWithin 0 n xs → (length (difference xs xs) == 0) ≡ true
none_lacks n xs is = ap (λ (zs : List ℕ). length zs == 0) (same_within n (difference xs xs) [] (within-difference 0 n xs xs is) tt (λ p low high. has-difference p xs xs ∙ by (has_member p xs)))
  where
    by : (b : Bool) → (b && not b) ≡ false
    by true = refl
    by false = refl
