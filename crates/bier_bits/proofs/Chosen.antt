-- Loops over all positions, which keep those that pass a test, in order.
use Rattle.std.proofs.Common.{◌≡◌, ℕ, suc, ◌+◌, Bool, true, false, cond, List, [], ◌∷◌, ◌++◌, length, refl, sym, ap, ◌∙◌, arith, subst, filter}
use Rattle.std.proofs.lemmas.Bool.{ne_eqb, le-ltb}
use Rattle.std.proofs.lemmas.List.{append-nil, length-append}
use Rattle.std.proofs.lemmas.List.Elements.{filter-append}
use Rattle.wire_base.specs.model.BitSet.{with_member, up_to, IsWithin}
use Rattle.wire_base.proofs.SetLaws.{within-filter, within-up_to}

-- the positions that pass, among the first n
abbrev pub chosen : (ℕ → Bool) → ℕ → List ℕ
chosen test n = filter test (up_to n)

with-last : (low p : ℕ) (xs : List ℕ) → IsWithin low p xs → with_member (suc p) xs ≡ xs ++ suc p ∷ []
with-last low p [] is = refl
with-last low p (x ∷ xs) is = rw (le-ltb (suc p) x (omega (arith, is.1)), ne_eqb (suc p) x (λ e. omega (arith, is.1))) (ap (λ (l : List ℕ). x ∷ l) (with-last x p xs is.2))

one_more : (test : ℕ → Bool) (n : ℕ) → chosen test (suc n) ≡ chosen test n ++ cond (test (suc n)) (suc n ∷ []) []
one_more test n = filter-append test (up_to n) (suc n ∷ [])

-- one position more, that passes
pub chosen_more : (test : ℕ → Bool) (n m : ℕ) (bits new : List ℕ) → m ≡ suc n → test m ≡ true → bits ≡ chosen test n → new ≡ with_member m bits → new ≡ chosen test m
chosen_more test n m bits new is passes so_far changed =
    subst (λ (k : ℕ). test k ≡ true → new ≡ with_member k bits → new ≡ chosen test k) (sym is)
    (λ passes changed. changed ∙ ap (with_member (suc n)) so_far ∙ with-last 0 n (chosen test n) (within-filter 0 n test (up_to n) (within-up_to n)) ∙ sym (one_more test n ∙ ap (λ (b : Bool). chosen test n ++ cond b (suc n ∷ []) []) passes)) passes changed

-- one position more, that doesn't
pub chosen_same : (test : ℕ → Bool) (n m : ℕ) (bits : List ℕ) → m ≡ suc n → test m ≡ false → bits ≡ chosen test n → bits ≡ chosen test m
chosen_same test n m bits is fails so_far =
    subst (λ (k : ℕ). test k ≡ false → bits ≡ chosen test k) (sym is)
    (λ fails. so_far ∙ sym (one_more test n ∙ ap (λ (b : Bool). chosen test n ++ cond b (suc n ∷ []) []) fails ∙ append-nil (chosen test n))) fails

-- the same counted
pub count_more : (test : ℕ → Bool) (n m : ℕ) → m ≡ suc n → test m ≡ true → length (chosen test m) ≡ length (chosen test n) + 1
count_more test n m is passes =
    subst (λ (k : ℕ). test k ≡ true → length (chosen test k) ≡ length (chosen test n) + 1) (sym is)
    (λ passes. ap length (one_more test n ∙ ap (λ (b : Bool). chosen test n ++ cond b (suc n ∷ []) []) passes) ∙ length-append (chosen test n) (suc n ∷ [])) passes

pub count_same : (test : ℕ → Bool) (n m : ℕ) → m ≡ suc n → test m ≡ false → length (chosen test m) ≡ length (chosen test n)
count_same test n m is fails = ap length (sym (chosen_same test n m (chosen test n) is fails refl))
