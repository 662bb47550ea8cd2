-- Definitions on lists that several subjects share.
use Rattle.std.specs.Prelude.{◌≡◌, ℕ, zero, suc, Bool, false, List, [], ◌∷◌, length, take, drop, Option, Some, None}
use Rattle.std.specs.List.{AllByRecursion}

-- no two of them are equal by a test
abbrev pub AreApart : {X : Type 0} → (X → X → Bool) → List X → Type 0
AreApart same [] = Unit {0}
AreApart same (x ∷ xs) = AllByRecursion (λ y. same x y ≡ false) xs × AreApart same xs

-- the first of two that is Some
abbrev pub or_else : {X : Type 0} → Option X → Option X → Option X
or_else None second = second
or_else (Some x) second = Some x

-- at most that many blocks of n
abbrev pub blocks_within : {X : Type 0} → ℕ → ℕ → List X → List (List X)
blocks_within zero n xs = []
blocks_within (suc more) n [] = []
blocks_within (suc more) n (x ∷ xs) = take n (x ∷ xs) ∷ blocks_within more n (drop n (x ∷ xs))

-- the list split into blocks of n, above 0; the last block may be shorter
abbrev pub blocks : {X : Type 0} → ℕ → List X → List (List X)
blocks n xs = blocks_within (length xs) n xs
