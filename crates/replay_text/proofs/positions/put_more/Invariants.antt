use Rattle.std.proofs.Common.{◌≡◌, ◌++◌, ◌∷◌, ℕ, List, length, take}
use Rattle.std.specs.List.{flat_map}
use Rattle.std.specs.Fmt.{decimal}
use Rattle.replay_text.proofs.positions.put_more.Given as goal

-- what is written, with what stands in the block, and what is left make the whole text
abbrev pub invariant-positions : goal.invariant-positions
invariant-positions g l =
    (done : List ℕ) × (l.out ++ l.block ≡ l.fn.out ++ (l.fn.block ++ flat_map (λ next. 44 ∷ decimal next) done)) × (l.fn.set ≡ done ++ l.set)
    × ((text : List ℕ) → take (length text) l.fn.out ≡ text → take (length text) l.out ≡ text)

abbrev pub decreases-positions : goal.decreases-positions
decreases-positions g l = length l.set
