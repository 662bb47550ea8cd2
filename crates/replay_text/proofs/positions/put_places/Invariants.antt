use Rattle.std.proofs.Common.{◌≡◌, ◌-◌, ◌++◌, ◌∷◌, ℕ, List, length, take}
use Rattle.std.specs.List.{flat_map}
use Rattle.std.specs.Fmt.{decimal}
use Rattle.replay_text.specs.Places.{IsPlace, left}
use Rattle.replay_text.proofs.positions.put_places.Given as goal

-- what is written, with what stands in the block, and what is left make the whole text
abbrev pub invariant-positions : goal.invariant-positions
invariant-positions l =
    (done : List ℕ) × (l.out ++ l.block ≡ l.fn.out ++ (l.fn.block ++ flat_map (λ next. 44 ∷ decimal next) done)) × (left l.octets l.fn.start.from ≡ done ++ left l.octets l.place.from)
    × ((text : List ℕ) → take (length text) l.fn.out ≡ text → take (length text) l.out ≡ text) × IsPlace l.octets l.place.at l.place.from l.place.above

abbrev pub decreases-positions : goal.decreases-positions
decreases-positions l = 4096 - l.place.from
