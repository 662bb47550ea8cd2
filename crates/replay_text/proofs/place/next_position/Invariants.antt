use Rattle.std.proofs.Common.{◌≤◌}
use Rattle.replay_text.specs.Places.{IsPlace}
use Rattle.replay_text.proofs.PlaceLaws.{Passed}
use Rattle.replay_text.proofs.place.next_position.Given as goal

-- no bit is set from the place that was given up to the one that is looked at
abbrev pub invariant-words : goal.invariant-words
invariant-words l = record { is : IsPlace l.octets l.at l.from l.above; passed : Passed l.octets l.fn.place.from l.from; later : l.fn.place.from ≤ l.from }

abbrev pub decreases-words : goal.decreases-words
decreases-words l = l.at
