use Rattle.std.proofs.Common.{◌≡◌, false, take}
use Rattle.bift_table.proofs.NeighbourLaws.{is_known}
use Rattle.bift_table.proofs.neighbour.find_number.Given as goal

abbrev pub invariant-loop-number : goal.invariant-loop-number
invariant-loop-number g l = is_known l.to (take l.number l.neighbours) ≡ false
