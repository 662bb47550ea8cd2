use Rattle.std.proofs.Common.{◌≡◌, ◌-◌, take}
use Rattle.same_octets.proofs.same.are_same_chunks.Given as goal

-- the octets before an index are equal
abbrev pub invariant-chunks : goal.invariant-chunks
invariant-chunks l = take l.at l.a ≡ take l.at l.b

abbrev pub decreases-chunks : goal.decreases-chunks
decreases-chunks l = l.last - l.at
