use Rattle.std.proofs.Common.{◌≡◌, ◌-◌, ◌≤◌, length, take}
use Rattle.same_octets.proofs.same.are_same_ones.Given as goal

-- the octets before an index are equal
abbrev pub invariant-octets : goal.invariant-octets
invariant-octets l = (l.at ≤ length l.a) × (take l.at l.a ≡ take l.at l.b)

abbrev pub decreases-octets : goal.decreases-octets
decreases-octets l = length l.a - l.at
