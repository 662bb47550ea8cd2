use Rattle.std.proofs.Common.{◌+◌, ◌-◌, length}
use Rattle.bier_bits.specs.Sets.{IsRest}
use Rattle.bier_bits.proofs.Marks.{IsCleared}
use Rattle.bier_bits.proofs.words.clear.Given as goal

abbrev pub invariant-visits : goal.invariant-visits
invariant-visits l = IsCleared l.words l.marks l.k × IsRest l.marks l.rest (l.k + 1)

abbrev pub decreases-visits : goal.decreases-visits
decreases-visits l = length l.words - l.k
