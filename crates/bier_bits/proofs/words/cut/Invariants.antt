use Rattle.std.proofs.Common.{◌+◌, ◌-◌, length}
use Rattle.bier_bits.specs.Sets.{AreMarked, IsRest}
use Rattle.bier_bits.proofs.Joined.{IsCut}
use Rattle.bier_bits.proofs.words.cut.Given as goal

abbrev pub invariant-visits : goal.invariant-visits
invariant-visits l = IsCut l.fn.words l.words l.mask l.taken l.taken_marks l.k × (AreMarked l.left_marks l.words × IsRest l.shared l.rest (l.k + 1))

abbrev pub decreases-visits : goal.decreases-visits
decreases-visits l = length l.words - l.k
