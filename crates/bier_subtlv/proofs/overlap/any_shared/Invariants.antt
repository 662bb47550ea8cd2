use Rattle.std.proofs.Common.{◌≡◌, length}
use Rattle.wire_base.specs.model.BierInfo.{any_overlap}
use Rattle.bier_subtlv.proofs.overlap.any_shared.Given as goal

abbrev pub invariant-later : goal.invariant-later
invariant-later l = any_overlap l.rest ≡ any_overlap l.fn.ranges

abbrev pub decreases-later : goal.decreases-later
decreases-later l = length l.rest
