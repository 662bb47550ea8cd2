use Rattle.std.proofs.Common.{◌≡◌, drop}
use Rattle.wire_base.specs.model.Place.{label_in}
use Rattle.bier_forward.proofs.bift.label_in.Given as goal

abbrev pub invariant-loop-range : goal.invariant-loop-range
invariant-loop-range l = label_in (drop l.range-index l.ranges) l.triple ≡ label_in l.ranges l.triple
