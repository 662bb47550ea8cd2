use Rattle.std.proofs.Common.{◌≡◌, drop, is_some}
use Rattle.wire_base.specs.model.Place.{label_in}
use Rattle.wire_base.proofs.view.has_label.Given as goal

abbrev pub invariant-loop-range : goal.invariant-loop-range
invariant-loop-range l = is_some (label_in (drop l.range-index l.ranges) l.t) ≡ is_some (label_in l.ranges l.t)
