use Rattle.std.proofs.Common.{◌≡◌, drop}
use Rattle.wire_base.specs.model.Place.{labelled, placed}
use Rattle.wire_base.proofs.router_conf.in_ranges.Given as goal

abbrev pub invariant-loop-range : goal.invariant-loop-range
invariant-loop-range l = labelled l.kinds (placed l.sd (drop l.range-index l.ranges)) l.label ≡ labelled l.kinds (placed l.sd l.ranges) l.label
