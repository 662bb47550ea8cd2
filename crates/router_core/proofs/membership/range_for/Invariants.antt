use Rattle.std.proofs.Common.{◌≡◌, drop}
use Rattle.wire_base.specs.model.Membership.{range_for}
use Rattle.router_core.proofs.membership.range_for.Given as goal

abbrev pub invariant-loop-range : goal.invariant-loop-range
invariant-loop-range l = range_for (drop l.range-index l.ranges) l.bsl ≡ range_for l.ranges l.bsl
