use Rattle.std.proofs.Common.{◌≡◌, ◌++◌, take, drop}
use Rattle.wire_base.specs.model.Membership.{ranges_moved}
use Rattle.router_core.proofs.membership.move_range.Given as goal

abbrev pub invariant-loop-place : goal.invariant-loop-place
invariant-loop-place l = (l.ranges ≡ l.initial.ranges) × (take l.place l.ranges ++ ranges_moved l.bsl l.label (drop l.place l.ranges) ≡ ranges_moved l.bsl l.label l.ranges)
