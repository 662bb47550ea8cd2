use Rattle.std.proofs.Common.{◌≡◌, ◌++◌, take, drop}
use Rattle.wire_base.specs.model.Membership.{subs_moved}
use Rattle.router_core.proofs.membership.move_sub.Given as goal

abbrev pub invariant-loop-place : goal.invariant-loop-place
invariant-loop-place l = (l.subs ≡ l.initial.subs) × (take l.place l.subs ++ subs_moved l.sd l.bsl l.label (drop l.place l.subs) ≡ subs_moved l.sd l.bsl l.label l.subs)
