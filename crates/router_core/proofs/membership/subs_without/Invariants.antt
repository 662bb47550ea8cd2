use Rattle.std.proofs.Common.{◌≡◌, ◌++◌, drop}
use Rattle.wire_base.specs.model.Membership.{subs_without}
use Rattle.router_core.proofs.membership.subs_without.Given as goal

abbrev pub invariant-loop-sub : goal.invariant-loop-sub
invariant-loop-sub l = l.rest ++ subs_without l.sd (drop l.sub-index l.subs) ≡ subs_without l.sd l.subs
