use Rattle.std.proofs.Common.{◌≡◌, take}
use Rattle.wire_base.proofs.router_conf.copy_of_subs.Given as goal

abbrev pub invariant-loop-sub : goal.invariant-loop-sub
invariant-loop-sub l = l.copied ≡ take l.sub-index l.subs
