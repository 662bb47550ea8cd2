use Rattle.std.proofs.Common.{◌≡◌, take}
use Rattle.router_core.proofs.own.ends_up.Given as goal

abbrev pub invariant-ends : goal.invariant-ends
invariant-ends l = l.up.items ≡ take l.link l.flood.flood.up
