use Rattle.std.proofs.Common.{◌≡◌, ◌≤◌, ◌-◌, replicate, true, vec_len}
use Rattle.router_core.proofs.ends.all_up.Given as goal

abbrev pub invariant-ends : goal.invariant-ends
invariant-ends l = record {
  so : l.up.items ≡ replicate (vec_len l.up) true;
  few : vec_len l.up ≤ l.ends;
}

abbrev pub decreases-ends : goal.decreases-ends
decreases-ends l = l.ends - vec_len l.up
