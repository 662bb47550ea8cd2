use Rattle.std.proofs.Common.{◌≡◌, ◌≤◌, ◌-◌, length, map, replicate}
use Rattle.wire_base.specs.declared.cause.Cause.TheVariants as cause
use Rattle.router_core.specs.Received.{full_drop}
use Rattle.router_core.proofs.snp_needs.repeated_drops.Given as goal

abbrev pub invariant-drops : goal.invariant-drops
invariant-drops l = record {
  so : l.drops ≡ map full_drop (replicate (length l.drops) cause.Full);
  few : length l.drops ≤ l.full;
}

abbrev pub decreases-drops : goal.decreases-drops
decreases-drops l = l.full - length l.drops
