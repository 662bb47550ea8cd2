use Rattle.std.proofs.Common.{◌≤◌, ◌+◌, ◌-◌, length}
use Rattle.router_core.specs.Aging.{IsOlder}
use Rattle.router_core.proofs.seconds.age_all.Given as goal

abbrev pub invariant-entries : goal.invariant-entries
invariant-entries l = record {
  older : IsOlder l.fn.store.entries l.store.entries l.fn.flood.flood l.flood.flood l.place;
  within : l.place ≤ length l.store.entries;
  spare : l.fn.flood.spare + (length l.store.entries - l.place) ≤ l.flood.spare + length l.fn.store.entries;
  room : l.fn.store.spare ≤ l.store.spare;
}

abbrev pub decreases-entries : goal.decreases-entries
decreases-entries l = length l.store.entries - l.place
