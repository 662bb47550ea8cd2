use Rattle.std.proofs.Common.{◌≡◌, ◌≤◌, length, filter, take}
use Rattle.wire_base.specs.model.Flooding.{is_known}
use Rattle.router_core.proofs.pending.known.Given as goal

abbrev pub invariant-entries : goal.invariant-entries
invariant-entries l = record {
  counted : l.count ≡ length (filter is_known (take l.place l.store.entries));
  few : l.count ≤ l.place;
}
