use Rattle.std.proofs.Common.{◌≡◌, ◌≤◌, length, filter, take}
use Rattle.wire_base.specs.model.Control.{srm_in}
use Rattle.router_core.proofs.pending.marked.Given as goal

abbrev pub invariant-entries : goal.invariant-entries
invariant-entries l = record {
  counted : l.count ≡ length (filter (λ e. srm_in l.flood.flood.rows e.id l.link) (take l.place l.store.entries));
  few : l.count ≤ l.place;
}
