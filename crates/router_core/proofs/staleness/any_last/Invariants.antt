use Rattle.std.proofs.Common.{◌≡◌, false, take}
use Rattle.std.specs.List.{list_any}
use Rattle.router_core.specs.Keeping.{is_last}
use Rattle.router_core.proofs.staleness.any_last.Given as goal

abbrev pub invariant-entries : goal.invariant-entries
invariant-entries l = list_any is_last (take l.place l.store.entries) ≡ false
