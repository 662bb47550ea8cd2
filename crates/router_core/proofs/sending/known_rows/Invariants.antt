use Rattle.std.proofs.Common.{◌≡◌, map, filter, take}
use Rattle.wire_base.specs.model.Control.{summary_of}
use Rattle.wire_base.specs.model.Flooding.{is_known}
use Rattle.router_core.proofs.sending.known_rows.Given as goal

abbrev pub invariant-entries : goal.invariant-entries
invariant-entries l = l.rows.items ≡ map summary_of (filter is_known (take l.place l.store.entries))
