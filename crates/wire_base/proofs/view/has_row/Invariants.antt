use Rattle.std.proofs.Common.{◌≡◌, drop, is_some}
use Rattle.wire_base.specs.model.Place.{row_in}
use Rattle.wire_base.proofs.view.has_row.Given as goal

abbrev pub invariant-loop-row : goal.invariant-loop-row
invariant-loop-row l = is_some (row_in (drop l.row-index l.table) l.t) ≡ is_some (row_in l.table l.t)
