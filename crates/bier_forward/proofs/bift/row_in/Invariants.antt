use Rattle.std.proofs.Common.{◌≡◌, drop}
use Rattle.wire_base.specs.model.Place.{row_in}
use Rattle.bier_forward.proofs.bift.row_in.Given as goal

abbrev pub invariant-loop-row : goal.invariant-loop-row
invariant-loop-row l = row_in (drop l.row-index l.table) l.triple ≡ row_in l.table l.triple
