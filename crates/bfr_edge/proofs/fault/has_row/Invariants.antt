use Rattle.std.proofs.Common.{◌≡◌, ◌==◌, ◌&&◌, drop}
use Rattle.std.specs.List.{list_any}
use Rattle.wire_base.specs.model.Place.{code_of}
use Rattle.bfr_edge.proofs.fault.has_row.Given as goal

abbrev pub invariant-loop-row : goal.invariant-loop-row
invariant-loop-row l = list_any (λ row. (row.triple.sd == l.sd) && (code_of row.triple.bsl == code_of l.bsl)) (drop l.row-index l.table) ≡ list_any (λ row. (row.triple.sd == l.sd) && (code_of row.triple.bsl == code_of l.bsl)) l.table
