use Rattle.std.proofs.Common.{◌≡◌, ◌++◌, length, take}
use Rattle.std.specs.List.{AllByRecursion}
use Rattle.wire_base.specs.model.Tlv.{SummaryFits}
use Rattle.wire_base.specs.model.Pdu.{row_tlvs}
use Rattle.isis_pdu.proofs.writer.append_rows.Given as goal

abbrev pub invariant-cuts : goal.invariant-cuts
invariant-cuts l = record {
  text : l.out ++ row_tlvs l.rest ≡ l.fn.out ++ row_tlvs l.rows;
  front : take (length l.fn.out) l.out ≡ l.fn.out;
  fits : AllByRecursion SummaryFits l.rest → AllByRecursion SummaryFits l.rows;
}

abbrev pub decreases-cuts : goal.decreases-cuts
decreases-cuts l = length l.rest
