use Rattle.std.proofs.Common.{◌≡◌, ◌≤◌, ◌++◌, length}
use Rattle.std.specs.List.{filter_map, flat_map}
use Rattle.std.specs.Result.{result_ok}
use Rattle.wire_base.specs.model.Tlv.{one_tlv_at, rows_in, rows_of}
use Rattle.isis_tlv.specs.Walked.{walked}
use Rattle.isis_flood.proofs.entries.append_items.Given as goal

-- those so far and those that follow are all
abbrev pub invariant-loop-tlv : goal.invariant-loop-tlv
invariant-loop-tlv l = record {
  so_far : l.rows ++ flat_map rows_in (filter_map result_ok (walked one_tlv_at l.tlv-iterator)) ≡ l.fn.rows ++ rows_of l.tlvs;
  grown : length l.fn.rows ≤ length l.rows;
}
