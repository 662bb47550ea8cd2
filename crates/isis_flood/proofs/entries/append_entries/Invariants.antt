use Rattle.std.proofs.Common.{◌≡◌, ◌≤◌, ◌++◌, length}
use Rattle.std.specs.List.{filter_map}
use Rattle.std.specs.Result.{result_ok}
use Rattle.wire_base.specs.model.Tlv.{row_at, entries_of}
use Rattle.isis_tlv.specs.Walked.{walked}
use Rattle.isis_flood.proofs.entries.append_entries.Given as goal

-- those so far and those that follow are all
abbrev pub invariant-loop-entry : goal.invariant-loop-entry
invariant-loop-entry l = record {
  so_far : l.rows ++ filter_map result_ok (walked row_at l.entry-iterator) ≡ l.fn.rows ++ entries_of row_at l.value;
  grown : length l.fn.rows ≤ length l.rows;
}
