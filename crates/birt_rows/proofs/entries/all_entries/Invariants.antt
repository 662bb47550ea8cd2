use Rattle.std.proofs.Common.{true, false, ◌&&◌, filter, slice_index_or}
use Rattle.std.specs.List.{range_with_len}
use Rattle.birt_rows.specs.Entries.{AreEntries}
use Rattle.birt_rows.proofs.entries.all_entries.Given as goal

abbrev pub invariant-loop-node : goal.invariant-loop-node
invariant-loop-node l =
    AreEntries l.ends l.nodes l.u (filter (λ x. slice_index_or l.seen x true && slice_index_or l.covers x false) (range_with_len 0 l.node)) l.entries.items
