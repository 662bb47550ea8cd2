use Rattle.std.proofs.Common.{◌≡◌, ◌++◌}
use Rattle.std.specs.List.{filter_map, flat_map}
use Rattle.std.specs.Result.{result_ok}
use Rattle.wire_base.specs.model.Tlv.{entries_of, prefix_at}
use Rattle.wire_base.specs.model.View.{subs_of}
use Rattle.isis_tlv.specs.Walked.{walked}
use Rattle.view_graph.proofs.places.append_places.Given as goal

abbrev pub invariant-loop-entry : goal.invariant-loop-entry
invariant-loop-entry l = l.subs ++ flat_map subs_of (filter_map result_ok (walked prefix_at l.entry-iterator)) ≡ l.fn.subs ++ flat_map subs_of (entries_of prefix_at l.value)
