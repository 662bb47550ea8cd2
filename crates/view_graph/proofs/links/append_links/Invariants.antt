use Rattle.std.proofs.Common.{◌≡◌, ◌++◌}
use Rattle.std.specs.List.{filter_map}
use Rattle.std.specs.Result.{result_ok}
use Rattle.wire_base.specs.model.Tlv.{entries_of, reach_at}
use Rattle.wire_base.specs.model.View.{link_of}
use Rattle.isis_tlv.specs.Walked.{walked}
use Rattle.view_graph.proofs.links.append_links.Given as goal

abbrev pub invariant-loop-entry : goal.invariant-loop-entry
invariant-loop-entry l = l.links ++ filter_map link_of (filter_map result_ok (walked reach_at l.entry-iterator)) ≡ l.fn.links ++ filter_map link_of (entries_of reach_at l.value)
