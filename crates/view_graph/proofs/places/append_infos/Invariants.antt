use Rattle.std.proofs.Common.{◌≡◌, ◌++◌}
use Rattle.std.specs.List.{filter_map}
use Rattle.std.specs.Result.{result_ok}
use Rattle.wire_base.specs.model.Tlv.{one_tlv_at, tlvs_before}
use Rattle.wire_base.specs.model.View.{sub_at}
use Rattle.isis_tlv.specs.Walked.{walked}
use Rattle.view_graph.proofs.places.append_infos.Given as goal

abbrev pub invariant-loop-part : goal.invariant-loop-part
invariant-loop-part l = l.subs ++ filter_map (sub_at l.prefix) (filter_map result_ok (walked one_tlv_at l.part-iterator)) ≡ l.fn.subs ++ filter_map (sub_at l.prefix) (tlvs_before l.octets)
