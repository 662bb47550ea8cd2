use Rattle.std.specs.List.{filter_map}
use Rattle.std.specs.Result.{result_ok}
use Rattle.wire_base.specs.model.Tlv.{one_tlv_at, tlvs_before}
use Rattle.isis_tlv.specs.Walked.{walked}
use Rattle.view_graph.specs.Places.{IsAdding}
use Rattle.view_graph.proofs.claims.add_content.Given as goal

abbrev pub invariant-loop-part : goal.invariant-loop-part
invariant-loop-part l = IsAdding (filter_map result_ok (walked one_tlv_at l.part-iterator)) (tlvs_before l.content) l.fn.claim l.claim
