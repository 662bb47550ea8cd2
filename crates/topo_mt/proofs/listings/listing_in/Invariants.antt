use Rattle.std.proofs.Common.{◌≡◌}
use Rattle.std.specs.List.{filter_map}
use Rattle.std.specs.Result.{result_ok}
use Rattle.wire_base.specs.model.Tlv.{one_tlv_at, tlvs_before}
use Rattle.isis_tlv.specs.Walked.{walked}
use Rattle.topo_mt.specs.MultiTopology.{first_listing}
use Rattle.topo_mt.proofs.listings.listing_in.Given as goal

abbrev pub invariant-loop-part : goal.invariant-loop-part
invariant-loop-part l = first_listing l.mt (filter_map result_ok (walked one_tlv_at l.part-iterator)) ≡ first_listing l.mt (tlvs_before l.content)
