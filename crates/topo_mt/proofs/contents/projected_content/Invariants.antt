use Rattle.std.proofs.Common.{◌≡◌, ◌++◌, length}
use Rattle.std.specs.List.{flat_map}
use Rattle.wire_base.specs.model.Tlv.{tlv, tlvs_before}
use Rattle.topo_mt.specs.MultiTopology.{projected_content, projected_tlv}
use Rattle.topo_mt.proofs.contents.projected_content.Given as goal

abbrev pub invariant-tlvs : goal.invariant-tlvs
invariant-tlvs l = l.out ++ flat_map tlv (flat_map (projected_tlv l.mt) (tlvs_before l.walk)) ≡ projected_content l.mt l.content

abbrev pub decreases-tlvs : goal.decreases-tlvs
decreases-tlvs l = length l.walk
