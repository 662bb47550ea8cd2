use Rattle.std.proofs.Common.{◌≡◌, ◌++◌, length}
use Rattle.std.specs.List.{flat_map, AllByRecursion}
use Rattle.wire_base.specs.model.Configuration.{IsEnd}
use Rattle.wire_base.specs.model.Tlv.{tlv}
use Rattle.wire_base.specs.model.OwnLsp.{reach_tlvs}
use Rattle.lsp_origin.proofs.links.append_blocks.Given as goal

abbrev pub invariant-cuts : goal.invariant-cuts
invariant-cuts l = record {
  text : l.out ++ flat_map tlv (reach_tlvs l.rest) ≡ l.fn.out ++ flat_map tlv (reach_tlvs l.ends);
  ends : AllByRecursion IsEnd l.rest;
}

abbrev pub decreases-cuts : goal.decreases-cuts
decreases-cuts l = length l.rest
