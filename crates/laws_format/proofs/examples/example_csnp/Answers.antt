use Rattle.std.proofs.Common.{refl}
use Rattle.wire_base.specs.model.Tlv.{tlvs_of, tlvs_within, row_at, entries_of, entries_within}
use Rattle.wire_base.specs.model.Pdu.{pdu_at, body_at, csnp_at, sized_at, tlvs_pass, row_tlvs, blocks_within}
use Rattle.laws_format.proofs.examples.example_csnp.Goals as goal

pub returns-clause-spelled : goal.returns-clause-spelled
unfolding row_tlvs blocks_within
returns-clause-spelled c = refl

pub returns-clause-read : goal.returns-clause-read
unfolding pdu_at body_at csnp_at sized_at tlvs_pass tlvs_of tlvs_within row_tlvs blocks_within
returns-clause-read c = refl

pub returns-clause-rows : goal.returns-clause-rows
unfolding row_tlvs blocks_within entries_of entries_within row_at
returns-clause-rows c = refl
