use Rattle.std.proofs.Common.{refl}
use Rattle.wire_base.specs.model.Tlv.{tlvs_of, tlvs_within}
use Rattle.wire_base.specs.model.Checksum.{check_sum}
use Rattle.wire_base.specs.model.Pdu.{pdu_at, body_at, lsp_at, sized_at, tlvs_pass}
use Rattle.laws_format.proofs.examples.example_lsp.Goals as goal

pub returns-clause-tlvs : goal.returns-clause-tlvs
returns-clause-tlvs c = refl

pub returns-clause-walked : goal.returns-clause-walked
unfolding tlvs_of tlvs_within
returns-clause-walked c = refl

pub returns-clause-sum : goal.returns-clause-sum
unfolding check_sum
returns-clause-sum c = refl

pub returns-clause-spelled : goal.returns-clause-spelled
returns-clause-spelled c = refl

pub returns-clause-read : goal.returns-clause-read
unfolding pdu_at body_at lsp_at sized_at tlvs_pass tlvs_of tlvs_within
returns-clause-read c = refl
