use Rattle.std.proofs.Common.{sym, ◌∙◌}
use Rattle.laws_format.proofs.TlvListLaws.{pass_on, pass_off, pass_none, pass_fault}
use Rattle.isis_tlv.specs.Views.{item}
use Rattle.isis_pdu.proofs.reader.tlvs_are_whole.Goals as goal

pub returns-in-Err : goal.returns-in-Err
returns-in-Err c = sym (pass_fault c.args.rows c.tlvs.walk c.in-Err.field-0 c.in-Err.ensures.exact.0) ∙ c.tlvs.invariant

pub returns-in-Ok-None : goal.returns-in-Ok-None
returns-in-Ok-None c =
    let e = rw c.in-Ok-None.field-0-is at c.in-Ok-None.ensures.exact in
    sym (pass_none c.args.rows c.tlvs.walk e.0) ∙ c.tlvs.invariant

pub returns-then-not-tlv_passes : goal.returns-then-not-tlv_passes
returns-then-not-tlv_passes c =
    let e = rw c.in-Ok-Some.field-0-is at c.in-Ok-Some.ensures.exact in
    sym (pass_off c.args.rows c.tlvs.walk (item c.in-Ok-Some.tlv) c.next.new.self e c.if-not-tlv_passes.ensures) ∙ c.tlvs.invariant

pub tlvs-preserved : goal.tlvs-preserved
tlvs-preserved c =
    let e = rw c.in-Ok-Some.field-0-is at c.in-Ok-Some.ensures.exact in
    sym (pass_on c.args.rows c.tlvs.walk (item c.in-Ok-Some.tlv) c.next.new.self e c.if-not-tlv_passes.ensures) ∙ c.tlvs.invariant
