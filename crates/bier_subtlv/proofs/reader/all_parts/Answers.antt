use Rattle.std.proofs.Common.{sym, ◌∙◌}
use Rattle.std.proofs.lemmas.Result.{err_from_is_err_and}
use Rattle.laws_format.proofs.InfoLaws.{parts_next, parts_refuses, parts_end, parts_short}
use Rattle.isis_tlv.specs.Views.{item}
use Rattle.bier_subtlv.specs.Views.{parts_view}
use Rattle.bier_subtlv.proofs.reader.all_parts.Goals as goal

pub returns-in-Err : goal.returns-in-Err
returns-in-Err c = sym c.parts.invariant.same ∙ parts_short (parts_view c.parts.parts) c.parts.walk c.in-Err.field-0 c.in-Err.ensures.exact.0

pub returns-in-Ok-None : goal.returns-in-Ok-None
returns-in-Ok-None c =
    let e = rw c.in-Ok-None.field-0-is at c.in-Ok-None.ensures.exact in
    sym c.parts.invariant.same ∙ parts_end (parts_view c.parts.parts) c.parts.walk e.0

pub parts-preserved : goal.parts-preserved
parts-preserved c =
    let e = rw c.in-Ok-Some.field-0-is at c.in-Ok-Some.ensures.exact in
    record { same = sym (parts_next (parts_view c.parts.parts) (parts_view c.part.new.parts) c.parts.walk (item c.in-Ok-Some.tlv) c.next.new.self e c.in_ok-part-in-Ok-Some.ensures.next) ∙ c.parts.invariant.same; room = c.part.ensures.room }

pub returns-in_err-part-in-Ok-Some : goal.returns-in_err-part-in-Ok-Some
returns-in_err-part-in-Ok-Some c =
    let e = rw c.in-Ok-Some.field-0-is at c.in-Ok-Some.ensures.exact in
    let p = err_from_is_err_and c.from_residual.result c.from_residual.ensures.1 in
    rw (p.1, p.2) (sym c.parts.invariant.same ∙ parts_refuses (parts_view c.parts.parts) c.parts.walk (item c.in-Ok-Some.tlv) c.next.new.self c.in_err-part-in-Ok-Some.field-0.0 e c.in_err-part-in-Ok-Some.ensures.next)
