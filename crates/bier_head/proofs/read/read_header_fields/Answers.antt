use Rattle.std.proofs.Common.{◌≡◌, ℕ, arith, sym, subst}
use Rattle.wire_base.specs.model.BierHeader.{FieldsFit, version_of}
use Rattle.wire_base.proofs.HeaderLaws.{fields_are}
use Rattle.bier_head.proofs.read.read_header_fields.Goals as goal

pub returns-clause-fits : goal.returns-clause-fits
returns-clause-fits c =
    let version = subst (λ (w : ℕ). version_of w ≡ 0) c.word_at-second.ensures.value c.if-second-ne0.false in
    let are = fields_are c.args.bsl c.args.bytes.now (λ i. omega (arith, c.type_inv.bytes i)) (omega (arith, c.if-bytes-octets_with.false, c.octets_with.ensures)) version in
    subst FieldsFit (sym c.fields.ensures.exact) are.0.fields
