use Rattle.std.proofs.Common.{arith}
use Rattle.wire_base.specs.model.Tlv.{row_at}
use Rattle.laws_format.proofs.FieldLaws.{given_ok}
use Rattle.laws_format.proofs.TlvLaws.{row_there, row_whole}
use Rattle.isis_tlv.proofs.summaries.summary_whole.Goals as goal

pub unwrap-requires : goal.unwrap-requires
unwrap-requires c =
    let there = row_there c.args.bytes.now (λ i. omega (arith, c.type_inv.bytes i)) c.requires in
    given_ok _ c.summary_front.result (row_at c.args.bytes.now) (there.0, _) c.summary_front.ensures there.1.read

pub returns-clause-found : goal.returns-clause-found
returns-clause-found c =
    let given = rw c.unwrap.ensures at c.summary_front.ensures in
    let whole = row_whole c.args.bytes.now c.unwrap.result.0 c.unwrap.result.1.now (λ i. omega (arith, c.type_inv.bytes i)) c.requires given in
    (whole.fits, whole.spelled)

pub returns-clause-exact : goal.returns-clause-exact
returns-clause-exact c =
    let given = rw c.unwrap.ensures at c.summary_front.ensures in
    (row_whole c.args.bytes.now c.unwrap.result.0 c.unwrap.result.1.now (λ i. omega (arith, c.type_inv.bytes i)) c.requires given).read
