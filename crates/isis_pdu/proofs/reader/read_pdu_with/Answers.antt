use Rattle.std.proofs.Common.{Ok, arith}
use Rattle.laws_format.proofs.FieldLaws.{gives_along}
use Rattle.laws_format.proofs.PduLaws.{pdu_only}
use Rattle.isis_pdu.proofs.ReadLemmas.{read_found}
use Rattle.isis_pdu.proofs.reader.read_pdu_with.Goals as goal

pub returns-clause-found : goal.returns-clause-found
returns-clause-found c = read_found c.args.level c.args.bytes.now c.read_front.result (λ i. omega (arith, c.type_inv.bytes i)) c.read_front.ensures

pub returns-clause-only : goal.returns-clause-only
returns-clause-only c = λ p is. gives_along _ c.read_front.result _ (Ok p) (pdu_only c.args.level c.args.bytes.now p is) c.read_front.ensures
