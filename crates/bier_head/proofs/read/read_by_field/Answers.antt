use Rattle.std.proofs.Common.{arith}
use Rattle.bier_head.proofs.Laws.{coded_found, coded_code, coded_only}
use Rattle.bier_head.proofs.read.read_by_field.Goals as goal

pub returns-clause-found : goal.returns-clause-found
returns-clause-found c = coded_found c.header_by_field.result c.args.kind c.args.bytes.now (λ i. omega (arith, c.type_inv.bytes i)) c.header_by_field.ensures

pub returns-clause-code : goal.returns-clause-code
returns-clause-code c = coded_code c.header_by_field.result c.args.kind c.args.bytes.now (λ i. omega (arith, c.type_inv.bytes i)) c.header_by_field.ensures

pub returns-clause-only : goal.returns-clause-only
returns-clause-only c = coded_only c.header_by_field.result c.args.kind c.args.bytes.now c.header_by_field.ensures
