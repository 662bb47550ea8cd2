use Rattle.std.proofs.Common.{arith}
use Rattle.bier_head.proofs.Laws.{read_found, read_length, read_only}
use Rattle.bier_head.proofs.read.read_header.Goals as goal

pub returns-clause-found : goal.returns-clause-found
returns-clause-found c = read_found c.header_with.result c.args.kind c.args.bsl c.args.bytes.now (λ i. omega (arith, c.type_inv.bytes i)) c.header_with.ensures

pub returns-clause-length : goal.returns-clause-length
returns-clause-length c = read_length c.header_with.result c.args.kind c.args.bsl c.args.bytes.now (λ i. omega (arith, c.type_inv.bytes i)) c.header_with.ensures

pub returns-clause-only : goal.returns-clause-only
returns-clause-only c = read_only c.header_with.result c.args.kind c.args.bsl c.args.bytes.now c.header_with.ensures
