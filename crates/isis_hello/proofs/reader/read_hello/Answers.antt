use Rattle.std.proofs.Common.{◌∙◌, arith}
use Rattle.isis_hello.proofs.ReadLemmas.{found_from, hello_only}
use Rattle.isis_hello.proofs.reader.read_hello.Goals as goal

pub returns-clause-found : goal.returns-clause-found
returns-clause-found c = found_from c.args.bytes.now c.read_front.result (λ i. omega (arith, c.type_inv.bytes i)) c.read_front.ensures

pub returns-clause-only : goal.returns-clause-only
returns-clause-only c = λ h is. c.read_front.ensures ∙ hello_only c.args.bytes.now h is
