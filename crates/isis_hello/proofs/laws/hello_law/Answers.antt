use Rattle.isis_hello.proofs.ReadLemmas.{hello_only}
use Rattle.isis_hello.proofs.laws.hello_law.Goals as goal

pub returns-clause-only : goal.returns-clause-only
returns-clause-only c = hello_only
