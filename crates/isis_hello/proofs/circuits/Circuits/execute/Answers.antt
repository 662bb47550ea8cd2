use Rattle.isis_hello.proofs.StepLemmas.{sent_of}
use Rattle.isis_hello.proofs.circuits.Circuits.execute.Goals as goal

pub returns-in-Hello-clause-sent : goal.returns-in-Hello-clause-sent
returns-in-Hello-clause-sent c = λ allowed. sent_of _ _ _ _ _ c.send.result c.in-Hello.is allowed c.send.ensures.done c.send.ensures.sent
