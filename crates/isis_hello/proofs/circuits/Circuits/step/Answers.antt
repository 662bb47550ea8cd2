use Rattle.isis_hello.proofs.HeldLaws.{held_from}
use Rattle.isis_hello.proofs.circuits.Circuits.step.Goals as goal

pub returns-clause-held : goal.returns-clause-held
returns-clause-held c = held_from c.advance.result c.args.self.now _ c.args.event.now c.advance.ensures.state
