use Rattle.isis_hello.specs.Events.{turned_circuit}
use Rattle.isis_hello.proofs.MadeLemmas.{changed_more}
use Rattle.isis_hello.proofs.ends.turn_all.Goals as goal

pub loop-circuit-preserved : goal.loop-circuit-preserved
loop-circuit-preserved c = changed_more (turned_circuit c.args.turn) c.args.circuits.now c.loop-circuit.circuits c.loop-circuit.circuit-index _ c.turned.result c.loop-circuit-test.true c.loop-circuit.auto.circuits c.loop-circuit.invariant c.turned.ensures
