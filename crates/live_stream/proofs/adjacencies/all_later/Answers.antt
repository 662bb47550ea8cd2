use Rattle.isis_hello.proofs.MadeLemmas.{changed_more}
use Rattle.live_stream.specs.HelloRun.{later}
use Rattle.live_stream.proofs.adjacencies.all_later.Goals as goal

pub loop-circuit-preserved : goal.loop-circuit-preserved
loop-circuit-preserved c = changed_more later c.args.circuits.now c.loop-circuit.circuits c.loop-circuit.circuit-index _ c.later.result c.loop-circuit-test.true c.loop-circuit.auto.circuits c.loop-circuit.invariant c.later.ensures
