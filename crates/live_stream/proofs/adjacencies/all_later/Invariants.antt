use Rattle.std.proofs.Common.{◌≡◌, ◌++◌, map, take, drop}
use Rattle.live_stream.specs.HelloRun.{later}
use Rattle.live_stream.proofs.adjacencies.all_later.Given as goal

abbrev pub invariant-loop-circuit : goal.invariant-loop-circuit
invariant-loop-circuit l = l.circuits ≡ map later (take l.circuit-index l.initial.circuits) ++ drop l.circuit-index l.initial.circuits
