use Rattle.std.proofs.Common.{◌≡◌, ◌++◌, map, take, drop}
use Rattle.isis_hello.specs.Events.{turned_circuit}
use Rattle.isis_hello.proofs.ends.turn_all.Given as goal

abbrev pub invariant-loop-circuit : goal.invariant-loop-circuit
invariant-loop-circuit l = l.circuits ≡ map (turned_circuit l.turn) (take l.circuit-index l.initial.circuits) ++ drop l.circuit-index l.initial.circuits
