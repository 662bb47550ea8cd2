use Rattle.std.proofs.Common.{◌≡◌, map, take}
use Rattle.isis_hello.specs.Circuits.{fresh}
use Rattle.live_stream.proofs.adjacencies.Adjacencies.new.Given as goal

abbrev pub invariant-loop-end : goal.invariant-loop-end
invariant-loop-end l = l.circuits.items ≡ map (λ e. fresh) (take l._end-index l.ends)
