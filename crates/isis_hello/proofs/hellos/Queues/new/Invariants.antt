use Rattle.std.proofs.Common.{◌≡◌, [], map, take}
use Rattle.isis_hello.proofs.hellos.Queues.new.Given as goal

abbrev pub invariant-loop-end : goal.invariant-loop-end
invariant-loop-end l = l.queues.items ≡ map (λ e. []) (take l._end-index l.ends)
