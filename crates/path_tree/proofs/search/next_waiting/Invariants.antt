use Rattle.std.proofs.Common.{length}
use Rattle.path_tree.specs.Search.{Skipped}
use Rattle.path_tree.proofs.search.next_waiting.Given as goal

abbrev pub invariant-loop-length : goal.invariant-loop-length
invariant-loop-length l = Skipped l.settled l.initial.queue l.queue

abbrev pub decreases-loop-length : goal.decreases-loop-length
decreases-loop-length l = length l.queue
