use Rattle.std.proofs.Common.{take}
use Rattle.path_tree.specs.Search.{Relaxed}
use Rattle.path_tree.proofs.search.relax.Given as goal

abbrev pub invariant-loop-edge : goal.invariant-loop-edge
invariant-loop-edge l = Relaxed (take l.edge-index l.edges) l.reached l.initial.found.items l.initial.queue l.found.items l.queue
