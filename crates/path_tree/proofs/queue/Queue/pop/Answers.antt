use Rattle.std.proofs.Common.{◌∷◌, heap_items}
use Rattle.std.proofs.lemmas.List.Sorted.{IsPermutation-map}
use Rattle.path_tree.specs.Queue.{entry_of}
use Rattle.path_tree.proofs.QueueLemmas.{least-first}
use Rattle.path_tree.proofs.queue.Queue.pop.Goals as goal

pub returns-clause-some : goal.returns-clause-some
returns-clause-some c =
    rw (← c.self.view_is) (IsPermutation-map entry_of (heap_items c.self.inside.heap) (c.in_ok-entry.entry ∷ heap_items c.pop.new.self) c.in_ok-entry.ensures.permutation)

pub returns-clause-least : goal.returns-clause-least
returns-clause-least c = least-first c.in_ok-entry.entry (heap_items c.pop.new.self) (c.in_ok-entry.ensures.below_top c.self.invariant)
