use Rattle.std.proofs.Common.{false, slice_index_or}
use Rattle.path_tree.proofs.SearchLemmas.{IsSearch, budget}
use Rattle.path_tree.proofs.forward.reach.Given as goal

abbrev pub invariant-loop-node : goal.invariant-loop-node
invariant-loop-node l =
    IsSearch l.nodes (λ x. slice_index_or l.stops x false) l.u l.start (λ _. ⊥) (record { seen = l.seen.items; work = l.work.items })

abbrev pub decreases-loop-node : goal.decreases-loop-node
decreases-loop-node l = budget l.seen.items l.work.items
