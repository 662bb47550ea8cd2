use Rattle.std.proofs.Common.{ℕ, Option, length, count_by, not}
use Rattle.wire_base.specs.model.Graph.{edges_of}
use Rattle.wire_base.specs.model.Walk.{may_enter}
use Rattle.path_tree.specs.Search.{IsReach}
use Rattle.path_tree.proofs.SettleLemmas.{IsSettling}
use Rattle.path_tree.proofs.search.search.Given as goal

abbrev pub invariant-loop-length : goal.invariant-loop-length
invariant-loop-length l =
    (f : ℕ → Option ℕ) → IsReach (length l.nodes) (edges_of l.nodes) (may_enter l.nodes l.start) l.start f
    → IsSettling (length l.nodes) (edges_of l.nodes) (may_enter l.nodes l.start) l.start f l.settled.items l.found.items l.queue

abbrev pub decreases-loop-length : goal.decreases-loop-length
decreases-loop-length l = count_by not l.settled.items
