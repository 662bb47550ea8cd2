use Rattle.std.proofs.Common.{None, false, ◌≡◌, slice_index_or, take, length}
use Rattle.path_tree.specs.Forward.{is_forward, look_along}
use Rattle.path_tree.proofs.forward.look_around.Given as goal

abbrev pub invariant-loop-edge : goal.invariant-loop-edge
invariant-loop-edge l =
    (length l.seen.items ≡ length l.nodes)
    × (record { seen = l.seen.items; work = l.work.items } ≡ look_along (λ x. slice_index_or l.stops x false) (is_forward l.nodes l.u (λ x. slice_index_or l.dist x None) l.node) (record { seen = l.initial.seen.items; work = l.initial.work.items }) (take l.edge-index l.edge-items))
