use Rattle.std.proofs.Common.{◌≡◌, None, slice_index_or, take}
use Rattle.wire_base.specs.model.Tight.{tight_list}
use Rattle.path_tree.proofs.steps.tight_steps.Given as goal

abbrev pub invariant-loop-edge : goal.invariant-loop-edge
invariant-loop-edge l = l.steps ≡ tight_list l.nodes l.d (λ x. slice_index_or l.dist x None) l.u (take l.edge-index l.edge-items)
