use Rattle.std.proofs.Common.{ℕ, ◌≡◌, ◌<◌, None, length, slice_index_or}
use Rattle.bier_tunnel.proofs.first_steps.no_steps.Given as goal

abbrev pub invariant-loop-node : goal.invariant-loop-node
invariant-loop-node l = (length l.steps.items ≡ l._node) × ((x : ℕ) → x < l._node → slice_index_or l.steps.items x None ≡ None)
