use Rattle.std.proofs.Common.{ℕ, ◌≡◌, ◌<◌, None, false, length, slice_index_or, is_some}
use Rattle.bier_tunnel.proofs.first_steps.known.Given as goal

abbrev pub invariant-loop-place : goal.invariant-loop-place
invariant-loop-place l =
    (length l.known.items ≡ l.place) × ((x : ℕ) → x < l.place → slice_index_or l.known.items x false ≡ is_some (slice_index_or l.steps x None))
