use Rattle.std.proofs.Common.{ℕ, ◌≡◌, ◌<◌, None, false, length, slice_index_or}
use Rattle.bier_tunnel.specs.Steps.{filled}
use Rattle.bier_tunnel.proofs.first_steps.filled.Given as goal

abbrev pub invariant-loop-place : goal.invariant-loop-place
invariant-loop-place l =
    (length l.more.items ≡ l.place)
    × ((x : ℕ) → x < l.place → slice_index_or l.more.items x None ≡ filled l.first (slice_index_or l.beyond x false) (slice_index_or l.steps x None))
