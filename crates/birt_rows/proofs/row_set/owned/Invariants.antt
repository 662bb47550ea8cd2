use Rattle.std.proofs.Common.{ℕ, ◌≡◌, ◌<◌, ◌≤◌, slice_index_or}
use Rattle.birt_rows.specs.declared.owner.Found.TheVariants.{Nobody}
use Rattle.birt_rows.proofs.row_set.owned.Given as goal

abbrev pub invariant-loop-place : goal.invariant-loop-place
invariant-loop-place l = (l.count ≤ l.place) × ((k : ℕ) → l.count ≤ k → k < l.place → slice_index_or l.owners k Nobody ≡ Nobody)
