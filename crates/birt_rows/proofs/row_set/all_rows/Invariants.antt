use Rattle.std.proofs.Common.{ℕ, ◌≡◌, ◌+◌, ◌<◌, [], length, slice_index_or}
use Rattle.wire_base.specs.model.Place.{id_at}
use Rattle.birt_rows.specs.declared.owner.Found.TheVariants.{Nobody}
use Rattle.birt_rows.specs.Owner.{owner_among}
use Rattle.birt_rows.specs.Rows.{row_of_owner}
use Rattle.birt_rows.proofs.row_set.all_rows.Given as goal

abbrev pub invariant-loop-place : goal.invariant-loop-place
invariant-loop-place l =
    (length l.stored ≡ l.place)
    × ((k : ℕ) → k < l.place → slice_index_or l.stored k [] ≡ row_of_owner l.entries l.covers l.u (owner_among (slice_index_or l.owners k Nobody) (id_at l.fn.t (k + 1))))
