use Rattle.std.proofs.Common.{ℕ, ◌≡◌, ◌<◌, ◌≤◌, ◌-◌, filter, length, slice_index_or}
use Rattle.std.specs.List.{range_with_len}
use Rattle.wire_base.specs.model.Graph.{has_id_at}
use Rattle.wire_base.specs.model.Place.{bits_of, id_at}
use Rattle.birt_rows.specs.declared.owner.Found.TheVariants.{Nobody}
use Rattle.birt_rows.specs.Owner.{found_in}
use Rattle.birt_rows.proofs.owner.owners.Given as goal

abbrev pub invariant-loop-node : goal.invariant-loop-node
invariant-loop-node l =
    (length l.found.items ≡ bits_of l.t.bsl)
    × ((p : ℕ) → 0 < p → p ≤ bits_of l.t.bsl → slice_index_or l.found.items (p - 1) Nobody ≡ found_in (filter (has_id_at l.nodes l.t.sd (id_at l.t p)) (range_with_len 0 l.node)))
