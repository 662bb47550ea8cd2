use Rattle.std.proofs.Common.{◌≡◌, map, filter}
use Rattle.wire_base.specs.model.BitSet.{has_member, up_to}
use Rattle.wire_base.specs.model.Place.{id_at}
use Rattle.bier_bits.specs.Any.{positions_of}
use Rattle.domain_model.specs.Moves.{listed}
use Rattle.frames_in_flight.proofs.told.ids_listed.Given as goal

abbrev pub invariant-loop-position : goal.invariant-loop-position
invariant-loop-position l =
    l.ids ≡ listed (map (id_at l.fn.triple) (filter (λ p. has_member p (positions_of l.bits)) (up_to l.position)))
