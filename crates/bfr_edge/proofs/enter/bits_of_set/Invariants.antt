use Rattle.std.proofs.Common.{◌≡◌, ℕ, take}
use Rattle.std.specs.List.{list_any}
use Rattle.wire_base.specs.model.BitSet.{has_member}
use Rattle.bier_bits.specs.Any.{bsl_of, positions_of}
use Rattle.bfr_edge.proofs.GroupLaws.{named}
use Rattle.bfr_edge.proofs.enter.bits_of_set.Given as goal

abbrev pub invariant-loop-id : goal.invariant-loop-id
invariant-loop-id l = record { bsl : bsl_of l.bits ≡ l.triple.bsl; members : (p : ℕ) → has_member p (positions_of l.bits) ≡ list_any (named l.triple p) (take l.id-index l.ids) }
