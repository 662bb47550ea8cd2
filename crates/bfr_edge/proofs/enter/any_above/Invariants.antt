use Rattle.std.proofs.Common.{◌≡◌, drop, nat_lt}
use Rattle.std.specs.List.{list_any}
use Rattle.wire_base.specs.model.Place.{bits_of, set_identifier}
use Rattle.bfr_edge.proofs.enter.any_above.Given as goal

abbrev pub invariant-loop-id : goal.invariant-loop-id
invariant-loop-id l = list_any (λ k. nat_lt l.last (set_identifier (bits_of l.bsl) k)) (drop l.id-index l.ids) ≡ list_any (λ k. nat_lt l.last (set_identifier (bits_of l.bsl) k)) l.ids
