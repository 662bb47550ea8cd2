use Rattle.std.proofs.Common.{◌≡◌, map, filter, nat_lt}
use Rattle.std.specs.List.{AllByRecursion}
use Rattle.wire_base.specs.model.Ingress.{sets_of, packet_for}
use Rattle.bier_bits.specs.Any.{bsl_of}
use Rattle.bfr_edge.specs.Entry.{positions_in, placed}
use Rattle.bfr_edge.proofs.enter.packets_of.Given as goal

abbrev pub invariant-loop-si : goal.invariant-loop-si
invariant-loop-si l = record { packets : map positions_in l.packets ≡ map placed (map (packet_for l.sd l.bsl l.ids) (filter (λ s. nat_lt s l.si) (sets_of l.bsl l.ids))); lengths : AllByRecursion (λ p. bsl_of p.bits ≡ p.triple.bsl) l.packets }
