use Rattle.std.proofs.Common.{◌≡◌, ◌==◌, drop}
use Rattle.std.specs.List.{list_any}
use Rattle.wire_base.specs.model.Place.{code_of}
use Rattle.bfr_edge.proofs.fault.has_range.Given as goal

abbrev pub invariant-loop-range : goal.invariant-loop-range
invariant-loop-range l = list_any (λ x. code_of x.bsl == code_of l.bsl) (drop l.range-index l.ranges) ≡ list_any (λ x. code_of x.bsl == code_of l.bsl) l.ranges
