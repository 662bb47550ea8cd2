use Rattle.std.proofs.Common.{◌≡◌, ◌==◌, drop}
use Rattle.std.specs.List.{list_any}
use Rattle.bfr_edge.proofs.fault.has_zero.Given as goal

abbrev pub invariant-loop-id : goal.invariant-loop-id
invariant-loop-id l = list_any (λ k. k == 0) (drop l.id-index l.ids) ≡ list_any (λ k. k == 0) l.ids
