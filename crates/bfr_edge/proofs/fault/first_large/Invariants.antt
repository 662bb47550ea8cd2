use Rattle.std.proofs.Common.{◌≡◌, drop}
use Rattle.std.specs.Prelude.{find}
use Rattle.wire_base.specs.model.Ingress.{is_large}
use Rattle.bfr_edge.proofs.fault.first_large.Given as goal

abbrev pub invariant-loop-id : goal.invariant-loop-id
invariant-loop-id l = find (is_large l.bsl) (drop l.id-index l.ids) ≡ find (is_large l.bsl) l.ids
