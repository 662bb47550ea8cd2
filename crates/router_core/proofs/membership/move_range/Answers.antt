use Rattle.std.proofs.Common.{◌∙◌, List, length, slice_index_or, eq-eqb, sym, ap, arith}
use Rattle.wire_base.specs.declared.bsl.Bsl.TheVariants.{B64}
use Rattle.wire_base.specs.declared.conf.LabelRange.{LabelRange}
use Rattle.wire_base.specs.model.Membership.{ranges_moved}
use Rattle.router_core.proofs.MembershipLaws.{range_moved}
use Rattle.router_core.proofs.membership.move_range.Goals as goal

pub returns-then-code : goal.returns-then-code
returns-then-code c =
    let d : LabelRange = record { bsl = B64; max_si = 0; label = 0 } in
    c.put.ensures
    ∙ sym (range_moved c.args.bsl c.args.label c.loop-place.ranges c.loop-place.place d (slice_index_or c.as_slice.result.now c.loop-place.place d) (omega (arith, c.loop-place-test.true, c.len-place-end.ensures, ap length c.loop-place.invariant.0))
    (ap (λ (l : List LabelRange). slice_index_or l c.loop-place.place d) (sym c.as_slice.ensures)) (eq-eqb _ _ (sym c.code.ensures ∙ c.if-code.true ∙ c.code-in-loop-place.ensures)))
    ∙ c.loop-place.invariant.1
    ∙ ap (ranges_moved c.args.bsl c.args.label) c.loop-place.invariant.0
