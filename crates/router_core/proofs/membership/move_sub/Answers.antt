use Rattle.std.proofs.Common.{◌∙◌, List, length, set, slice_index_or, eq-eqb, sym, ap, arith}
use Rattle.wire_base.specs.declared.conf.OwnSub.{OwnSub}
use Rattle.wire_base.specs.model.Membership.{subs_moved}
use Rattle.router_core.proofs.MembershipLaws.{sub_moved}
use Rattle.router_core.proofs.membership.move_sub.Goals as goal

pub returns-then-sub-sd : goal.returns-then-sub-sd
returns-then-sub-sd c =
    let x = c.index-as_slice-place.result in
    c.put.ensures
    ∙ ap (λ (s : OwnSub). set c.loop-place.subs c.loop-place.place s) c.in_ok-copied.ensures
    ∙ sym (sub_moved c.args.sd c.args.bsl c.args.label c.loop-place.subs c.loop-place.place x x (omega (arith, c.loop-place-test.true, c.len-place-end.ensures, ap length c.loop-place.invariant.0))
    (sym (c.index-as_slice-place.is ∙ ap (λ (l : List OwnSub). slice_index_or l c.loop-place.place x) c.as_slice.ensures)) (eq-eqb _ _ c.if-sub-sd.true))
    ∙ c.loop-place.invariant.1
    ∙ ap (subs_moved c.args.sd c.args.bsl c.args.label) c.loop-place.invariant.0
