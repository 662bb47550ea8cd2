use Rattle.std.proofs.Common.{[], ◌-◌, length, get_or, arith, sym, subst}
use Rattle.bier_forward.specs.declared.routes.Period.{Period}
use Rattle.bier_forward.specs.Kept.{FitsSize}
use Rattle.bier_forward.proofs.PeriodLaws.{same-table, same-table-stored, fits-next, fits-short}
use Rattle.bier_forward.proofs.routes.period_of.Goals as goal
use Rattle.bier_forward.proofs.routes.period_of.Goals.{then-size-gt1, else-size-gt1}

pub loop-place-preserved : goal.loop-place-preserved
loop-place-preserved c i low =
    let stored = c.stored-stored.result.now in
    let list = c.at-size.result.now in
    elim c.if-size-gt1.branch [
      | then-size-gt1 w ↦
          subst (λ (p : Period). FitsSize p (length (get_or stored i []))) (sym w.period-is)
          (fits-next c.loop-place.period w.of_size.result w.larger-period.result stored c.loop-place.place list (omega (arith, c.loop-place-test.true, c.len-place-end.ensures)) c.at-size.ensures w.larger-period.ensures.one w.larger-period.ensures.other w.of_size.ensures c.loop-place.invariant i low)
      | else-size-gt1 w ↦
          subst (λ (p : Period). FitsSize p (length (get_or stored i []))) (sym w.period-is)
          (fits-short c.loop-place.period stored c.loop-place.place list (omega (arith, c.loop-place-test.true, c.len-place-end.ensures)) c.at-size.ensures (omega (arith, w.if-size-gt1.false)) c.loop-place.invariant i low)
    ]

pub returns : goal.returns
returns c =
    let stored = c.stored-stored.result.now in
    same-table-stored c.loop-place.period c.args.lists.now stored (length c.args.lists.now - length stored) c.stored-stored.ensures
    (same-table c.loop-place.period stored (λ i low. c.loop-place.invariant i (omega (arith, low, c.loop-place-test.false, c.len-place-end.ensures))))
