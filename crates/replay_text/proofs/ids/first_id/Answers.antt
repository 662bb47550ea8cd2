use Rattle.std.proofs.Common.{inl, inr, arith}
use Rattle.replay_text.proofs.FirstIds.{id_fails, id_out, id_in}
use Rattle.replay_text.proofs.ids.first_id.Goals.{then-number-eq0-via-then-number-eq0, then-number-eq0-via-else-number-eq0+then-number-from}
use Rattle.replay_text.proofs.ids.first_id.Goals as goal

pub returns-in_err-number-clause-value : goal.returns-in_err-number-clause-value
returns-in_err-number-clause-value c = rw c.from_residual.ensures (id_fails c.args.bound c.args.text.now c.in_err-number.ensures.value)

pub returns-then-number-eq0-clause-value : goal.returns-then-number-eq0-clause-value
returns-then-number-eq0-clause-value c =
    elim c.then-number-eq0.branch [
      | then-number-eq0-via-then-number-eq0 w ↦ id_out c.args.bound c.in_ok-number.number c.args.text.now _ c.in_ok-number.ensures.value (inl w.if-number-eq0.true)
      | then-number-eq0-via-else-number-eq0+then-number-from w ↦ id_out c.args.bound c.in_ok-number.number c.args.text.now _ c.in_ok-number.ensures.value (inr (omega (arith, w.from.ensures, w.if-number-from.true)))
    ]

pub returns-clause-value : goal.returns-clause-value
returns-clause-value c =
    id_in c.args.bound c.in_ok-number.number c.args.text.now _ c.in_ok-number.ensures.value (omega (arith, c.if-number-eq0.false)) (omega (arith, c.from.ensures, c.if-number-from.false))
