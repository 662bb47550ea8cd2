use Rattle.std.proofs.Common.{◌≡◌, length, All, List, ℕ, eqb, false, subst, arith}
use Rattle.std.proofs.lemmas.Bool.{eqb-true}
use Rattle.std.proofs.lemmas.List.{take_rest, take_all}
use Rattle.replay_text.proofs.Cutting.{cut_at, cut_none, none_before}
use Rattle.replay_text.proofs.pieces.cut.Goals as goal

pub returns-in-Some-clause-pieces : goal.returns-in-Some-clause-pieces
returns-in-Some-clause-pieces c =
    let at = c.in-Some.ensures.0 in
    rw take_rest (cut_at c.args.stop c.in-Some.at c.args.text.now at.high (none_before c.args.stop c.in-Some.at c.args.text.now (omega (arith, at.high)) at.before) (eqb-true _ _ c.in-Some.ensures.1))

pub returns-in-None-clause-pieces : goal.returns-in-None-clause-pieces
returns-in-None-clause-pieces c =
    let text = c.args.text.now in
    cut_none c.args.stop text (subst (λ (l : List ℕ). All (λ x. eqb x c.args.stop ≡ false) l) (take_all (length text) text (omega arith)) (none_before c.args.stop (length text) text (omega arith) c.in-None.ensures))
