use Rattle.std.proofs.Common.{◌++◌, ap, ◌∙◌, List, ℕ, drop, arith}
use Rattle.link_frame.proofs.Frames.{head_again, head_source}
use Rattle.link_frame.proofs.frame.write_eth.Goals as goal

pub returns-clause-source : goal.returns-clause-source
returns-clause-source c =
    let written = c.copy_from_slice.ensures.after ∙ c.as_slice.ensures ∙ c.head.ensures.items in
    head_source c.args.to.0 c.args.from.0 c.args.out.now _ c.args.number c.head.ensures.six_to c.head.ensures.six_from (ap (λ (l : List ℕ). l ++ drop 14 c.args.out.now) written)

pub returns-clause-again : goal.returns-clause-again
returns-clause-again c =
    let written = c.copy_from_slice.ensures.after ∙ c.as_slice.ensures ∙ c.head.ensures.items in
    head_again c.args.to.0 c.args.from.0 c.args.out.now _ c.args.number c.head.ensures.six_to c.head.ensures.six_from (omega (arith, c.ranges.number.fits)) (ap (λ (l : List ℕ). l ++ drop 14 c.args.out.now) written)
