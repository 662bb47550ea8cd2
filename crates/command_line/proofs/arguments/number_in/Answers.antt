use Rattle.std.proofs.Common.{sym, ap, ◌∙◌, List, ℕ}
use Rattle.std.specs.Fmt.{decimal}
use Rattle.std.specs.Str.{bytes_eq}
use Rattle.command_line.proofs.Asked.{found, not_found}
use Rattle.command_line.proofs.arguments.number_in.Goals as goal

pub returns-then-eq-clause-value : goal.returns-then-eq-clause-value
returns-then-eq-clause-value c =
    sym (found (λ m. bytes_eq (decimal m) c.args.word.now) c.loop-n.n c.args.end c.loop-n-test.true (ap (λ (text : List ℕ). bytes_eq text c.args.word.now) (sym (c.as_bytes.ensures.value ∙ c.format.ensures.text)) ∙ sym c.eq.ensures ∙ c.if-eq.true))
    ∙ c.loop-n.invariant

pub loop-n-preserved : goal.loop-n-preserved
loop-n-preserved c =
    sym (not_found (λ m. bytes_eq (decimal m) c.args.word.now) c.loop-n.n c.args.end c.loop-n-test.true (ap (λ (text : List ℕ). bytes_eq text c.args.word.now) (sym (c.as_bytes.ensures.value ∙ c.format.ensures.text)) ∙ sym c.eq.ensures ∙ c.if-eq.false))
    ∙ c.loop-n.invariant
