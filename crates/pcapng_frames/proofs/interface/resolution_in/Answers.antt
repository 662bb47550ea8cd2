use Rattle.std.proofs.Common.{ℕ, ◌+◌, drop, sym, ap, ◌∙◌, arith, inl, inr}
use Rattle.pcapng_frames.specs.Times.{padded, resolution_of}
use Rattle.pcapng_frames.proofs.Options.{no_option, options_end, option_found, option_skipped}
use Rattle.pcapng_frames.proofs.interface.resolution_in.Goals as goal
use Rattle.pcapng_frames.proofs.interface.resolution_in.Goals.{then-code-eq0-via-then-code-eq0, then-code-eq0-via-else-code-eq0+then-rest-size, else-code-eq-RESOLUTION-via-then-code-eq-RESOLUTION+else-len-eq1, else-code-eq-RESOLUTION-via-else-code-eq-RESOLUTION}

pub returns-then-code-eq0 : goal.returns-then-code-eq0
returns-then-code-eq0 c = sym (sym c.options.invariant ∙ options_end c.args.order _ c.two_at-code.result c.two_at-len.result (omega arith) c.two_at-code.ensures c.two_at-len.ensures (elim c.then-code-eq0.branch [
  | then-code-eq0-via-then-code-eq0 w ↦ inl w.if-code-eq0.true
  | then-code-eq0-via-else-code-eq0+then-rest-size w ↦ inr (omega arith)
]))

pub returns-then-len-eq1 : goal.returns-then-len-eq1
returns-then-len-eq1 c = sym (sym c.options.invariant ∙ option_found c.args.order _ c.two_at-code.result c.two_at-len.result (omega arith) c.two_at-code.ensures c.two_at-len.ensures
    c.if-code-eq0.false (omega arith) c.if-code-eq-RESOLUTION.true c.if-len-eq1.true)

pub options-preserved : goal.options-preserved
options-preserved c =
    ap (resolution_of c.args.order) c.split_at.ensures.back
    ∙ ap (λ (n : ℕ). resolution_of c.args.order (drop (4 + padded n) c.options.rest.now)) c.from.ensures
    ∙ sym (option_skipped c.args.order _ c.two_at-code.result c.two_at-len.result (omega arith) c.two_at-code.ensures c.two_at-len.ensures c.if-code-eq0.false (omega arith) (elim c.else-code-eq-RESOLUTION.branch [
      | else-code-eq-RESOLUTION-via-then-code-eq-RESOLUTION+else-len-eq1 w ↦ inr w.if-len-eq1.false
      | else-code-eq-RESOLUTION-via-else-code-eq-RESOLUTION w ↦ inl w.if-code-eq-RESOLUTION.false
    ]))
    ∙ c.options.invariant

pub returns : goal.returns
returns c = sym (sym c.options.invariant ∙ no_option c.args.order _ (omega arith))
