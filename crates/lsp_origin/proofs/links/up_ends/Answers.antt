use Rattle.std.proofs.Common.{◌∙◌, arith}
use Rattle.std.proofs.lemmas.List.{get_or_default}
use Rattle.laws_format.proofs.ContentLaws.{up_step, down_step}
use Rattle.lsp_origin.proofs.links.up_ends.Goals.{then-up-i+in_ok-push, else-up-i}
use Rattle.lsp_origin.proofs.links.up_ends.Goals as goal

pub ends-preserved : goal.ends-preserved
ends-preserved c = elim c.if-up-i.branch [
  | then-up-i+in_ok-push w ↦ up_step c.ends.rows c.if-up-i.rows _ c.args.up.now c.args.ends.now c.ends.i _ _ c.ends.invariant (omega arith) (omega (arith, c.ends-test.true, c.requires)) c.ends-test.true w.if-up-i.true (w.rows-is ∙ w.in_ok-push.ensures.ok) (get_or_default _ _ _ _ c.ends-test.true)
  | else-up-i w ↦ down_step c.ends.rows c.if-up-i.rows _ c.args.up.now c.args.ends.now c.ends.i _ c.ends.invariant (omega arith) (omega (arith, c.ends-test.true, c.requires)) c.ends-test.true w.if-up-i.false w.rows-is
]
