use Rattle.std.proofs.Common.{ℕ, List, ◌++◌, ap, ◌∙◌}
use Rattle.std.proofs.lemmas.Result.{on_ok_weaker}
use Rattle.isis_pdu.specs.Views.{head_of}
use Rattle.isis_pdu.proofs.WriteLemmas.{lsp_joined}
use Rattle.isis_pdu.proofs.writer.append_lsp.Goals as goal

pub returns-clause-ok : goal.returns-clause-ok
returns-clause-ok c =
    on_ok_weaker c.append_two.result
    (λ is. is ∙ ap (λ (l : List ℕ). c.args.out.now ++ l) (lsp_joined c.args.level (head_of c.args.head.now) c.args.tlvs.now c.as_slice.result.now (c.as_slice.ensures ∙ c.lsp_front-front.ensures.spelled)))
    c.append_two.ensures.ok
