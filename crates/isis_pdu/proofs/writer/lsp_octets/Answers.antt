use Rattle.std.proofs.Common.{ℕ, List, ◌++◌, ap, ◌∙◌}
use Rattle.isis_pdu.specs.Views.{head_of}
use Rattle.isis_pdu.proofs.WriteLemmas.{lsp_joined}
use Rattle.isis_pdu.proofs.writer.lsp_octets.Goals as goal

pub returns-clause-spelled : goal.returns-clause-spelled
returns-clause-spelled c =
    c.in_ok-append_two.ensures.ok ∙ ap (λ (l : List ℕ). l ++ (c.as_slice.result.now ++ c.args.tlvs.now)) c.in_ok-out.ensures
    ∙ lsp_joined c.args.level (head_of c.args.head.now) c.args.tlvs.now c.as_slice.result.now (c.as_slice.ensures ∙ c.lsp_front-front.ensures.spelled)
