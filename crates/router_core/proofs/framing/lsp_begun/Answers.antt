use Rattle.std.proofs.Common.{◌∙◌, ◌++◌, ℕ, List, append_assoc, ap, arith}
use Rattle.wire_base.specs.model.Pdu.{lsp}
use Rattle.isis_pdu.specs.Views.{head_of}
use Rattle.router_core.proofs.framing.lsp_begun.Goals as goal

pub returns : goal.returns
returns c tlvs long =
    ap (λ (l : List ℕ). (l ++ c.copy_from_slice-2.new.self) ++ tlvs) c.copy_from_slice.ensures.after
    ∙ ap (λ (l : List ℕ). (c.head_on.result ++ l) ++ tlvs) c.copy_from_slice-2.ensures.after
    ∙ append_assoc c.head_on.result c.lsp_front.result tlvs
    ∙ ap (λ (l : List ℕ). c.head_on.result ++ l) (c.lsp_front.ensures.whole tlvs (omega arith))
    ∙ c.head_on.ensures (lsp c.args.conf.now.level (head_of c.args.head.now) tlvs) (omega (arith, c.lsp_front.ensures.long tlvs))
