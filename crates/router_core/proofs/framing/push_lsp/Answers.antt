use Rattle.std.proofs.Common.{◌∙◌, ℕ, List, slice_get, ap, arith}
use Rattle.std.proofs.lemmas.Result.{on_ok_weaker}
use Rattle.wire_base.specs.model.Pdu.{Head, lsp}
use Rattle.wire_base.specs.model.Flooding.{lsp_of}
use Rattle.router_core.specs.Sending.{octets_on}
use Rattle.router_core.proofs.SendLaws.{pushed}
use Rattle.router_core.proofs.framing.push_lsp.Goals as goal

pub returns : goal.returns
returns c =
    let head : Head = record { life = c.args.e.now.life; id = c.args.e.now.id; seq = c.args.e.now.seq; sum = c.args.e.now.sum; flags = c.args.e.now.flags } in
    on_ok_weaker c.push_parts.result (pushed c.args.conf.now c.args.link (lsp_of c.args.e.now) c.args.out.now c.out.inside.sent c.push_parts.new.self _ c.out.view_is
    (c.lsp_begun-front.ensures c.as_slice-tlvs.result.now (omega arith)
    ∙ ap (λ (l : List ℕ). octets_on (slice_get c.args.conf.now.ends c.args.link) (lsp c.args.conf.now.level head l)) c.as_slice-tlvs.ensures)) c.push_parts.ensures.ok
