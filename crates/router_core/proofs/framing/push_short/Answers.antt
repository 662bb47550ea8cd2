use Rattle.std.proofs.Common.{◌∙◌, ℕ, List, slice_get, sym, ap, arith}
use Rattle.std.proofs.lemmas.Result.{on_ok_weaker}
use Rattle.wire_base.specs.model.Pdu.{psnp}
use Rattle.wire_base.specs.model.Tlv.{tlv}
use Rattle.router_core.specs.Sending.{octets_on, psnp_listing, rows_tlv}
use Rattle.router_core.proofs.SendLaws.{listing_short, pushed}
use Rattle.router_core.proofs.framing.push_short.Goals as goal

pub returns : goal.returns
returns c =
    let level = c.args.conf.now.level in
    let system = c.args.conf.now.system in
    on_ok_weaker c.push_parts.result (pushed c.args.conf.now c.args.link (psnp_listing system c.args.rows.now) c.args.out.now c.out.inside.sent c.push_parts.new.self _ c.out.view_is
    (c.psnp_begun-front.ensures c.as_flattened-listed.result.now (omega arith)
    ∙ ap (λ (l : List ℕ). octets_on (slice_get c.args.conf.now.ends c.args.link) (psnp level system (tlv (rows_tlv l)))) c.as_flattened-listed.ensures.value
    ∙ ap (λ (l : List ℕ). octets_on (slice_get c.args.conf.now.ends c.args.link) (psnp level system l)) (sym (listing_short c.args.rows.now c.requires.some c.requires.few)))) c.push_parts.ensures.ok
