use Rattle.std.proofs.Common.{◌∙◌, ℕ, List, length, slice_get, ap, arith}
use Rattle.std.proofs.lemmas.Result.{on_ok_weaker}
use Rattle.wire_base.specs.model.Pdu.{psnp}
use Rattle.router_core.specs.Sending.{octets_on, psnp_listing}
use Rattle.router_core.proofs.SendLaws.{pushed}
use Rattle.router_core.proofs.framing.push_long.Goals as goal

pub returns : goal.returns
returns c = on_ok_weaker c.push.result (pushed c.args.conf.now c.args.link (psnp_listing c.args.conf.now.system c.args.rows.now) c.args.out.now c.out.inside.sent c.push.new.self _ c.out.view_is
    (c.as_slice-2.ensures ∙ c.in_ok-append_psnp.ensures.ok ∙ c.in_ok-frame.ensures.front (psnp c.args.conf.now.level c.args.conf.now.system c.as_slice.result.now) (let tlvs = ap length c.as_slice.ensures in omega (arith, c.append_psnp.ensures.long, tlvs, c.len.ensures))
    ∙ ap (λ (tlvs : List ℕ). octets_on (slice_get c.args.conf.now.ends c.args.link) (psnp c.args.conf.now.level c.args.conf.now.system tlvs)) (c.as_slice.ensures ∙ c.in_ok-tlvs.ensures.ok))) c.push.ensures.ok
