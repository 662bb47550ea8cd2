use Rattle.std.proofs.Common.{◌∙◌, ◌++◌, ◌∷◌, [], ℕ, List, ap}
use Rattle.std.proofs.lemmas.Result.{on_ok_weaker}
use Rattle.wire_base.specs.model.OnFrame.{frames_of}
use Rattle.wire_base.specs.model.Pdu.{PsnpPdu}
use Rattle.router_core.specs.Sending.{psnp_listing}
use Rattle.router_core.proofs.SendLaws.{listing_is}
use Rattle.router_core.proofs.framing.push_ack.Goals as goal

pub returns : goal.returns
returns c =
    on_ok_weaker c.push_psnp.result
    (λ is. is
    ∙ ap (λ (o : List ℕ). c.args.out.now ++ frames_of c.args.conf.now c.args.link (psnp_listing c.args.conf.now.system (o ∷ []) ∷ [])) c.row_octets.ensures
    ∙ ap (λ (tlvs : List ℕ). c.args.out.now ++ frames_of c.args.conf.now c.args.link (PsnpPdu c.args.conf.now.system tlvs ∷ [])) (listing_is (c.args.s.now ∷ [])))
    c.push_psnp.ensures
