use Rattle.std.proofs.Common.{rules, ◌≡◌, ◌∙◌, ℕ, List, [], ◌∷◌, ◌++◌, append_assoc, length, sym, ap}
use Rattle.std.proofs.lemmas.List.{length-append}
use Rattle.std.proofs.lemmas.Result.{on_ok_weaker}
use Rattle.wire_base.specs.model.Item.{ip_frame}
use Rattle.wire_base.specs.model.OnFrame.{Packet}
use Rattle.wire_base.specs.model.Tunnel.{tunnel}
use Rattle.gre_ip.specs.Tunnels.{packet_with}
use Rattle.bier_forward.specs.Hops.{copy_head}
use Rattle.bier_forward.specs.SentFrames.{sent_as}
use Rattle.bier_forward.proofs.JoinLaws.{sends}
use Rattle.bier_forward.proofs.copy.send_in_tunnel.Goals as goal

pub returns : goal.returns
returns g c =
    let payload : List ℕ = c.args.packet.now.payload in
    let head : List ℕ = copy_head c.args.packet.now c.args.way.bift c.args.set.now c.args.ttl in
    let long : length head ≡ length c.write_head.new.out = sym (ap (λ (octets : List ℕ). length octets) c.write_head.ensures) in
    let whole : c.outer_head.result ++ head ++ payload ≡ ip_frame c.args.way.end.peer_mac c.args.way.end.own_mac (tunnel (packet_with c.args.tunnel.now (head ++ payload)))
    = append_assoc c.outer_head.result head payload ∙ c.outer_head.ensures.whole (head ++ payload) (search (rules, long, length-append head payload)) in
    let parts : c.copy_from_slice.new.self ++ c.write_head.new.out ++ c.packet.inside.payload.now ≡ c.outer_head.result ++ head ++ payload
    = search (rules, ap (λ (p : Packet). p.payload) c.packet.view_is) in
    on_ok_weaker c.send_parts.result
    (λ e. e ∙ ap (λ (octets : List ℕ). record c.args.effects.now { sent = c.args.effects.now.sent ++ sent_as c.args.way.link octets ∷ [] }) (parts ∙ whole) ∙ sends _ _)
    c.send_parts.ensures.ok
