use Rattle.std.proofs.Common.{◌≡◌, ◌+◌, ◌++◌, ◌∷◌, [], List, ℕ, ap, sym, ◌∙◌, arith}
use Rattle.std.proofs.lemmas.List.FromFn.{map-range_with_len_more}
use Rattle.domain_core.specs.declared.peers.Peer.{Peer}
use Rattle.domain_core.specs.Peers.{peer_over}
use Rattle.domain_core.proofs.peers.peers_at.Goals as goal

pub loop-link-preserved : goal.loop-link-preserved
loop-link-preserved c =
    let k : 0 + c.loop-link.link ≡ c.loop-link.link = omega arith in
    let over : ℕ → Peer = peer_over c.args.confs.now c.args.at in
    c.in_ok-push.ensures.ok
    ∙ ap (λ (p : Peer). c.loop-link.peers ++ p ∷ []) c.peer_over.ensures
    ∙ ap (λ (l : List Peer). l ++ over c.loop-link.link ∷ []) c.loop-link.invariant
    ∙ sym (map-range_with_len_more over 0 c.loop-link.link c.loop-link.link k)
