use Rattle.std.proofs.Common.{◌≡◌, ◌∙◌, ℕ, Option, Some, None, ap, subst}
use Rattle.std.proofs.lemmas.Option.{same_Some}
use Rattle.wire_base.specs.model.Configuration.{DomainConf, IsValid}
use Rattle.domain_core.specs.declared.peers.Peer.{Peer}
use Rattle.domain_model.specs.World.{link_between}
use Rattle.domain_core.specs.Peers.{peer_of}
use Rattle.domain_core.proofs.PeerLaws.{peer_back}
use Rattle.domain_core.proofs.peers.LinkedDomain.back.Goals as goal

-- the stored interface, over a link of a valid domain
there : (old d : DomainConf) → IsValid old → old ≡ d → (a link b : ℕ) → link_between d.routers a b ≡ Some link → peer_of d.routers a link ≡ Some (record { to = b; back = link_between d.routers b a })
there old d valid is a link b joined = peer_back d.routers (subst IsValid is valid).consistent.systems a link b joined

pub returns-in-Some : goal.returns-in-Some
returns-in-Some c =
    ap (λ (p : Peer). p.back) (same_Some c.in-Some.peer (record { to = c.args.to; back = link_between c.args.self.now.routers c.args.to c.args.from })
    (c.in-Some.ensures ∙ there c.self.inside.domain c.args.self.now c.confs_of-confs.ensures.valid c.self.view_is c.args.from c.args.link c.args.to c.requires))

pub returns-in-None : goal.returns-in-None
returns-in-None c =
    let z : None ≡ Some (the_peer c.args.to (link_between c.args.self.now.routers c.args.to c.args.from)) =
    c.in-None.ensures ∙ there c.self.inside.domain c.args.self.now c.confs_of-confs.ensures.valid c.self.view_is c.args.from c.args.link c.args.to c.requires in
    absurd cc
  where
    the_peer : ℕ → Option ℕ → Peer
    the_peer to back = record { to = to; back = back }
