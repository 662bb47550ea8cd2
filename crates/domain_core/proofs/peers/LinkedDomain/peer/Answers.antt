use Rattle.std.proofs.Common.{◌∙◌, ap, slice_get, List}
use Rattle.wire_base.specs.model.Configuration.{DomainConf}
use Rattle.domain_core.specs.declared.peers.Peer.{Peer}
use Rattle.domain_core.specs.Peers.{peer_of, stored}
use Rattle.domain_core.proofs.PeerLaws.{peer_stored}
use Rattle.domain_core.proofs.peers.LinkedDomain.peer.Goals as goal

pub returns : goal.returns
returns c =
    c.stored_at.ensures
    ∙ ap (λ (l : List (List Peer)). stored (slice_get l c.args.at) c.args.link) (c.as_slice.ensures ∙ c.self.invariant)
    ∙ peer_stored c.self.inside.domain.routers c.args.at c.args.link
    ∙ ap (λ (d : DomainConf). peer_of d.routers c.args.at c.args.link) c.self.view_is
