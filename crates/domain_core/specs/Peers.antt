-- Where the interfaces of a domain's routers lead.
use Rattle.std.specs.Prelude.{ℕ, ◌+◌, List, [], ◌∷◌, length, map, slice_get, Option, Some, None, option_map}
use Rattle.std.specs.List.{range_with_len}
use Rattle.wire_base.specs.declared.conf.RouterConf.{RouterConf}
use Rattle.domain_core.specs.declared.peers.Peer.{Peer}
use Rattle.domain_model.specs.World.{end_at, link_between, peer_place}

-- the router at the far end of an interface, and the interface there that leads back
abbrev pub peer_over : List RouterConf → ℕ → ℕ → Peer
peer_over confs a link = record { to = peer_place confs a link; back = link_between confs (peer_place confs a link) a }

abbrev pub peers_from : List RouterConf → ℕ → List RouterConf → List (List Peer)
peers_from confs a [] = []
peers_from confs a (r ∷ rs) = map (peer_over confs a) (range_with_len 0 (length r.ends)) ∷ peers_from confs (a + 1) rs

-- where the interfaces of all routers lead
unfoldable pub peers_of : List RouterConf → List (List Peer)
peers_of confs = peers_from confs 0 confs

-- where an interface of a router leads, if there is such an interface
abbrev pub peer_of : List RouterConf → ℕ → ℕ → Option Peer
peer_of confs a link = option_map (λ e. peer_over confs a link) (end_at (slice_get confs a) link)

-- what is stored of an interface, where the list of its router is found
abbrev pub stored : Option (List Peer) → ℕ → Option Peer
stored None link = None
stored (Some row) link = slice_get row link
