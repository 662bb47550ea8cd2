-- A tunnel as stored: its carried octets are a range of those that it was parsed from.
use Rattle.std.specs.Prelude.{◌≡◌, ℕ, ◌-◌, ◌≤◌, List, length, take, drop, Result, Ok}
use Rattle.wire_base.specs.declared.faults.IpFault.{IpFault}
use Rattle.wire_base.specs.model.Fields.{◌>>=◌}
use Rattle.wire_base.specs.model.Tunnel.{TunnelPacket, tunnel_at, total_of}
use Rattle.gre_ip.specs.declared.tunnel.Tunnel.{Tunnel}

-- the tunnel's packet, with these octets inside
abbrev pub packet_with : Tunnel → List ℕ → TunnelPacket
packet_with t carried = record { src = t.src; dst = t.dst; ttl = t.ttl; inner = t.inner; carried = carried }

-- the packet of a tunnel in octets
abbrev pub packet_of : List ℕ → Tunnel → TunnelPacket
packet_of octets t = packet_with t (take (t.to - t.from) (drop t.from octets))

-- the carried octets follow the two headers, up to the total length
pub record HasPlaces (octets : List ℕ) (t : Tunnel) : Type 0 where
  pub from : t.from ≡ 24
  pub ordered : 24 ≤ t.to
  pub to : t.to ≡ total_of octets
  pub within : t.to ≤ length octets

-- a packet as stored, after it was parsed from octets
abbrev pub held : List ℕ → TunnelPacket → Result Tunnel IpFault
held octets t = Ok (record { src = t.src; dst = t.dst; ttl = t.ttl; inner = t.inner; from = 24; to = total_of octets })

-- the result of parsing
abbrev pub held_at : List ℕ → Result Tunnel IpFault
held_at octets = tunnel_at octets >>= held octets
