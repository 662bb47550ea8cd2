-- What a frame of arbitrary octets may do to a router: which drops leave it unchanged, and how much it sends. How long a
-- frame is that a router sends.
use Rattle.std.specs.Prelude.{ℕ, ◌≤◌, Bool, true, false, List, length, Option, Some, None, Result, Ok, Err, if◌then◌else◌}
use Rattle.std.specs.List.{AllByRecursion}
use Rattle.std.specs.Str.{bytes_eq}
use Rattle.wire_base.specs.declared.cause.Cause.{Cause}
use Rattle.wire_base.specs.declared.cause.Cause.TheVariants as cause
use Rattle.wire_base.specs.declared.conf.Kind.TheVariants.{Mpls, Configured}
use Rattle.wire_base.specs.declared.conf.RouterConf.{RouterConf}
use Rattle.wire_base.specs.declared.effects.Sent.{Sent}
use Rattle.wire_base.specs.declared.faults.FrameFault.{FrameFault}
use Rattle.wire_base.specs.declared.faults.IpFault.{IpFault}
use Rattle.wire_base.specs.model.Ethernet.{Carried, IsisPdu, MplsPacket, BierPacket, IpPacket, OtherFrame, frame_at}
use Rattle.wire_base.specs.model.OnFrame.{Drop, Packet}
use Rattle.wire_base.specs.model.Tunnel.{TunnelPacket, tunnel_at}
use Rattle.bier_forward.specs.Packets.{packet_at}

-- A drop that leaves the control state unchanged. This is each but the drop for a full LSDB, besides which more may
-- have been accepted.
abbrev pub is_untaken : Cause → Bool
is_untaken cause.NoRow = true
is_untaken cause.Ttl = true
is_untaken cause.Label = true
is_untaken (cause.Head f) = true
is_untaken (cause.Frame f) = true
is_untaken (cause.Ip f) = true
is_untaken (cause.Pdu f) = true
is_untaken cause.Outer = true
is_untaken cause.Route = true
is_untaken cause.Lost = true
is_untaken cause.Link = true
is_untaken cause.Sequence = true
is_untaken cause.Full = false

abbrev pub leaves_state : Drop → Bool
leaves_state d = is_untaken d.cause

-- ---- the packet that is forwarded here

abbrev pub packet_read : Result Packet Cause → Option Packet
packet_read (Ok p) = Some p
packet_read (Err why) = None

-- the packet inside a tunnel that ends here
abbrev pub packet_inside : RouterConf → Result TunnelPacket IpFault → Option Packet
packet_inside r (Ok t) = if bytes_eq t.dst.0 r.prefix.0 then packet_read (packet_at r t.inner t.carried) else None
packet_inside r (Err fault) = None

abbrev pub packet_carried : RouterConf → Result Carried FrameFault → Option Packet
packet_carried r (Ok (IsisPdu octets)) = None
packet_carried r (Ok (MplsPacket octets)) = packet_read (packet_at r Mpls octets)
packet_carried r (Ok (BierPacket octets)) = packet_read (packet_at r Configured octets)
packet_carried r (Ok (IpPacket octets)) = packet_inside r (tunnel_at octets)
packet_carried r (Ok OtherFrame) = None
packet_carried r (Err fault) = None

-- the packet of a frame that a router forwards, if there is one: on its own, or in a tunnel that ends here
unfoldable pub packet_hopped : RouterConf → List ℕ → Option Packet
packet_hopped r octets = packet_carried r (frame_at octets)

-- how many frames a frame may make the router send: for a packet that is forwarded, one per bit position
abbrev pub most_sent : Option Packet → ℕ
most_sent None = 1
most_sent (Some p) = length p.header.positions

-- ---- how long a frame is

-- the maximum size in octets of a frame that a router sends, so that a record of a capture can hold it
abbrev pub most_octets : ℕ
most_octets = 65535

abbrev pub FitsRecord : Sent → Type 0
FitsRecord s = length s.octets ≤ most_octets

abbrev pub FitRecords : List Sent → Type 0
FitRecords sent = AllByRecursion FitsRecord sent
