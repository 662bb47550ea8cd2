-- The item that a frame represents, parsed from its octets. A packet is parsed as by the router that it is for. What
-- its octets do not contain is noted separately: the number of its injection, and the router at the far end of the link
-- (RFC 8296, 2 and 3; RFC 2784, 2; ISO/IEC 10589, 8.4).
use Rattle.std.specs.Prelude.{ℕ, List, [], slice_get, Option, Some, None, Result, Ok, Err}
use Rattle.wire_base.specs.declared.bsl.Bsl.TheVariants.{B64}
use Rattle.wire_base.specs.declared.cause.Cause.{Cause}
use Rattle.wire_base.specs.declared.conf.Kind.{Kind}
use Rattle.wire_base.specs.declared.conf.Kind.TheVariants.{Mpls, Configured}
use Rattle.wire_base.specs.declared.conf.Level.{Level}
use Rattle.wire_base.specs.declared.conf.Level.TheVariants.{One}
use Rattle.wire_base.specs.declared.conf.RouterConf.{RouterConf}
use Rattle.wire_base.specs.declared.faults.FrameFault.{FrameFault}
use Rattle.wire_base.specs.declared.faults.IpFault.{IpFault}
use Rattle.wire_base.specs.declared.faults.PduFault.{PduFault}
use Rattle.wire_base.specs.model.Ethernet.{Carried, IsisPdu, MplsPacket, BierPacket, IpPacket, OtherFrame, frame_at}
use Rattle.wire_base.specs.model.Item.{Item, ControlItem, PacketItem, DataItem, Outer, router_with}
use Rattle.wire_base.specs.model.OnFrame.{Packet, ids_in}
use Rattle.wire_base.specs.model.Pdu.{Pdu, HelloPdu, pdu_at}
use Rattle.wire_base.specs.model.Tunnel.{TunnelPacket, tunnel_at}
use Rattle.bier_forward.specs.Packets.{packet_at}
use Rattle.domain_model.specs.Truth.{router_at}
use Rattle.frames_in_flight.specs.declared.flight.Note.{Note}

-- ---- PDUs

-- octets that are not a PDU represent a hello, which no router sends
abbrev pub pdu_or_hello : Result Pdu PduFault → Pdu
pdu_or_hello (Ok p) = p
pdu_or_hello (Err fault) = HelloPdu

abbrev pub pdu_carried : Level → Result Carried FrameFault → Pdu
pdu_carried level (Ok (IsisPdu octets)) = pdu_or_hello (pdu_at level octets)
pdu_carried level (Ok (MplsPacket octets)) = HelloPdu
pdu_carried level (Ok (BierPacket octets)) = HelloPdu
pdu_carried level (Ok (IpPacket octets)) = HelloPdu
pdu_carried level (Ok OtherFrame) = HelloPdu
pdu_carried level (Err fault) = HelloPdu

-- all routers of a domain are of one level
abbrev pub level_at : Option RouterConf → Level
level_at None = One
level_at (Some r) = r.level

abbrev pub level_of : List RouterConf → Level
level_of confs = level_at (slice_get confs 0)

-- the PDU in a frame
abbrev pub pdu_in : List RouterConf → List ℕ → Pdu
pdu_in confs octets = pdu_carried (level_of confs) (frame_at octets)

-- ---- packets

abbrev pub packet_or_none : Result Packet Cause → Option Packet
packet_or_none (Ok p) = Some p
packet_or_none (Err why) = None

-- as a router parses it
abbrev pub packet_read : RouterConf → Kind → List ℕ → Option Packet
packet_read r kind octets = packet_or_none (packet_at r kind octets)

abbrev pub tunnel_carried : RouterConf → Result TunnelPacket IpFault → Option Packet
tunnel_carried r (Ok t) = packet_read r t.inner t.carried
tunnel_carried r (Err fault) = None

abbrev pub packet_carried : RouterConf → Result Carried FrameFault → Option Packet
packet_carried r (Ok (MplsPacket octets)) = packet_read r Mpls octets
packet_carried r (Ok (BierPacket octets)) = packet_read r Configured octets
packet_carried r (Ok (IpPacket octets)) = tunnel_carried r (tunnel_at octets)
packet_carried r (Ok (IsisPdu octets)) = None
packet_carried r (Ok OtherFrame) = None
packet_carried r (Err fault) = None

-- The packet in a frame, as that router parses it.
abbrev pub packet_for : Option RouterConf → List ℕ → Option Packet
packet_for None octets = None
packet_for (Some r) octets = packet_carried r (frame_at octets)

-- ---- the router that a packet is for

-- in a tunnel the router whose prefix is the tunnel's destination
abbrev pub tunnel_end : List RouterConf → Result TunnelPacket IpFault → Option ℕ
tunnel_end confs (Ok t) = router_with 0 confs t.dst
tunnel_end confs (Err fault) = None

-- without a tunnel the router at the far end of the link
abbrev pub place_carried : List RouterConf → ℕ → Result Carried FrameFault → Option ℕ
place_carried confs to (Ok (IpPacket octets)) = tunnel_end confs (tunnel_at octets)
place_carried confs to (Ok (MplsPacket octets)) = Some to
place_carried confs to (Ok (BierPacket octets)) = Some to
place_carried confs to (Ok (IsisPdu octets)) = Some to
place_carried confs to (Ok OtherFrame) = Some to
place_carried confs to (Err fault) = Some to

-- The index of the router that the packet in a frame in flight to the router at an index is for.
abbrev pub reader_place : List RouterConf → ℕ → List ℕ → Option ℕ
reader_place confs to octets = place_carried confs to (frame_at octets)

-- The packet in a frame in flight to the router at an index.
abbrev pub packet_in : List RouterConf → ℕ → List ℕ → Option Packet
packet_in confs to octets = packet_for (router_at confs (reader_place confs to octets)) octets

-- ---- tunnels

abbrev pub outer_or_none : Result TunnelPacket IpFault → Option Outer
outer_or_none (Ok t) = Some (record { src = t.src; dst = t.dst; ttl = t.ttl })
outer_or_none (Err fault) = None

abbrev pub outer_carried : Result Carried FrameFault → Option Outer
outer_carried (Ok (IpPacket octets)) = outer_or_none (tunnel_at octets)
outer_carried (Ok (MplsPacket octets)) = None
outer_carried (Ok (BierPacket octets)) = None
outer_carried (Ok (IsisPdu octets)) = None
outer_carried (Ok OtherFrame) = None
outer_carried (Err fault) = None

-- the tunnel that it is in
abbrev pub outer_in : List ℕ → Option Outer
outer_in octets = outer_carried (frame_at octets)

-- octets without a packet represent a copy without BFR-ids, which no router sends
abbrev pub no_copy : ℕ → Option Outer → DataItem
no_copy number outer =
    record { number = number; entropy = 0; bfir = 0; payload = []; triple = record { sd = 0; bsl = B64; si = 0 }; kind = Mpls; bift = 0; ids = []; ttl = 0; outer = outer }

-- the copy that a packet represents
abbrev pub copy_read : ℕ → Option Outer → Option Packet → DataItem
copy_read number outer None = no_copy number outer
copy_read number outer (Some p) =
    record {
      number = number;
      entropy = p.header.entropy;
      bfir = p.header.bfir;
      payload = p.payload;
      triple = p.triple;
      kind = p.kind;
      bift = p.header.bift;
      ids = ids_in p;
      ttl = p.header.ttl;
      outer = outer;
    }

abbrev pub copy_in : List RouterConf → Note → List ℕ → DataItem
copy_in confs note octets = copy_read note.number (outer_in octets) (packet_in confs note.to octets)

-- ---- items

-- The item of a frame: a copy of a packet if that is noted, otherwise a PDU.
unfoldable pub item_in : List RouterConf → Option Note → List ℕ → Item
item_in confs None octets = ControlItem (pdu_in confs octets)
item_in confs (Some note) octets = PacketItem (copy_in confs note octets)

-- the BFR-ids of a packet
abbrev pub packet_ids : Option Packet → List ℕ
packet_ids None = []
packet_ids (Some p) = ids_in p

-- those of the packet in a frame, if a packet is noted, as that router parses it
abbrev pub ids_for : Option RouterConf → Option Note → List ℕ → List ℕ
ids_for reader None octets = []
ids_for reader (Some note) octets = packet_ids (packet_for reader octets)

-- the BFR-ids of an item
abbrev pub item_ids : Item → List ℕ
item_ids (ControlItem p) = []
item_ids (PacketItem x) = x.ids
