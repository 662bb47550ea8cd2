-- The conditions on a PDU, an LSDB entry and a copy of a packet under which the octets that encode them are parsed
-- again (ISO/IEC 10589, 8.4 and 9.8 to 9.13; RFC 8296, 2).
use Rattle.std.specs.Prelude.{◌≡◌, ◌+◌, ◌*◌, ◌<◌, ◌≤◌, ◌^◌, Bool, List, length, Option, Some, None}
use Rattle.wire_base.specs.declared.limits.TheConstants.{MOST_CONTENT}
use Rattle.wire_base.specs.declared.conf.RouterConf.{RouterConf}
use Rattle.wire_base.specs.declared.entry.Entry.{Entry}
use Rattle.wire_base.specs.model.BitSet.{IsWithin}
use Rattle.wire_base.specs.model.Control.{Control, fragment_0}
use Rattle.wire_base.specs.model.Item.{DataItem, Outer, item_header, item_packet, item_tunnel}
use Rattle.wire_base.specs.model.OnFrame.{Effects, Packet, on_packet, tunnel_taken}
use Rattle.wire_base.specs.model.OwnLsp.{own_content, own_flags, own_head}
use Rattle.wire_base.specs.model.Pdu.{Head, lsp_sum, Pdu, LspPdu, CsnpPdu, PsnpPdu, HelloPdu, OtherPdu, LspFits, CsnpFits, PsnpFits}
use Rattle.wire_base.specs.model.Place.{bits_of}
use Rattle.wire_base.specs.model.Tunnel.{TunnelFits, tunnel}

-- ---- PDUs

-- A PDU that a router sends: it is in the grammar, and with the three octets before it has at most 1,500 octets, so that
-- the number in the frame is a length (IEEE 802.3, 3.2.6).
abbrev pub IsSendable : Pdu → Type 0
IsSendable (LspPdu head tlvs) = LspFits head tlvs × (length tlvs ≤ MOST_CONTENT)
IsSendable (CsnpPdu source start last tlvs) = CsnpFits source start last tlvs × (length tlvs ≤ 1464)
IsSendable (PsnpPdu source tlvs) = PsnpFits source tlvs × (length tlvs ≤ 1480)
IsSendable HelloPdu = ⊥
IsSendable (OtherPdu number) = ⊥

-- the header of the PDU in which an entry is sent
abbrev pub head_of : Entry → Head
head_of e = record { life = e.life; id = e.id; seq = e.seq; sum = e.sum; flags = e.flags }

-- an entry that can be sent
pub record EntryFits (e : Entry) : Type 0 where
  pub lsp : LspFits (head_of e) e.content
  pub short : length e.content ≤ MOST_CONTENT

-- A router's fragment 0 in any LSDB: its own content where some of its interfaces are up, its own flags, the right
-- checksum, and any sequence number and lifetime.
pub record IsOwn (r : RouterConf) (up : List Bool) (e : Entry) : Type 0 where
  pub id : e.id ≡ fragment_0 r.system
  pub content : e.content ≡ own_content r up
  pub flags : e.flags ≡ own_flags r
  pub sum : e.sum ≡ lsp_sum (own_head r e.seq) (own_content r up)

-- ---- copies of packets

-- A copy of a packet: its numbers fit their fields, and its BFR-ids, ascending, are in its set.
pub record ItemFits (x : DataItem) : Type 0 where
  pub bift : x.bift < 2 ^ 20
  pub ttl : x.ttl < 2 ^ 8
  pub entropy : x.entropy < 2 ^ 20
  pub bfir : x.bfir < 2 ^ 16
  pub ids : IsWithin (x.triple.si * bits_of x.triple.bsl) (x.triple.si * bits_of x.triple.bsl + bits_of x.triple.bsl) x.ids

-- the packet of a copy
abbrev pub packet_of : DataItem → Packet
packet_of x = record { triple = x.triple; kind = x.kind; header = item_header x; payload = x.payload }

-- the tunnel of a copy has room for it, and its numbers fit their fields (RFC 791, 3.1; RFC 2784, 2)
abbrev pub OuterFits : DataItem → Option Outer → Type 0
OuterFits x None = Unit {0}
OuterFits x (Some o) = TunnelFits (item_tunnel x o)

-- What a router does with the octets of a copy: those of its packet, or those of the tunnel that it is in.
abbrev pub copy_taken : Control → DataItem → Option Outer → Effects
copy_taken c x None = on_packet c x.kind (item_packet x)
copy_taken c x (Some o) = tunnel_taken c (tunnel (item_tunnel x o)) (item_tunnel x o)
