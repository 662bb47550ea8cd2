-- What is in flight on a link, from one router to another, and its frame there (RFC 8296, 2 and 3; RFC 2784;
-- ISO/IEC 10589, 8.4 and 9.8 to 9.13).
use Rattle.std.specs.Prelude.{◌≡◌, ℕ, ◌+◌, true, List, [], ◌∷◌, ◌++◌, length, map, Option, Some, None, if◌then◌else◌}
use Rattle.std.specs.Str.{bytes_eq}
use Rattle.wire_base.specs.declared.addresses.Ipv4.{Ipv4}
use Rattle.wire_base.specs.declared.addresses.Mac.{Mac}
use Rattle.wire_base.specs.declared.conf.End.{End}
use Rattle.wire_base.specs.declared.conf.Kind.{Kind}
use Rattle.wire_base.specs.declared.conf.Level.{Level}
use Rattle.wire_base.specs.declared.conf.RouterConf.{RouterConf}
use Rattle.wire_base.specs.declared.triple.Triple.{Triple}
use Rattle.wire_base.specs.model.BierHeader.{BierHeader, header_octets}
use Rattle.wire_base.specs.model.Ethernet.{ethernet, ip_type}
use Rattle.wire_base.specs.model.Pdu.{Pdu, pdu}
use Rattle.wire_base.specs.model.Place.{bits_of, code_of, bit_position}
use Rattle.wire_base.specs.model.Tunnel.{TunnelPacket, tunnel, protocol_of}

-- ---- frames on an interface

-- IS-IS frames go to all routers of the link (ISO/IEC 10589, 8.4)
abbrev pub all_routers : List ℕ
all_routers = 9 ∷ 0 ∷ 43 ∷ 0 ∷ 0 ∷ 5 ∷ []

-- a PDU after the LLC header FE FE 03
abbrev pub isis_frame : Mac → List ℕ → List ℕ
isis_frame own octets = ethernet all_routers own.0 (3 + length octets) ++ (254 ∷ 254 ∷ 3 ∷ octets)

-- a BIER packet after the EtherType of its kind
abbrev pub bier_frame : Mac → Mac → Kind → List ℕ → List ℕ
bier_frame peer own kind octets = ethernet peer.0 own.0 (protocol_of kind) ++ octets

abbrev pub ip_frame : Mac → Mac → List ℕ → List ℕ
ip_frame peer own octets = ethernet peer.0 own.0 ip_type ++ octets

-- ---- items

-- The endpoints of a tunnel, and its TTL.
pub record Outer : Type 0 where
  pub src : Ipv4
  pub dst : Ipv4
  pub ttl : ℕ

-- A copy of a packet: the number of its injection, the entropy, the ingress's BFR-id and the payload; its triple, the kind of
-- its sub-domain, and the BIFT-id at its target; its BFR-ids, ascending, and its TTL; and
-- the tunnel that it is in.
pub record DataItem : Type 0 where
  pub number : ℕ
  pub entropy : ℕ
  pub bfir : ℕ
  pub payload : List ℕ
  pub triple : Triple
  pub kind : Kind
  pub bift : ℕ
  pub ids : List ℕ
  pub ttl : ℕ
  pub outer : Option Outer

pub data Item : Type 0 where
  ControlItem : (pdu : Pdu) → Item
  PacketItem : (item : DataItem) → Item

-- the bit positions of BFR-ids
abbrev pub positions_of : Triple → List ℕ → List ℕ
positions_of t ids = map (bit_position (bits_of t.bsl)) ids

-- The header that an ingress writes: nibble 5, protocol 4 (IPv4), the given values, and 0 for all other fields. All copies of
-- the packet keep it except for the BIFT-id, the TTL and the BitString.
unfoldable pub ingress_header : Triple → List ℕ → ℕ → ℕ → ℕ → ℕ → BierHeader
ingress_header t positions bift ttl entropy bfir =
    record {
      bift = bift;
      tc = 0;
      s = true;
      ttl = ttl;
      nibble = 5;
      bsl_code = code_of t.bsl;
      entropy = entropy;
      oam = 0;
      rsv = 0;
      dscp = 0;
      proto = 4;
      bfir = bfir;
      bsl = t.bsl;
      positions = positions;
    }

abbrev pub item_header : DataItem → BierHeader
item_header x = ingress_header x.triple (positions_of x.triple x.ids) x.bift x.ttl x.entropy x.bfir

-- the BIER packet of an item
abbrev pub item_packet : DataItem → List ℕ
item_packet x = header_octets (item_header x) ++ x.payload

abbrev pub item_tunnel : DataItem → Outer → TunnelPacket
item_tunnel x o = record { src = o.src; dst = o.dst; ttl = o.ttl; inner = x.kind; carried = item_packet x }

abbrev pub packet_frame : Mac → Mac → DataItem → Option Outer → List ℕ
packet_frame peer own x None = bier_frame peer own x.kind (item_packet x)
packet_frame peer own x (Some o) = ip_frame peer own (tunnel (item_tunnel x o))

-- The frame of an item on the interface that sent it, in a domain of that level.
unfoldable pub frame_of : Level → End → Item → List ℕ
frame_of level e (ControlItem p) = isis_frame e.own_mac (pdu level p)
frame_of level e (PacketItem x) = packet_frame e.peer_mac e.own_mac x x.outer

-- ---- the target

-- the index of the first router with a prefix
abbrev pub router_with : ℕ → List RouterConf → Ipv4 → Option ℕ
router_with i [] prefix = None
router_with i (r ∷ rs) prefix = if bytes_eq r.prefix.0 prefix.0 then Some i else router_with (i + 1) rs prefix

abbrev pub outer_target : List RouterConf → ℕ → Option Outer → Option ℕ
outer_target routers b None = Some b
outer_target routers b (Some o) = router_with 0 routers o.dst

-- the router that an item in flight to router b is for: the one at the tunnel's end, or b itself where there is none
abbrev pub target_of : List RouterConf → ℕ → DataItem → Option ℕ
target_of routers b x = outer_target routers b x.outer

-- an item that is not in a tunnel
abbrev pub IsDirect : DataItem → Type 0
IsDirect x = x.outer ≡ None
