-- What one router does with the octets of a frame: its next control state, what it sends and delivers, and what it drops
-- (RFC 8279, 6; RFC 8296, 2 and 3; RFC 2784; ISO/IEC 10589, 7.3.15).
use Rattle.std.specs.Prelude.{ℕ, ◌+◌, ◌-◌, ◌/◌, ◌%◌, ◌==◌, nat_lt, nat_le, Bool, true, false, List, [], ◌∷◌, ◌++◌, length, map, drop, slice_get, slice_index_or, option_map, option_and_then, Option, Some, None, Result, Ok, Err, if◌then◌else◌}
use Rattle.std.specs.List.{flat_map}
use Rattle.std.specs.Str.{bytes_eq}
use Rattle.byteorder.specs.Endian.{big_number}
use Rattle.wire_base.specs.declared.addresses.SystemId.{SystemId}
use Rattle.wire_base.specs.declared.addresses.Ipv4.{Ipv4}
use Rattle.wire_base.specs.declared.cause.Cause.{Cause}
use Rattle.wire_base.specs.declared.cause.Cause.TheVariants as cause
use Rattle.wire_base.specs.declared.conf.End.{End}
use Rattle.wire_base.specs.declared.conf.Kind.{Kind}
use Rattle.wire_base.specs.declared.conf.Kind.TheVariants.{Mpls, Configured}
use Rattle.wire_base.specs.declared.conf.RouterConf.{RouterConf}
use Rattle.wire_base.specs.declared.effects.Sent.{Sent}
use Rattle.wire_base.specs.declared.effects.Got.{Got}
use Rattle.wire_base.specs.declared.faults.FrameFault.{FrameFault}
use Rattle.wire_base.specs.declared.faults.HeadFault.{HeadFault}
use Rattle.wire_base.specs.declared.faults.HeadFault.TheVariants as head_fault
use Rattle.wire_base.specs.declared.faults.IpFault.{IpFault}
use Rattle.wire_base.specs.declared.faults.PduFault.{PduFault}
use Rattle.wire_base.specs.declared.triple.Triple.{Triple}
use Rattle.wire_base.specs.declared.view.ViewNode.{ViewNode}
use Rattle.wire_base.specs.model.BierHeader.{BierHeader, header_at, header_length, header_octets}
use Rattle.wire_base.specs.model.Choice.{choose, is_direct, end_toward}
use Rattle.wire_base.specs.model.Control.{same_system, Control}
use Rattle.wire_base.specs.model.Ethernet.{Carried, IsisPdu, MplsPacket, BierPacket, IpPacket, OtherFrame, frame_at}
use Rattle.wire_base.specs.model.Flooding.{Reply, on_pdu}
use Rattle.wire_base.specs.model.Graph.{place_in, node_bift}
use Rattle.wire_base.specs.model.Hop.{Outcome, Local, Copy, Expired, NoRow, hop}
use Rattle.wire_base.specs.model.Item.{isis_frame, bier_frame, ip_frame, positions_of}
use Rattle.wire_base.specs.model.Pdu.{Pdu, LspPdu, CsnpPdu, PsnpPdu, HelloPdu, OtherPdu, pdu, pdu_at}
use Rattle.wire_base.specs.model.Place.{id_at, own_id, means}
use Rattle.wire_base.specs.model.Tight.{next_step}
use Rattle.wire_base.specs.model.Tunnel.{TunnelPacket, tunnel, tunnel_at, tunnel_on}
use Rattle.wire_base.specs.model.View.{control_view, has_prefix}

-- ---- effects

-- a triple and positions of its packets
pub record Positions : Type 0 where
  pub triple : Triple
  pub positions : List ℕ

-- A drop has its positions where they have no BIFT entry or the TTL has expired.
pub record Drop : Type 0 where
  pub cause : Cause
  pub set : Option Positions

-- What a router sends, delivers and drops, in order; and whether it ignored a frame.
pub record Effects : Type 0 where
  pub sent : List Sent
  pub got : List Got
  pub drops : List Drop
  pub passed : Bool

abbrev pub nothing : Effects
nothing = record { sent = []; got = []; drops = []; passed = false }

abbrev pub passed_over : Effects
passed_over = record nothing { passed = true }

abbrev pub one_sent : ℕ → List ℕ → Effects
one_sent link octets = record nothing { sent = record { link = link; octets = octets } ∷ [] }

abbrev pub one_drop : Cause → Option Positions → Effects
one_drop why set = record nothing { drops = record { cause = why; set = set } ∷ [] }

-- a drop of a whole frame
abbrev pub dropped : Cause → Effects
dropped why = one_drop why None

-- effects of the parts of a packet, one after the other
abbrev pub joined : List Effects → Effects
joined es = record { sent = flat_map (λ e. e.sent) es; got = flat_map (λ e. e.got) es; drops = flat_map (λ e. e.drops) es; passed = false }

-- the next control state, and the effects
pub record Next : Type 0 where
  pub control : Control
  pub effects : Effects

abbrev pub unchanged : Control → Effects → Next
unchanged c e = record { control = c; effects = e }

-- ---- PDUs

abbrev pub pdu_frame : RouterConf → Option End → Pdu → List ℕ
pdu_frame r None p = []
pdu_frame r (Some e) p = isis_frame e.own_mac (pdu r.level p)

-- PDUs sent on a link, as frames
abbrev pub frames_of : RouterConf → ℕ → List Pdu → List Sent
frames_of r link pdus = map (λ p. record { link = link; octets = pdu_frame r (slice_get r.ends link) p }) pdus

-- the result of flooding, whose PDUs are sent on a link as frames
unfoldable pub framed : ℕ → Reply → Next
framed link r =
    record {
      control = r.control;
      effects = record nothing { sent = frames_of r.control.conf link r.sent; drops = map (λ why. record { cause = why; set = None }) r.drops };
    }

-- hellos and PDUs of other types are ignored
abbrev pub pdu_taken : Control → ℕ → Pdu → Next
pdu_taken c link (LspPdu h tlvs) = framed link (on_pdu c link (LspPdu h tlvs))
pdu_taken c link (CsnpPdu source start last tlvs) = framed link (on_pdu c link (CsnpPdu source start last tlvs))
pdu_taken c link (PsnpPdu source tlvs) = framed link (on_pdu c link (PsnpPdu source tlvs))
pdu_taken c link HelloPdu = unchanged c passed_over
pdu_taken c link (OtherPdu number) = unchanged c passed_over

abbrev pub pdu_read : Control → ℕ → Result Pdu PduFault → Next
pdu_read c link (Ok p) = pdu_taken c link p
pdu_read c link (Err fault) = unchanged c (dropped (cause.Pdu fault))

-- ---- the next hop

-- the index of a system's node; past the end where there is none
abbrev pub node_place : List ViewNode → SystemId → ℕ
node_place [] s = 0
node_place (n ∷ g) s = if same_system n.system s then 0 else 1 + node_place g s

-- the interface toward a node
abbrev pub link_to : RouterConf → List ViewNode → ℕ → Option ℕ
link_to r g x = option_and_then (λ n. end_toward r.ends n.system) (slice_get g x)

-- the interface on the path to a node: that of the tight step with the least system ID
abbrev pub next_link : RouterConf → List ViewNode → ℕ → ℕ → Option ℕ
next_link r g u x = option_and_then (link_to r g) (next_step g x u)

-- the BIFT-id of a triple at a node, and the node's BFR-prefix in the sub-domain
abbrev pub bift_at : RouterConf → List ViewNode → Triple → ℕ → Option ℕ
bift_at r g t x = option_and_then (node_bift r.kinds r.table t) (slice_get g x)

abbrev pub prefix_of : List ViewNode → ℕ → ℕ → Option Ipv4
prefix_of g sd x = option_and_then (λ n. option_map (λ s. s.prefix) (place_in n.subs sd)) (slice_get g x)

-- ---- a BIER packet

-- A packet in processing: its triple, the kind of its sub-domain, its header, and what follows.
pub record Packet : Type 0 where
  pub triple : Triple
  pub kind : Kind
  pub header : BierHeader
  pub payload : List ℕ

abbrev pub class_of : Packet → ℕ
class_of p = p.header.entropy % 16

-- the BFR-ids of its positions; a number above 65,535 is no BFR-id, and has no choice
abbrev pub ids_in : Packet → List ℕ
ids_in p = map (id_at p.triple) p.header.positions

-- positions of BFR-ids and of such numbers
abbrev pub positions_in : Packet → List ℕ → Positions
positions_in p ids = record { triple = p.triple; positions = positions_of p.triple ids }

-- a copy is the packet with its own BIFT-id, TTL and BitString
abbrev pub copy_of : Packet → ℕ → List ℕ → ℕ → List ℕ
copy_of p bift ids ttl =
    header_octets (record p.header { bift = bift; ttl = ttl; positions = positions_of p.triple ids }) ++ p.payload

-- a frame on an interface, where there is one
abbrev pub sent_on : RouterConf → Option ℕ → (End → List ℕ) → Option Effects
sent_on r None frame = None
sent_on r (Some link) frame = option_map (λ e. one_sent link (frame e)) (slice_get r.ends link)

-- a copy to a router that is reached directly
abbrev pub direct_copy : RouterConf → List ViewNode → Packet → ℕ → List ℕ → Option Effects
direct_copy r g p x octets = sent_on r (link_to r g x) (λ e. bier_frame e.peer_mac e.own_mac p.kind octets)

abbrev pub outer_ttl : ℕ
outer_ttl = 255

-- the tunnel that carries a copy from this router
abbrev pub tunnel_for : RouterConf → Packet → List ℕ → Ipv4 → TunnelPacket
tunnel_for r p octets dst = record { src = r.prefix; dst = dst; ttl = outer_ttl; inner = p.kind; carried = octets }

-- a copy to any other router is sent in a tunnel to its BFR-prefix
abbrev pub tunnel_copy : RouterConf → List ViewNode → ℕ → Packet → ℕ → List ℕ → Option Effects
tunnel_copy r g u p x octets =
    option_and_then
    (λ dst. sent_on r (next_link r g u x) (λ e. ip_frame e.peer_mac e.own_mac (tunnel (tunnel_for r p octets dst))))
    (prefix_of g p.triple.sd x)

abbrev pub copy_sent : RouterConf → List ViewNode → ℕ → Packet → ℕ → List ℕ → Option Effects
copy_sent r g u p x octets = if is_direct g u x then direct_copy r g p x octets else tunnel_copy r g u p x octets

abbrev pub or_drop : Packet → List ℕ → Option Effects → Effects
or_drop p ids None = one_drop cause.NoRow (Some (positions_in p ids))
or_drop p ids (Some e) = e

-- a copy to the node x; without a path there it is dropped
abbrev pub copied : RouterConf → List ViewNode → ℕ → Packet → ℕ → List ℕ → ℕ → Effects
copied r g u p x ids ttl = or_drop p ids (option_and_then (λ bift. copy_sent r g u p x (copy_of p bift ids ttl)) (bift_at r g p.triple x))

abbrev pub delivery : Packet → ℕ → Got
delivery p id =
    record { sd = p.triple.sd; id = id; bfir = p.header.bfir; entropy = p.header.entropy; proto = p.header.proto; payload = p.payload }

abbrev pub outcome_done : RouterConf → List ViewNode → ℕ → Packet → Outcome → Effects
outcome_done r g u p (Local id) = record nothing { got = delivery p id ∷ [] }
outcome_done r g u p (Copy x ids ttl) = copied r g u p x ids ttl
outcome_done r g u p (Expired ids) = one_drop cause.Ttl (Some (positions_in p ids))
outcome_done r g u p (NoRow ids) = one_drop cause.NoRow (Some (positions_in p ids))

-- where a router with that view sends a BFR-id
abbrev pub choice_of : RouterConf → List ViewNode → ℕ → Packet → ℕ → Option ℕ
choice_of r g u p k = choose g r.kinds r.table p.triple (class_of p) u k

-- the processing of a packet with a TTL, at the router whose node in the view g is u
unfoldable pub hop_at : RouterConf → List ViewNode → ℕ → Packet → ℕ → Effects
hop_at r g u p ttl =
    joined (map (outcome_done r g u p) (hop (own_id r p.triple.sd) (choice_of r g u p) (ids_in p) ttl))

-- the same in the view of a control state
abbrev pub hop_in : Control → Packet → ℕ → Effects
hop_in c p ttl = hop_at c.conf (control_view c) (node_place (control_view c) c.conf.system) p ttl

-- ---- the octets of a BIER packet

abbrev pub header_read : Control → Kind → Triple → List ℕ → Result BierHeader HeadFault → Effects
header_read c kind t octets (Ok h) =
    hop_in c (record { triple = t; kind = kind; header = h; payload = drop (header_length t.bsl) octets }) h.ttl
header_read c kind t octets (Err fault) = dropped (cause.Head fault)

abbrev pub meaning_read : Control → Kind → List ℕ → Option Triple → Effects
meaning_read c kind octets None = dropped cause.Label
meaning_read c kind octets (Some t) = header_read c kind t octets (header_at kind t.bsl octets)

-- whether a label is not the bottom of its stack
abbrev pub is_not_last : Kind → ℕ → Bool
is_not_last Mpls word = word / 256 % 2 == 0
is_not_last Configured word = false

-- A packet whose BIFT-id is of that kind. Its first word has the BIFT-id, which determines the length of its BitString.
unfoldable pub on_packet : Control → Kind → List ℕ → Effects
on_packet c kind octets =
    if nat_lt (length octets) 4 then dropped (cause.Head head_fault.Short) else
    if is_not_last kind (big_number 4 octets) then dropped cause.Label else
    meaning_read c kind octets (means c.conf kind (big_number 4 octets / 4096))

-- ---- tunnels

-- the index of the first node with a BFR-prefix
abbrev pub node_with : List ViewNode → Ipv4 → Option ℕ
node_with [] prefix = None
node_with (n ∷ g) prefix = if has_prefix prefix n.subs then Some 0 else option_map (λ x. 1 + x) (node_with g prefix)

abbrev pub or_no_route : Option Effects → Effects
or_no_route None = dropped cause.Route
or_no_route (Some e) = e

-- a tunnel packet is forwarded toward the router with that prefix
abbrev pub forwarded : RouterConf → List ViewNode → ℕ → List ℕ → TunnelPacket → Effects
forwarded r g u octets t =
    or_no_route (sent_on r (option_and_then (next_link r g u) (node_with g t.dst)) (λ e. ip_frame e.peer_mac e.own_mac (tunnel_on octets (t.ttl - 1))))

abbrev pub in_transit : Control → List ℕ → TunnelPacket → Effects
in_transit c octets t =
    if nat_le t.ttl 1 then dropped cause.Outer
    else forwarded c.conf (control_view c) (node_place (control_view c) c.conf.system) octets t

-- at the end of the tunnel, the inner packet is treated as one that came without a tunnel
abbrev pub tunnel_taken : Control → List ℕ → TunnelPacket → Effects
tunnel_taken c octets t =
    if bytes_eq t.dst.0 c.conf.prefix.0 then on_packet c t.inner t.carried else in_transit c octets t

abbrev pub tunnel_read : Control → List ℕ → Result TunnelPacket IpFault → Effects
tunnel_read c octets (Ok t) = tunnel_taken c octets t
tunnel_read c octets (Err fault) = dropped (cause.Ip fault)

-- A packet received in IPv4.
unfoldable pub on_tunnel : Control → List ℕ → Effects
on_tunnel c octets = tunnel_read c octets (tunnel_at octets)

-- ---- a frame

abbrev pub carried_taken : Control → ℕ → Carried → Next
carried_taken c link (IsisPdu octets) = pdu_read c link (pdu_at c.conf.level octets)
carried_taken c link (MplsPacket octets) = unchanged c (on_packet c Mpls octets)
carried_taken c link (BierPacket octets) = unchanged c (on_packet c Configured octets)
carried_taken c link (IpPacket octets) = unchanged c (on_tunnel c octets)
carried_taken c link OtherFrame = unchanged c passed_over

abbrev pub frame_read : Control → ℕ → Result Carried FrameFault → Next
frame_read c link (Ok carried) = carried_taken c link carried
frame_read c link (Err fault) = unchanged c (dropped (cause.Frame fault))

-- A frame received on a link of a router.
unfoldable pub on_frame : Control → ℕ → List ℕ → Next
on_frame c link octets =
    if slice_index_or c.flood.up link false
    then frame_read c link (frame_at octets)
    else unchanged c (dropped cause.Link)
