-- What one router does with what arrives, in terms of items: what it sends over its interfaces, delivers and drops
-- (RFC 8279, 6; RFC 8296, 2 and 3; RFC 2784; ISO/IEC 10589, 7.3.15).
--
-- These definitions follow those of a router on octets, with an item in place of a frame. A router's index is called a,
-- its configuration r, its topology g, and its node of that topology u.
use Rattle.std.specs.Prelude.{ℕ, ◌+◌, ◌-◌, nat_le, List, [], ◌∷◌, map, filter, slice_get, option_map, option_and_then, unwrap_or, Option, Some, None, if◌then◌else◌}
use Rattle.std.specs.List.{flat_map}
use Rattle.std.specs.Str.{bytes_eq}
use Rattle.wire_base.specs.declared.bsl.Bsl.{Bsl}
use Rattle.wire_base.specs.declared.cause.Cause.{Cause}
use Rattle.wire_base.specs.declared.cause.Cause.TheVariants as cause
use Rattle.wire_base.specs.declared.conf.RouterConf.{RouterConf}
use Rattle.wire_base.specs.declared.view.ViewNode.{ViewNode}
use Rattle.wire_base.specs.model.Choice.{is_direct}
use Rattle.wire_base.specs.model.Control.{Control}
use Rattle.wire_base.specs.model.Flooding.{Reply}
use Rattle.wire_base.specs.model.Hop.{Outcome, Local, Copy, Expired, NoRow, hop}
use Rattle.wire_base.specs.model.Ingress.{IngressPacket, packets_for, ingress_kind}
use Rattle.wire_base.specs.model.Item.{Item, ControlItem, PacketItem, DataItem, Outer, item_header}
use Rattle.wire_base.specs.model.OnFrame.{Packet, node_place, link_to, next_link, bift_at, prefix_of, outer_ttl, choice_of, node_with}
use Rattle.wire_base.specs.model.Place.{own_id}
use Rattle.wire_base.specs.model.View.{control_view}
use Rattle.domain_model.specs.declared.lines.GotLine.{GotLine}
use Rattle.domain_model.specs.declared.lines.DropLine.{DropLine}
use Rattle.domain_model.specs.World.{peer_place}

-- ---- results

-- An item that a router sends: the index of the router, the interface that it is sent on, and the index of the router
-- at the far end.
pub record Sending : Type 0 where
  pub from : ℕ
  pub link : ℕ
  pub to : ℕ
  pub item : Item

-- what is sent, delivered and dropped, each in order
pub record Made : Type 0 where
  pub sent : List Sending
  pub got : List GotLine
  pub drops : List DropLine

abbrev pub none_made : Made
none_made = record { sent = []; got = []; drops = [] }

-- the results of several steps, one after the other
abbrev pub joined_made : List Made → Made
joined_made ms = record { sent = flat_map (λ m. m.sent) ms; got = flat_map (λ m. m.got) ms; drops = flat_map (λ m. m.drops) ms }

abbrev pub over_end : List RouterConf → ℕ → ℕ → Item → Sending
over_end confs a link x = record { from = a; link = link; to = peer_place confs a link; item = x }

-- a number above 65,535 is not a BFR-id, and is not listed
abbrev pub listed : List ℕ → List ℕ
listed ks = filter (λ k. nat_le k 65535) ks

-- BFR-ids of a copy of a packet are dropped
abbrev pub packet_lost : ℕ → DataItem → Cause → List ℕ → Made
packet_lost a x why ks =
    record none_made { drops = record { router = a; injection = Some x.number; cause = why; ids = listed ks } ∷ [] }

-- a drop of a frame without a packet has no injection and no ids
abbrev pub control_lost : ℕ → Cause → DropLine
control_lost a why = record { router = a; injection = None; cause = why; ids = [] }

-- an item is dropped as a whole
abbrev pub item_lost : ℕ → Cause → Item → Made
item_lost a why (ControlItem p) = record none_made { drops = control_lost a why ∷ [] }
item_lost a why (PacketItem x) = packet_lost a x why x.ids

-- ---- PDUs

-- what flooding replies is sent on one interface
abbrev pub replied : List RouterConf → ℕ → ℕ → Reply → Made
replied confs a link reply =
    record {
      sent = map (λ p. over_end confs a link (ControlItem p)) reply.sent;
      got = [];
      drops = map (control_lost a) reply.drops;
    }

-- ---- copies of packets

-- the packet that a copy carries
abbrev pub packet_of : DataItem → Packet
packet_of x = record { triple = x.triple; kind = x.kind; header = item_header x; payload = x.payload }

-- a copy on an interface, if there is one
abbrev pub copy_over : List RouterConf → ℕ → RouterConf → Option ℕ → DataItem → Option Made
copy_over confs a r None x = None
copy_over confs a r (Some link) x = option_map (λ e. record none_made { sent = over_end confs a link (PacketItem x) ∷ [] }) (slice_get r.ends link)

-- a copy to a router that is directly connected
abbrev pub copied_directly : List RouterConf → ℕ → RouterConf → List ViewNode → DataItem → ℕ → Option Made
copied_directly confs a r g x y = copy_over confs a r (link_to r g y) (record x { outer = None })

-- a copy to any other router is sent in a tunnel to its BFR-prefix
abbrev pub copied_in_tunnel : List RouterConf → ℕ → RouterConf → List ViewNode → ℕ → DataItem → ℕ → Option Made
copied_in_tunnel confs a r g u x y =
    option_and_then
    (λ dst. copy_over confs a r (next_link r g u y) (record x { outer = Some (record { src = r.prefix; dst = dst; ttl = outer_ttl }) }))
    (prefix_of g x.triple.sd y)

abbrev pub copied_to : List RouterConf → ℕ → RouterConf → List ViewNode → ℕ → DataItem → ℕ → Option Made
copied_to confs a r g u x y = if is_direct g u y then copied_directly confs a r g x y else copied_in_tunnel confs a r g u x y

abbrev pub or_lost : ℕ → DataItem → List ℕ → Option Made → Made
or_lost a x ks None = packet_lost a x cause.NoRow ks
or_lost a x ks (Some m) = m

-- A copy of the packet to the node y, with its BIFT-id; if no path leads there it is dropped.
abbrev pub item_copied : List RouterConf → ℕ → RouterConf → List ViewNode → ℕ → DataItem → ℕ → List ℕ → ℕ → Made
item_copied confs a r g u x y ks ttl =
    or_lost a x ks (option_and_then (λ bift. copied_to confs a r g u (record x { bift = bift; ids = ks; ttl = ttl }) y) (bift_at r g x.triple y))

abbrev pub item_delivered : ℕ → DataItem → ℕ → Made
item_delivered a x id =
    record none_made { got = record { router = a; injection = x.number; id = id; payload = x.payload } ∷ [] }

abbrev pub outcome_made : List RouterConf → ℕ → RouterConf → List ViewNode → ℕ → DataItem → Outcome → Made
outcome_made confs a r g u x (Local id) = item_delivered a x id
outcome_made confs a r g u x (Copy y ks ttl) = item_copied confs a r g u x y ks ttl
outcome_made confs a r g u x (Expired ks) = packet_lost a x cause.Ttl ks
outcome_made confs a r g u x (NoRow ks) = packet_lost a x cause.NoRow ks

-- the outcomes of forwarding a packet with a TTL
unfoldable pub outcomes_at : RouterConf → List ViewNode → ℕ → DataItem → ℕ → List Outcome
outcomes_at r g u x ttl = hop (own_id r x.triple.sd) (choice_of r g u (packet_of x)) x.ids ttl

-- forwarding, at the router whose node of the topology g is u
unfoldable pub hop_made_at : List RouterConf → ℕ → RouterConf → List ViewNode → ℕ → DataItem → ℕ → Made
hop_made_at confs a r g u x ttl = joined_made (map (outcome_made confs a r g u x) (outcomes_at r g u x ttl))

-- the same in the topology of a control state
abbrev pub hop_made : List RouterConf → ℕ → Control → DataItem → ℕ → Made
hop_made confs a c x ttl = hop_made_at confs a c.conf (control_view c) (node_place (control_view c) c.conf.system) x ttl

-- ---- copies in a tunnel

abbrev pub or_no_route : ℕ → DataItem → Option Made → Made
or_no_route a x None = packet_lost a x cause.Route x.ids
or_no_route a x (Some m) = m

-- a copy in a tunnel is forwarded toward the router with the tunnel's destination, with a lower outer TTL
abbrev pub sent_onward : List RouterConf → ℕ → RouterConf → List ViewNode → ℕ → DataItem → Outer → Made
sent_onward confs a r g u x o =
    or_no_route a x (copy_over confs a r (option_and_then (next_link r g u) (node_with g o.dst)) (record x { outer = Some (record o { ttl = o.ttl - 1 }) }))

abbrev pub passes_through : List RouterConf → ℕ → Control → DataItem → Outer → Made
passes_through confs a c x o =
    if nat_le o.ttl 1 then packet_lost a x cause.Outer x.ids
    else sent_onward confs a c.conf (control_view c) (node_place (control_view c) c.conf.system) x o

abbrev pub out_of_tunnel : List RouterConf → ℕ → Control → DataItem → Outer → Made
out_of_tunnel confs a c x o =
    if bytes_eq o.dst.0 c.conf.prefix.0 then hop_made confs a c x x.ttl else passes_through confs a c x o

-- A copy that arrives is forwarded with its TTL, or, in a tunnel that does not end here, sent on.
abbrev pub packet_taken : List RouterConf → ℕ → Control → DataItem → Option Outer → Made
packet_taken confs a c x None = hop_made confs a c x x.ttl
packet_taken confs a c x (Some o) = out_of_tunnel confs a c x o

-- ---- injections

-- a packet of an injection, before it is first forwarded
abbrev pub entering_item : RouterConf → ℕ → ℕ → ℕ → List ℕ → IngressPacket → DataItem
entering_item r number ttl entropy payload p =
    record {
      number = number;
      entropy = entropy;
      bfir = unwrap_or (own_id r p.triple.sd) 0;
      payload = payload;
      triple = p.triple;
      kind = ingress_kind r p.triple.sd;
      bift = 0;
      ids = p.ids;
      ttl = ttl;
      outer = None;
    }

-- The packets for a list of BFR-ids are forwarded with one more than the given TTL, so that their copies carry that
-- TTL.
unfoldable pub inject_made : List RouterConf → ℕ → Control → ℕ → ℕ → Bsl → List ℕ → ℕ → ℕ → List ℕ → Made
inject_made confs a c number sd bsl ks ttl entropy payload =
    joined_made (map (λ p. hop_made confs a c (entering_item c.conf number ttl entropy payload p) (ttl + 1)) (packets_for sd bsl ks))
