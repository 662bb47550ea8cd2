-- How the parts of a hop represent it.
use Rattle.std.specs.Prelude.{◌≡◌, ℕ, ◌≤◌, ◌<◌, ◌-◌, ◌%◌, ◌^◌, List, [], ◌∷◌, ◌++◌, map, is_some, length, AllPairs, slice_get, slice_index_or, Option, Some, None, option_and_then, option_map, if◌then◌else◌}
use Rattle.wire_base.specs.declared.addresses.Ipv4.{Ipv4}
use Rattle.wire_base.specs.declared.addresses.SystemId.{SystemId}
use Rattle.wire_base.specs.declared.cause.Cause.{Cause}
use Rattle.wire_base.specs.declared.cause.Cause.TheVariants as cause
use Rattle.wire_base.specs.declared.conf.End.{End}
use Rattle.wire_base.specs.declared.conf.RouterConf.{RouterConf}
use Rattle.wire_base.specs.declared.triple.Triple.{Triple}
use Rattle.wire_base.specs.declared.view.First.{First}
use Rattle.wire_base.specs.declared.view.ViewNode.{ViewNode}
use Rattle.wire_base.specs.model.BierHeader.{header_octets}
use Rattle.wire_base.specs.model.Choice.{first_at, is_direct, row}
use Rattle.wire_base.specs.model.Control.{same_system}
use Rattle.wire_base.specs.model.Graph.{IsBefore, node_bift}
use Rattle.wire_base.specs.model.Hop as hops
use Rattle.wire_base.specs.model.Hop.{Outcome}
use Rattle.wire_base.specs.model.Item.{bier_frame, ip_frame}
use Rattle.wire_base.specs.model.OnFrame.{Effects, Packet, next_link, node_place, outcome_done, prefix_of, tunnel_for}
use Rattle.wire_base.specs.model.Place.{bits_of, id_at, own_id, position_in}
use Rattle.wire_base.specs.model.Tunnel.{tunnel}
use Rattle.bift_table.specs.Bift.{router_at}
use Rattle.bier_hop.specs.declared.out.Out.{Out}
use Rattle.bier_hop.specs.declared.out.Out.TheVariants.{Local, Copy, Dropped}
use Rattle.bier_hop.specs.declared.out.Why.{Why}
use Rattle.bier_hop.specs.declared.out.Why.TheVariants.{NoRow, Ttl}
use Rattle.bier_forward.specs.declared.ways.Way.{Way}

-- effects followed by others
abbrev pub after : Effects → Effects → Effects
after a b = record a { sent = a.sent ++ b.sent; got = a.got ++ b.got; drops = a.drops ++ b.drops }

-- an outcome over bit positions as one over BFR-ids
abbrev pub over_ids : Triple → Outcome → Outcome
over_ids t (hops.Local p) = hops.Local (id_at t p)
over_ids t (hops.Copy to ps ttl) = hops.Copy to (map (id_at t) ps) ttl
over_ids t (hops.Expired ps) = hops.Expired (map (id_at t) ps)
over_ids t (hops.NoRow ps) = hops.NoRow (map (id_at t) ps)

-- the node of a system
abbrev pub node_in : List ViewNode → SystemId → Option ViewNode
node_in [] s = None
node_in (n ∷ g) s = if same_system n.system s then Some n else node_in g s

-- nodes in the order of their systems, as those of every view are
abbrev pub AreInOrder : List ViewNode → Type 0
AreInOrder g = AllPairs (λ a b. IsBefore a.system b.system) g

-- the nodes up to an index, and no others, are those of lower systems
pub record IsFirstFrom (g : List ViewNode) (s : SystemId) (place : ℕ) : Type 0 where
  pub low : (i : ℕ) (d : ViewNode) → i < place → IsBefore (slice_index_or g i d).system s
  pub high : (i : ℕ) (d : ViewNode) → place ≤ i → i < length g → IsBefore (slice_index_or g i d).system s → ⊥

-- the index of a router's node, by which it is identified
abbrev pub place_of : List ViewNode → First → ℕ
place_of g f = node_place g f.system

-- the position of the router's own BFR-id, where it has one in a triple's set
abbrev pub own_position : RouterConf → Triple → Option ℕ
own_position r t = option_and_then (position_in t) (own_id r t.sd)

-- what the router does for an outcome over bit positions
abbrev pub given : RouterConf → List ViewNode → Packet → Outcome → Effects
given r g p o = outcome_done r g (node_place g r.system) p (over_ids p.triple o)

-- why positions are dropped
abbrev pub cause_of : Why → Cause
cause_of NoRow = cause.NoRow
cause_of Ttl = cause.Ttl

-- ---- routers to which copies are sent

-- A router of the table is a node of the view, as the router represents it: with the interface toward it, where it is reached
-- directly.
pub record IsNext (r : RouterConf) (g : List ViewNode) (f : First) : Type 0 where
  pub named : first_at r.ends g (node_place g r.system) (place_of g f) ≡ Some f
  pub direct : is_direct g (node_place g r.system) (place_of g f) ≡ is_some f.direct

abbrev pub AreNext : RouterConf → List ViewNode → List (Option First) → Type 0
AreNext r g table = (p : ℕ) (f : First) → router_at table p ≡ Some f → IsNext r g f

-- at each position of a triple the routers to which its bit may be sent
abbrev pub AreRows : RouterConf → List ViewNode → Triple → List (List First) → Type 0
AreRows r g t rows =
    (p : ℕ) → 1 ≤ p → p ≤ bits_of t.bsl → slice_index_or rows (p - 1) [] ≡ row r.kinds r.table r.ends g t (node_place g r.system) p

-- the condition for an outcome
abbrev pub IsDue : {w : ℕ} → RouterConf → List ViewNode → Packet → Out w → Type 0
IsDue r g p (Local bp) = id_at p.triple bp < 65536
IsDue r g p (Copy to set ttl) = IsNext r g to.now
IsDue r g p (Dropped set why) = Unit {0}

-- ---- copies

-- the BIFT-id of a triple at a system's node
abbrev pub bift_toward : RouterConf → List ViewNode → Triple → SystemId → Option ℕ
bift_toward r g t s = option_and_then (node_bift r.kinds r.table t) (node_in g s)

-- the route of a copy over a link, where it has an interface
abbrev pub way_on : RouterConf → ℕ → Option Ipv4 → ℕ → Option Way
way_on r bift tunnel link = option_map (λ e. record { link = link; end = e; bift = bift; tunnel = tunnel }) (slice_get r.ends link)

-- in a tunnel to the router's BFR-prefix, over the interface toward the router
abbrev pub tunnel_way : RouterConf → List ViewNode → Triple → First → ℕ → Option Way
tunnel_way r g t f bift =
    option_and_then
    (λ dst. option_and_then (way_on r bift (Some dst)) (next_link r g (node_place g r.system) (place_of g f)))
    (prefix_of g t.sd (place_of g f))

-- to a neighbor over its interface, to another router in a tunnel
abbrev pub way_by : RouterConf → List ViewNode → Triple → First → ℕ → Option ℕ → Option Way
way_by r g t f bift None = tunnel_way r g t f bift
way_by r g t f bift (Some link) = way_on r bift None link

-- the route of a copy to a router, and the router's BIFT-id, of which 20 bits fit a header
abbrev pub way_at : RouterConf → List ViewNode → Triple → First → Option Way
way_at r g t f = option_and_then (λ bift. way_by r g t f (bift % 2 ^ 20) f.direct) (bift_toward r g t f.system)

-- the octets of a copy's header
unfoldable pub copy_head : Packet → ℕ → List ℕ → ℕ → List ℕ
copy_head p bift positions ttl = header_octets (record p.header { bift = bift; ttl = ttl; positions = positions })

-- the octets of a copy
abbrev pub copy_octets : Packet → ℕ → List ℕ → ℕ → List ℕ
copy_octets p bift positions ttl = copy_head p bift positions ttl ++ p.payload

-- a frame of a copy, in a tunnel from the router or not
abbrev pub frame_in : RouterConf → Packet → End → List ℕ → Option Ipv4 → List ℕ
frame_in r p e octets None = bier_frame e.peer_mac e.own_mac p.kind octets
frame_in r p e octets (Some dst) = ip_frame e.peer_mac e.own_mac (tunnel (tunnel_for r p octets dst))
