-- The routes of a router to the nodes of its view, as stored; and what they determine for a tunnel.
use Rattle.std.specs.Prelude.{◌≡◌, ℕ, ◌+◌, ◌-◌, ◌<◌, ◌==◌, nat_le, Bool, List, [], ◌∷◌, length, map, slice_get, Option, Some, None, option_and_then, if◌then◌else◌}
use Rattle.std.specs.List.{list_any}
use Rattle.std.specs.Str.{bytes_eq}
use Rattle.wire_base.specs.declared.addresses.Ipv4.{Ipv4}
use Rattle.wire_base.specs.declared.addresses.SystemId.{SystemId}
use Rattle.wire_base.specs.declared.conf.End.{End}
use Rattle.wire_base.specs.declared.conf.RouterConf.{RouterConf}
use Rattle.wire_base.specs.declared.view.ViewNode.{ViewNode}
use Rattle.wire_base.specs.declared.view.ViewSub.{ViewSub}
use Rattle.wire_base.specs.model.Choice.{end_toward, is_system}
use Rattle.wire_base.specs.model.Graph.{IsGraph}
use Rattle.wire_base.specs.model.Tight.{next_step}
use Rattle.gre_ip.specs.declared.tunnel.Tunnel.{Tunnel}
use Rattle.bier_tunnel.specs.declared.next.Next.{Next}
use Rattle.bier_tunnel.specs.declared.next.Next.TheVariants.{Leave, On, Outer, Route}
use Rattle.bier_tunnel.specs.declared.ways.SubPrefix.{SubPrefix}
use Rattle.bier_tunnel.specs.declared.ways.Way.{Way}

-- the interface toward a node
abbrev pub end_of : List End → List ViewNode → ℕ → Option ℕ
end_of ends g y = option_and_then (λ n. end_toward ends n.system) (slice_get g y)

abbrev pub own_prefix : ViewSub → SubPrefix
own_prefix s = record { sd = s.sd; prefix = s.prefix }

-- the route to a node whose first step is known
abbrev pub way_to : List End → List ViewNode → Option ℕ → ViewNode → Way
way_to ends g step n = record { system = n.system; link = option_and_then (end_of ends g) step; prefixes = map own_prefix n.subs }

-- the routes to the nodes from an index on
abbrev pub ways_from : List End → List ViewNode → (ℕ → Option ℕ) → ℕ → List ViewNode → List Way
ways_from ends g step x [] = []
ways_from ends g step x (n ∷ ns) = way_to ends g (step x) n ∷ ways_from ends g step (x + 1) ns

-- the routes from u: each over the tight step with the least system ID
unfoldable pub ways : List End → List ViewNode → ℕ → List Way
ways ends g u = ways_from ends g (λ x. next_step g x u) 0 g

-- these are the routes of a router whose node in the view g is u
pub record AreWays (r : RouterConf) (g : List ViewNode) (u : ℕ) (kept : List Way) : Type 0 where
  pub graph : IsGraph g
  pub within : u < length g
  pub are : kept ≡ ways r.ends g u

-- the route to a system
abbrev pub way_of : List Way → SystemId → Option Way
way_of [] s = None
way_of (w ∷ ws) s = if is_system w.system s then Some w else way_of ws s

-- its link
abbrev pub link_to : List Way → SystemId → Option ℕ
link_to kept s = option_and_then (λ w. w.link) (way_of kept s)

-- the prefix in a sub-domain
abbrev pub prefix_in : List SubPrefix → ℕ → Option Ipv4
prefix_in [] sd = None
prefix_in (p ∷ ps) sd = if p.sd == sd then Some p.prefix else prefix_in ps sd

-- that of a system
abbrev pub prefix_to : List Way → SystemId → ℕ → Option Ipv4
prefix_to kept s sd = option_and_then (λ w. prefix_in w.prefixes sd) (way_of kept s)

abbrev pub has_prefix : List SubPrefix → Ipv4 → Bool
has_prefix ps prefix = list_any (λ p. bytes_eq p.prefix.0 prefix.0) ps

-- the link of the route to a prefix
abbrev pub link_with : List Way → Ipv4 → Option ℕ
link_with [] prefix = None
link_with (w ∷ ws) prefix = if has_prefix w.prefixes prefix then w.link else link_with ws prefix

-- what the router with that BFR-prefix does with a tunnel packet, where the route to its destination has that link
abbrev pub next_on : ℕ → Option ℕ → Next
next_on ttl None = Route
next_on ttl (Some link) = On link (ttl - 1)

abbrev pub next_of : Ipv4 → Tunnel → Option ℕ → Next
next_of own t link = if bytes_eq t.dst.0 own.0 then Leave else if nat_le t.ttl 1 then Outer else next_on t.ttl link
