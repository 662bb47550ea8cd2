-- Where a router forwards a tunnel, and what it does with the tunnel's packet.
use Rattle.std.specs.Prelude.{◌≡◌, ℕ, ◌+◌, ◌<◌, ◌≤◌, ◌⊎◌, true, List, length, is_some, Option, Some, None}
use Rattle.std.specs.List.{AllByRecursion}
use Rattle.wire_base.specs.declared.cause.Cause.TheVariants as cause
use Rattle.wire_base.specs.declared.conf.RouterConf.{RouterConf}
use Rattle.wire_base.specs.declared.view.ViewNode.{ViewNode}
use Rattle.wire_base.specs.model.Graph.{edges_of}
use Rattle.wire_base.specs.model.HopCount.{tunnel_links}
use Rattle.wire_base.specs.model.Item.{ip_frame}
use Rattle.wire_base.specs.model.OnFrame.{Effects, dropped, link_to, nothing, or_no_route, outer_ttl, sent_on}
use Rattle.wire_base.specs.model.Tight.{IsTight}
use Rattle.wire_base.specs.model.Tunnel.{tunnel_on}
use Rattle.wire_base.specs.model.Walk.{dist}
use Rattle.laws_route.specs.Nearer.{Nearer}
use Rattle.bier_tunnel.specs.declared.next.Next.{Next}
use Rattle.bier_tunnel.specs.declared.next.Next.TheVariants.{Leave, On, Outer, Route}

-- each edge of the router's own node leads to the peer of one of its interfaces
abbrev pub LeadsToEnds : RouterConf → List ViewNode → ℕ → Type 0
LeadsToEnds r g u = AllByRecursion (λ e. is_some (link_to r g e.to) ≡ true) (edges_of g u)

-- no walk leads from u to x, or x is u
abbrev pub IsNoWay : List ViewNode → ℕ → ℕ → Type 0
IsNoWay g u x = (x ≡ u) ⊎ (dist g u x ≡ None)

-- the same for a node that may not exist
abbrev pub IsNoWayTo : List ViewNode → ℕ → Option ℕ → Type 0
IsNoWayTo g u None = Unit {0}
IsNoWayTo g u (Some x) = IsNoWay g u x

-- From u tunnels to x are sent over that link, on a tight step to a node that is nearer to x. Over each router's step they reach
-- x, and from the next node that is one link less; there are fewer links than nodes.
pub record LeadsOver (r : RouterConf) (g : List ViewNode) (u x link : ℕ) : Type 0 where
  pub next : ℕ
  pub step : IsTight g x u next
  pub over : link_to r g next ≡ Some link
  pub nearer : Nearer g x u next
  pub left : ℕ
  pub here : tunnel_links g x u ≡ Some (left + 1)
  pub there : tunnel_links g x next ≡ Some left
  pub few : left + 1 < length g

-- a tunnel from u to x has no more links than its outer TTL covers
pub record Lasts (g : List ViewNode) (u x : ℕ) : Type 0 where
  pub links : ℕ
  pub are : tunnel_links g x u ≡ Some links
  pub few : links ≤ outer_ttl

-- what is forwarded over a link
abbrev pub GoesOver : (ℕ → Type 0) → Next → Type 0
GoesOver P Leave = Unit {0}
GoesOver P (On link ttl) = P link
GoesOver P Outer = Unit {0}
GoesOver P Route = Unit {0}

-- what a router sends and drops of a tunnel packet, given its decision
abbrev pub passed_on : RouterConf → List ℕ → Next → Effects
passed_on r octets Leave = nothing
passed_on r octets (On link ttl) = or_no_route (sent_on r (Some link) (λ e. ip_frame e.peer_mac e.own_mac (tunnel_on octets ttl)))
passed_on r octets Outer = dropped cause.Outer
passed_on r octets Route = dropped cause.Route
