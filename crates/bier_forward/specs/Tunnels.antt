-- The routes of tunnels in a view, and a tunnel packet that is forwarded.
use Rattle.std.specs.Prelude.{◌≡◌, ℕ, nat_le, List, length, Option, Some, None, option_and_then, if◌then◌else◌}
use Rattle.wire_base.specs.declared.addresses.Ipv4.{Ipv4}
use Rattle.wire_base.specs.declared.cause.Cause.TheVariants as cause
use Rattle.wire_base.specs.declared.conf.RouterConf.{RouterConf}
use Rattle.wire_base.specs.declared.view.ViewNode.{ViewNode}
use Rattle.wire_base.specs.model.OnFrame.{Effects, dropped, forwarded, next_link, node_place, node_with}
use Rattle.wire_base.specs.model.Tunnel.{TunnelPacket}
use Rattle.bier_tunnel.specs.Ways.{AreWays}
use Rattle.bier_tunnel.specs.declared.ways.Way.{Way}

-- The routes from the router's node, where they were built.
abbrev pub IsBuilt : RouterConf → List ViewNode → Option (List Way) → Type 0
IsBuilt r g None = Unit {0}
IsBuilt r g (Some ways) = AreWays r g (node_place g r.system) ways

-- Where there are none although they were built, the router has no node.
abbrev pub HasNode : RouterConf → List ViewNode → Option (List Way) → Type 0
HasNode r g None = node_place g r.system ≡ length g
HasNode r g (Some ways) = Unit {0}

-- a tunnel packet for another router, at a router with that view
abbrev pub carried_on : RouterConf → List ViewNode → List ℕ → TunnelPacket → Effects
carried_on r g octets t = if nat_le t.ttl 1 then dropped cause.Outer else forwarded r g (node_place g r.system) octets t

-- the link toward the router with a BFR-prefix
abbrev pub link_to_prefix : RouterConf → List ViewNode → Ipv4 → Option ℕ
link_to_prefix r g dst = option_and_then (next_link r g (node_place g r.system)) (node_with g dst)
