-- The path of a BFR-id: how many hops it has, and how many links its longest tunnel has (RFC 8279, 6.5, 6.7 and 6.9).
use Rattle.std.specs.Prelude.{ℕ, zero, suc, ◌+◌, max, Bool, List, [], ◌∷◌, length, Option, Some, None, option_map, option_and_then, unwrap_or, if◌then◌else◌}
use Rattle.wire_base.specs.declared.addresses.SystemId.{SystemId}
use Rattle.wire_base.specs.declared.conf.SubKind.{SubKind}
use Rattle.wire_base.specs.declared.conf.TableRow.{TableRow}
use Rattle.wire_base.specs.declared.triple.Triple.{Triple}
use Rattle.wire_base.specs.declared.view.ViewNode.{ViewNode}
use Rattle.wire_base.specs.model.Choice.{choose, is_direct}
use Rattle.wire_base.specs.model.Control.{same_system}
use Rattle.wire_base.specs.model.Graph.{has_id_at}
use Rattle.wire_base.specs.model.HopCount.{tunnel_links}
use Rattle.quiet_domain.specs.declared.path.Way.{Way}

-- the index of the node of a system
abbrev pub node_of : List ViewNode → SystemId → Option ℕ
node_of [] s = None
node_of (n ∷ g) s = if same_system n.system s then Some 0 else option_map (λ x. x + 1) (node_of g s)

-- how many links a hop from u to x has in a tunnel: 0 if x is reached directly
unfoldable pub links_over : List ViewNode → ℕ → ℕ → ℕ
links_over g u x = if is_direct g u x then 0 else unwrap_or (tunnel_links g x u) 0

-- one more hop before a path
abbrev pub hop_before : ℕ → Way → Way
hop_before links w = record { hops = 1 + w.hops; longest = max links w.longest }

abbrev pub no_hop : Way
no_hop = record { hops = 0; longest = 0 }

-- the path from u to the first node that passes the test, where next is followed at most k times
abbrev pub way_by : (ℕ → Option ℕ) → (ℕ → Bool) → (ℕ → ℕ → ℕ) → ℕ → ℕ → Option Way
way_by next ends links zero u = if ends u then Some no_hop else None
way_by next ends links (suc k) u =
    if ends u then Some no_hop else option_and_then (λ x. option_map (hop_before (links u x)) (way_by next ends links k x)) (next u)

-- the path from u to the owner of the BFR-id k, by the choice of each node
unfoldable pub way_to : List ViewNode → List SubKind → List TableRow → Triple → ℕ → ℕ → ℕ → Option Way
way_to g kinds table t class k u = way_by (λ x. choose g kinds table t class x k) (has_id_at g t.sd k) (links_over g) (length g) u
