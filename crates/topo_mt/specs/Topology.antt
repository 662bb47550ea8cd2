-- A topology is what the observer sees of an LSDB with only what it says of that topology, without the observer's own node.
use Rattle.std.specs.Prelude.{◌≡◌, ℕ, ◌-◌, ◌==◌, nat_lt, not, List, [], map, filter, position, Option, Some, None, if◌then◌else◌}
use Rattle.std.specs.List.{remove}
use Rattle.wire_base.specs.declared.addresses.SystemId.{SystemId}
use Rattle.wire_base.specs.declared.entry.Entry.{Entry}
use Rattle.wire_base.specs.declared.view.ViewEdge.{ViewEdge}
use Rattle.wire_base.specs.declared.view.ViewNode.{ViewNode}
use Rattle.wire_base.specs.model.Control.{same_system}
use Rattle.wire_base.specs.model.View.{view_of}
use Rattle.wire_base.specs.model.Walk.{IsDist, dist}
use Rattle.topo_mt.specs.MultiTopology.{projected}
use Rattle.topo_mt.specs.Observer.{no_system, observer}

-- ---- a graph without one of its nodes

-- the index of a system's node
unfoldable pub place_of : SystemId → List ViewNode → Option ℕ
place_of s nodes = position (λ n. same_system n.system s) nodes

-- an edge by the indices without the node at p: those behind it are one less
abbrev pub moved : ℕ → ViewEdge → ViewEdge
moved p e = if nat_lt p e.to then record { to = e.to - 1; metric = e.metric } else e

abbrev pub edges_without : ℕ → List ViewEdge → List ViewEdge
edges_without p edges = map (moved p) (filter (λ e. not (e.to == p)) edges)

abbrev pub node_without : ℕ → ViewNode → ViewNode
node_without p n = record n { edges = edges_without p n.edges }

-- no node at p, and no edge to it
unfoldable pub nodes_without : ℕ → List ViewNode → List ViewNode
nodes_without p nodes = map (node_without p) (remove nodes p)

abbrev pub without_at : Option ℕ → List ViewNode → List ViewNode
without_at None nodes = nodes
without_at (Some p) nodes = nodes_without p nodes

-- without the node of a system, where it has one
unfoldable pub without_system : SystemId → List ViewNode → List ViewNode
without_system s nodes = without_at (place_of s nodes) nodes

-- ---- the topology

unfoldable pub topology_of : ℕ → List Entry → List ViewNode
topology_of mt entries = without_system no_system (view_of observer [] (projected mt entries))

-- ---- costs

-- the distance from a node, none where there is no such node
abbrev pub IsCost : List ViewNode → Option ℕ → ℕ → Option ℕ → Type 0
IsCost g None d cost = cost ≡ None
IsCost g (Some u) d cost = IsDist g u d cost

-- the same as a function
abbrev pub cost_at : List ViewNode → Option ℕ → ℕ → Option ℕ
cost_at g None d = None
cost_at g (Some u) d = dist g u d

unfoldable pub cost_from : List ViewNode → SystemId → ℕ → Option ℕ
cost_from g from d = cost_at g (place_of from g) d
