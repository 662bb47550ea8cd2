-- Where a router's topology is stored.
use Rattle.std.specs.Prelude.{List}
use Rattle.wire_base.specs.declared.view.ViewNode.{ViewNode}
use Rattle.view_graph.specs.declared.kept_view.Held.{Held}
use Rattle.view_graph.specs.declared.kept_view.Held.TheVariants.{Own, Shared}

-- the nodes of the topology
abbrev pub nodes_in : Held → List ViewNode
nodes_in (Own own) = own.nodes
nodes_in (Shared shared) = shared.value.nodes
