use Rattle.std.proofs.Common.{ap, subst, ◌∙◌}
use Rattle.wire_base.specs.model.Graph.{Graph, IsGraph}
use Rattle.topo_mt.specs.Topology.{nodes_without}
use Rattle.topo_mt.proofs.WithoutLaws.{without_graph}
use Rattle.topo_mt.proofs.graph.without_system.Goals as goal

pub invariant_of-result : goal.invariant_of-result
invariant_of-result c =
    without_graph c.in-Some.place c.args.view.nodes c.from_vec.result (rw c.as_slice.ensures.nodes at c.in-Some.ensures.within) (subst IsGraph c.as_slice.ensures.nodes c.as_slice.ensures.graph)
    (c.from_vec.ensures ∙ c.in_ok-nodes.ensures ∙ ap (nodes_without c.in-Some.place) (c.into_vec.ensures ∙ ap (λ (g : Graph). g.nodes) c.view.view_is))
