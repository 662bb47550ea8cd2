use Rattle.std.proofs.Common.{refl, sym, ◌∙◌, arith}
use Rattle.view_graph.specs.Renewal.{node_claims}
use Rattle.view_graph.proofs.NodeClaimLaws.{seats_long}
use Rattle.view_graph.proofs.EdgeLaws.{stands_within, count_put, count_not}
use Rattle.view_graph.proofs.node_index.count.Goals as goal

pub overflow_cast-place : goal.overflow_cast-place
overflow_cast-place c = omega (arith, stands_within (node_claims c.args.nodes.now) c.index_of-place.result c.link.inside.neighbour (sym c.is_at.ensures ∙ c.if-not-is_at.false), c.requires.few, seats_long c.args.nodes.now)

pub returns-then-not-is_at : goal.returns-then-not-is_at
returns-then-not-is_at c = λ links before.
    count_not links (record { neighbour = c.link.inside.neighbour; metric = c.link.inside.metric }) c.args.link.now (node_claims c.args.nodes.now) c.index_of-place.result c.args.edges.now c.link.view_is c.requires.order c.index_of-place.ensures (sym c.is_at.ensures ∙ c.if-not-is_at.true) before

pub returns : goal.returns
returns c = λ links before.
    count_put links (record { neighbour = c.link.inside.neighbour; metric = c.link.inside.metric }) c.args.link.now (node_claims c.args.nodes.now) c.index_of-place.result c.link.inside.metric c.args.edges.now c.put_edge.new.edges c.link.view_is c.requires.order c.index_of-place.ensures (sym c.is_at.ensures ∙ c.if-not-is_at.false) refl before c.in_ok-put_edge.ensures
