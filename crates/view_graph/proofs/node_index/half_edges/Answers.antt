use Rattle.std.proofs.Common.{List, take, ap, arith, ◌∙◌}
use Rattle.std.proofs.lemmas.List.{take_all}
use Rattle.wire_base.specs.model.View.{Link}
use Rattle.view_graph.specs.Edges.{half_edges, metrics_to}
use Rattle.view_graph.specs.Renewal.{node_claims}
use Rattle.view_graph.proofs.EdgeLaws.{none_listed}
use Rattle.view_graph.proofs.ListLaws.{take_one}
use Rattle.view_graph.proofs.node_index.half_edges.Goals as goal

pub links-init : goal.links-init
links-init c = c.new-edges.ensures ∙ none_listed 0 (node_claims c.args.nodes.now)

pub links-preserved : goal.links-preserved
links-preserved c = c.in_ok-count.ensures (take c.links.link-index c.args.links.now) c.links.invariant ∙ ap (λ (ls : List Link). half_edges 0 (metrics_to ls (node_claims c.args.nodes.now))) (take_one c.args.links.now c.links.link-index c.link-item.result c.links-test.true c.link-item.is)

pub returns : goal.returns
returns c = c.links.invariant ∙ ap (λ (ls : List Link). half_edges 0 (metrics_to ls (node_claims c.args.nodes.now))) (take_all c.links.link-index c.args.links.now (omega (arith, c.links-test.false)))
