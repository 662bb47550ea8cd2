use Rattle.std.proofs.Common.{map, ap, arith, ◌∙◌}
use Rattle.std.proofs.lemmas.List.{take_all}
use Rattle.wire_base.specs.model.View.{Claim}
use Rattle.view_graph.specs.Edges.{half_edges, half_edges_of, metrics_to}
use Rattle.view_graph.proofs.ListLaws.{map_one}
use Rattle.view_graph.proofs.edges.half_edges_by.Goals as goal

pub systems-preserved : goal.systems-preserved
systems-preserved c =
    map_one (half_edges_of c.args.claims.now) c.args.claims.now c.systems.claim-index c.claim-item.result _ c.systems.halves.items c.push_half_edges.new.halves.items c.systems-test.true c.claim-item.is c.systems.invariant c.in_ok-push_half_edges.ensures
    (ap (λ ls. half_edges 0 (metrics_to ls c.args.claims.now)) (c.as_slice.ensures ∙ ap (λ (x : Claim). x.links) c.claim.view_is))

pub returns : goal.returns
returns c = c.systems.invariant ∙ ap (map (half_edges_of c.args.claims.now)) (take_all c.systems.claim-index c.args.claims.now (omega (arith, c.systems-test.false)))
