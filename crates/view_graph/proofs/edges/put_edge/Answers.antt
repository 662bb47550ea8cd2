use Rattle.std.proofs.Common.{ℕ, List, drop, length, set, slice_index_or, sym, ap, ◌∙◌}
use Rattle.wire_base.specs.declared.view.ViewEdge.{ViewEdge}
use Rattle.view_graph.specs.Edges.{edge_place, leads_at}
use Rattle.view_graph.proofs.EdgeLaws.{put_at, put_last, put_new_at, read_again}
use Rattle.view_graph.proofs.edges.put_edge.Goals as goal

pub returns-then-leads_at : goal.returns-then-leads_at
returns-then-leads_at c =
    let es = c.as_slice-present.result.now in
    let place = c.edge_place-place.result in
    let none : ViewEdge = record { to = 0; metric = 0 } in
    let e : ViewEdge = slice_index_or es place none in
    c.put.ensures ∙ ap (λ n. set c.args.edges.now place (edge c.args.to n)) c.min-least.ensures
    ∙ put_at c.args.edges.now place c.args.to c.args.metric e (c.edge_place-place.ensures.place ∙ ap (edge_place c.args.to) c.as_slice-present.ensures)
    (sym (c.leads_at.ensures ∙ ap (λ xs. leads_at c.args.to (drop place xs)) c.as_slice-present.ensures) ∙ c.if-leads_at.true) (read_again es place none ∙ ap (λ (xs : List ViewEdge). slice_index_or xs place e) c.as_slice-present.ensures)
  where
    edge : ℕ → ℕ → ViewEdge
    edge to m = record { to = to; metric = m }

pub returns : goal.returns
returns c =
    c.in_ok-insert.ensures.ok
    ∙ put_new_at c.args.edges.now c.edge_place-place.result c.args.to c.args.metric (c.edge_place-place.ensures.place ∙ ap (edge_place c.args.to) c.as_slice-present.ensures)
    (sym (c.leads_at.ensures ∙ ap (λ xs. leads_at c.args.to (drop c.edge_place-place.result xs)) c.as_slice-present.ensures) ∙ c.if-leads_at.false)

pub returns-then-place-present : goal.returns-then-place-present
returns-then-place-present c =
    c.in_ok-push.ensures.ok
    ∙ put_last c.args.edges.now c.edge_place-place.result c.args.to c.args.metric (c.edge_place-place.ensures.place ∙ ap (edge_place c.args.to) c.as_slice-present.ensures) (c.if-place-present.true ∙ ap (λ (es : List ViewEdge). length es) c.as_slice-present.ensures)
