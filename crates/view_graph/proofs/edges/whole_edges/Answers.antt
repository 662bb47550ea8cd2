use Rattle.std.proofs.Common.{[], Bool, slice_index_or, sym, ap, ◌∙◌, arith, filter}
use Rattle.std.proofs.lemmas.List.{take_all}
use Rattle.wire_base.specs.declared.view.ViewEdge.{ViewEdge}
use Rattle.view_graph.specs.Edges.{leads_to}
use Rattle.view_graph.proofs.ListLaws.{passes_at, fails_at}
use Rattle.view_graph.proofs.edges.whole_edges.Goals as goal
use Rattle.view_graph.proofs.edges.whole_edges.Goals.{then-leads_to+in_ok-push, else-leads_to}

pub edges-preserved : goal.edges-preserved
edges-preserved c =
    let p : ViewEdge → Bool = λ e. leads_to c.args.place (slice_index_or c.args.halves.now e.to []) in
    let is = ap (leads_to c.args.place) (sym c.halves_at.ensures) ∙ sym c.leads_to.ensures in
    elim c.if-leads_to.branch [
      | then-leads_to+in_ok-push w ↦ passes_at p c.halves_at-own.result.now c.edges.edge-index _ c.edges.edges c.if-leads_to.edges c.edges-test.true c.edges.invariant (w.edges-is ∙ w.in_ok-push.ensures.ok) (is ∙ w.if-leads_to.true)
      | else-leads_to w ↦ w.edges-is ∙ fails_at p c.halves_at-own.result.now c.edges.edge-index _ c.edges.edges c.edges-test.true c.edges.invariant (is ∙ w.if-leads_to.false)
    ]

pub returns : goal.returns
returns c =
    c.edges.invariant ∙ ap (filter (λ (e : ViewEdge). leads_to c.args.place (slice_index_or c.args.halves.now e.to []))) (take_all c.edges.edge-index c.halves_at-own.result.now (omega (arith, c.edges-test.false)) ∙ c.halves_at-own.ensures)
