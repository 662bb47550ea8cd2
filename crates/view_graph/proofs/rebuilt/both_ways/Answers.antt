use Rattle.std.proofs.Common.{Bool, sym, ap, ◌∙◌, arith, filter}
use Rattle.std.proofs.lemmas.List.{take_all}
use Rattle.wire_base.specs.declared.view.ViewEdge.{ViewEdge}
use Rattle.view_graph.specs.Renewal.{lists_at, said_now}
use Rattle.view_graph.proofs.ListLaws.{passes_at, fails_at}
use Rattle.view_graph.proofs.rebuilt.both_ways.Goals as goal
use Rattle.view_graph.proofs.rebuilt.both_ways.Goals.{then-branch+in_ok-push, else-branch}

pub edges-preserved : goal.edges-preserved
edges-preserved c =
    let p : ViewEdge → Bool = λ e. lists_at (said_now c.args.conf.now c.args.up.now c.args.store.now.entries) c.args.nodes.now e.to c.args.system.now in
    elim c.if-branch.branch [
      | then-branch+in_ok-push w ↦ passes_at p c.args.halves.now c.edges.edge-index _ c.edges.edges c.if-branch.edges c.edges-test.true c.edges.invariant (w.edges-is ∙ w.in_ok-push.ensures.ok) (sym c.in_ok-lists_at.ensures ∙ w.if-branch.true)
      | else-branch w ↦ w.edges-is ∙ fails_at p c.args.halves.now c.edges.edge-index _ c.edges.edges c.edges-test.true c.edges.invariant (sym c.in_ok-lists_at.ensures ∙ w.if-branch.false)
    ]

pub returns : goal.returns
returns c = c.edges.invariant ∙ ap (filter (λ (e : ViewEdge). lists_at (said_now c.args.conf.now c.args.up.now c.args.store.now.entries) c.args.nodes.now e.to c.args.system.now)) (take_all c.edges.edge-index c.args.halves.now (omega (arith, c.edges-test.false)))
