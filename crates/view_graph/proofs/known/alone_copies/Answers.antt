use Rattle.std.proofs.Common.{Bool, not, filter, sym, ap, arith, ◌∙◌}
use Rattle.std.proofs.lemmas.List.{take_all}
use Rattle.wire_base.specs.declared.view.ViewSub.{ViewSub}
use Rattle.view_graph.specs.Owners.{owner_at, is_several}
use Rattle.view_graph.proofs.ListLaws.{passes_one, fails_one}
use Rattle.view_graph.proofs.known.alone_copies.Goals as goal
use Rattle.view_graph.proofs.known.alone_copies.Goals.{then-not-is_several+in_ok-push_copy, else-not-is_several}

pub subs-preserved : goal.subs-preserved
subs-preserved c =
    let p : ViewSub → Bool = λ s. not (is_several (owner_at c.args.owners.now s.prefix)) in
    elim c.if-not-is_several.branch [
      | then-not-is_several+in_ok-push_copy w ↦ passes_one p c.args.subs.now c.subs.sub-index c.sub-item.result c.subs.kept c.if-not-is_several.kept c.subs-test.true c.sub-item.is c.subs.invariant (w.kept-is ∙ w.in_ok-push_copy.ensures) (ap not (sym c.is_several.ensures ∙ w.if-not-is_several.true))
      | else-not-is_several w ↦ w.kept-is ∙ fails_one p c.args.subs.now c.subs.sub-index c.sub-item.result c.subs.kept c.subs-test.true c.sub-item.is c.subs.invariant (ap not (sym c.is_several.ensures ∙ w.if-not-is_several.false))
    ]

pub returns : goal.returns
returns c =
    c.subs.invariant ∙ ap (filter (λ (s : ViewSub). not (is_several (owner_at c.args.owners.now s.prefix)))) (take_all c.subs.sub-index c.args.subs.now (omega (arith, c.subs-test.false)))
