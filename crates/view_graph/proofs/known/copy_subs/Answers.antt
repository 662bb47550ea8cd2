use Rattle.std.proofs.Common.{List, [], ◌∷◌, ◌++◌, ap, ◌∙◌, arith}
use Rattle.std.proofs.lemmas.List.{take_all}
use Rattle.wire_base.specs.declared.view.ViewSub.{ViewSub}
use Rattle.view_graph.proofs.ListLaws.{take_one}
use Rattle.view_graph.proofs.known.copy_subs.Goals as goal

pub subs-preserved : goal.subs-preserved
subs-preserved c = c.in_ok-push_copy.ensures ∙ ap (λ (l : List ViewSub). l ++ c.sub-item.result ∷ []) c.subs.invariant ∙ take_one c.args.subs.now c.subs.sub-index c.sub-item.result c.subs-test.true c.sub-item.is

pub returns : goal.returns
returns c = c.subs.invariant ∙ take_all c.subs.sub-index c.args.subs.now (omega (arith, c.subs-test.false))
