use Rattle.std.proofs.Common.{List, sym, ap, ◌∙◌}
use Rattle.std.specs.List.{list_any}
use Rattle.wire_base.specs.declared.view.ViewSub.{ViewSub}
use Rattle.view_graph.specs.Owners.{owner_at, is_several}
use Rattle.view_graph.proofs.OwnerLaws.{none_several}
use Rattle.view_graph.proofs.known.keep_alone.Goals as goal

pub returns-else-one_of_several : goal.returns-else-one_of_several
returns-else-one_of_several c =
    ap (λ (ss : List ViewSub). record c.args.node.now { subs = ss })
    (none_several (λ (s : ViewSub). is_several (owner_at c.args.owners.now s.prefix)) c.args.node.now.subs (ap (list_any (λ (s : ViewSub). is_several (owner_at c.args.owners.now s.prefix))) (sym c.as_slice.ensures) ∙ sym c.one_of_several.ensures ∙ c.if-one_of_several.false))
