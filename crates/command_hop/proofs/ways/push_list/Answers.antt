use Rattle.wire_base.specs.declared.view.First.{First}
use Rattle.wire_base.specs.FirstLists.{extend_last}
use Rattle.wire_base.proofs.FirstListLaws.{extend_new}
use Rattle.std.proofs.Common.{◌≡◌, ◌∷◌, ◌++◌, [], Some, sym, ap, ◌∙◌}
use Rattle.command_hop.specs.Forward.{name_of}
use Rattle.command_hop.proofs.WayLaws.{listed}
use Rattle.command_hop.proofs.ways.push_list.Goals as goal

pub returns-in_ok-push-clause-listed : goal.returns-in_ok-push-clause-listed
returns-in_ok-push-clause-listed c =
    let first : First = c.neighbour.result in
    let its : name_of c.args.rows.now c.args.p ≡ Some c.in-Some.name.now = sym c.in-Some.ensures in
    let pushed : c.push.new.self ≡ c.args.lists.now ++ (first ∷ []) ∷ [] = c.in_ok-push.ensures.ok ∙ ap (extend_last first) c.in_ok-begin.ensures.ok ∙ extend_new c.args.lists.now [] first in
    (first ∷ [], pushed, listed c.args.rows.now c.args.names.now c.number_for.new.names c.args.p c.in_ok-n.n c.in-Some.name.now (first ∷ []) its c.in_ok-n.ensures.names c.in_ok-n.ensures.number (ap (λ (f : First). f ∷ []) c.neighbour.ensures))
