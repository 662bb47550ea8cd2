use Rattle.std.proofs.Common.{◌≡◌, List, length, false, arith, sym, ap, ◌∙◌}
use Rattle.bift_table.specs.declared.neighbour.Neighbour.{Neighbour}
use Rattle.bift_table.specs.Neighbours.{number_in}
use Rattle.bift_table.proofs.NeighbourLaws.{is_known, given-found, given-new, number-new}
use Rattle.bift_table.proofs.neighbour.give.Goals as goal
use Rattle.bift_table.proofs.neighbour.give.Given.{Over}

pub returns-in-Some-clause-given : goal.returns-in-Some-clause-given
returns-in-Some-clause-given g c =
    let known = ap (λ (l : List (Neighbour g.row.W)). is_known c.args.to.now l) (sym c.deref.ensures.value) ∙ c.in-Some.ensures.0 in
    let number = c.in-Some.ensures.1 ∙ ap (λ (l : List (Neighbour g.row.W)). number_in c.args.to.now l) c.deref.ensures.value in
    rw c.set.ensures (given-found c.args.neighbours.now.items c.args.to.now c.index_mut.result.now c.args.bp c.in-Some.number known number c.index_mut.ensures.value)

none : (g : Over) (c : goal.In_ok-push g) → is_known c.args.to.now c.args.neighbours.now.items ≡ false
none g c = ap (λ (l : List (Neighbour g.row.W)). is_known c.args.to.now l) (sym c.deref.ensures.value) ∙ c.in_default.ensures

pub returns-clause-number : goal.returns-clause-number
returns-clause-number g c = omega (arith, c.len-number.ensures, c.deref.ensures.len, ap length c.deref.ensures.value, number-new c.args.neighbours.now.items c.args.to.now (none g c))

pub returns-clause-given : goal.returns-clause-given
returns-clause-given g c = c.in_ok-push.ensures.items ∙ rw (c.set-2.ensures, c.zero-mask.ensures) (given-new c.args.neighbours.now.items c.args.to.now c.args.bp (none g c))
