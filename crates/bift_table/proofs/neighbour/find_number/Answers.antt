use Rattle.std.proofs.Common.{sym, ap, ◌∙◌}
use Rattle.bift_table.specs.declared.neighbour.Neighbour.{Neighbour}
use Rattle.bift_table.specs.Bift.{same_router}
use Rattle.bift_table.proofs.NeighbourLaws.{found_number}
use Rattle.bift_table.proofs.neighbour.find_number.Goals as goal

pub returns-then-is_same_router : goal.returns-then-is_same_router
returns-then-is_same_router g c =
    found_number c.args.neighbours.now c.args.to.now c.index-neighbours-number.result c.loop-number.number c.loop-number-test.true c.loop-number.invariant c.index-neighbours-number.is
    (ap (λ (n : Neighbour g.row.W). same_router n.to c.args.to.now) c.index-neighbours-number.is ∙ sym c.if-is_same_router.ensures)
