use Rattle.std.proofs.Common.{sym, ap, ◌∙◌}
use Rattle.bift_table.specs.declared.neighbour.Neighbour.{Neighbour}
use Rattle.bift_table.specs.Bift.{same_router}
use Rattle.bift_table.proofs.NeighbourLaws.{only_number}
use Rattle.bift_table.proofs.neighbour.number_near.Goals as goal

pub returns-then-is_same_router : goal.returns-then-is_same_router
returns-then-is_same_router g c =
    only_number c.args.neighbours.now c.args.to.now c.index-neighbours-last.result c.args.last c.requires c.if-last-neighbours.true c.index-neighbours-last.is
    (ap (λ (n : Neighbour g.row.W). same_router n.to c.args.to.now) c.index-neighbours-last.is ∙ sym c.if-is_same_router.ensures)
