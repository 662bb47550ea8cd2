use Rattle.std.proofs.Common.{◌≡◌, [], drop}
use Rattle.bift_table.specs.Neighbours.{union_from}
use Rattle.bift_table.proofs.neighbour.routed_by.Given as goal

abbrev pub invariant-loop-neighbour : goal.invariant-loop-neighbour
invariant-loop-neighbour g l = union_from l.routed (drop l.neighbour-index l.neighbours) ≡ union_from [] l.neighbours
