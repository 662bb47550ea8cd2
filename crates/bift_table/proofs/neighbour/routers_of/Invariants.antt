use Rattle.std.proofs.Common.{◌≡◌, map, take}
use Rattle.bift_table.proofs.neighbour.routers_of.Given as goal

abbrev pub invariant-loop-neighbour : goal.invariant-loop-neighbour
invariant-loop-neighbour g l = l.routers.items ≡ map (λ n. n.to) (take l.neighbour-index l.neighbours)
