use Rattle.bift_table.specs.Bift.{table_of}
use Rattle.bift_table.proofs.NeighbourLaws.{IsDrawn}
use Rattle.bift_table.proofs.build.draw.Given as goal

abbrev pub invariant-loop-place : goal.invariant-loop-place
invariant-loop-place g l = IsDrawn (table_of l.lists l.class) l.place l.drawn.neighbours.items l.drawn.numbers.items
