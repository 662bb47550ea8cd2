use Rattle.std.proofs.Common.{◌≡◌, ◌++◌, length}
use Rattle.bier_hop.specs.Outcomes.{left}
use Rattle.command_hop.specs.Ways.{chosen, texts}
use Rattle.command_hop.proofs.forward.put_left.Given as goal

abbrev pub invariant-outcomes : goal.invariant-outcomes
invariant-outcomes g l = record {
  table : l.hop.table ≡ l.initial.hop.table;
  texts : l.out ++ (l.block ++ texts l.line l.names (left (chosen l.initial.hop.table) l.hop)) ≡ l.initial.out ++ (l.initial.block ++ texts l.line l.names (left (chosen l.initial.hop.table) l.initial.hop));
}

abbrev pub decreases-outcomes : goal.decreases-outcomes
decreases-outcomes g l = length l.hop.rest
