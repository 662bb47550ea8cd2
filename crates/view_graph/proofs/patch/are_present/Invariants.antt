use Rattle.std.proofs.Common.{take}
use Rattle.std.specs.List.{AllByRecursion}
use Rattle.view_graph.specs.Renewal.{IsAt}
use Rattle.view_graph.proofs.patch.are_present.Given as goal

abbrev pub invariant-anew : goal.invariant-anew
invariant-anew l = AllByRecursion (IsAt l.nodes) (take l.at l.anew)
