use Rattle.std.proofs.Common.{◌-◌}
use Rattle.bier_forward.proofs.NodeLaws.{IsBetween}
use Rattle.bier_forward.proofs.bift.place_from.Given as goal

abbrev pub invariant-halves : goal.invariant-halves
invariant-halves l = IsBetween l.nodes l.fn.system l.from l.to

abbrev pub decreases-halves : goal.decreases-halves
decreases-halves l = l.to - l.from
