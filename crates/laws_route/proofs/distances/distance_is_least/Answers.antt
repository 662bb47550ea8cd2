use Rattle.std.proofs.Common.{length, arith, ◌-◌}
use Rattle.wire_base.specs.model.Walk.{dist}
use Rattle.laws_route.proofs.WalkLemmas.{best-IsDist}
use Rattle.laws_route.proofs.distances.distance_is_least.Goals as goal

pub returns-clause-exists : goal.returns-clause-exists
unfolding dist
returns-clause-exists _ g u d within = best-IsDist g d u (length g - 1) (omega arith)
