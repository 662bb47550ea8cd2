use Rattle.laws_route.proofs.DescentLemmas.{dist-least, dist-over}
use Rattle.laws_route.proofs.WalkLemmas.{at-most-of}
use Rattle.wire_base.specs.model.Walk.{dist, cost}
use Rattle.std.proofs.Common.{◌+◌}
use Rattle.laws_route.proofs.distances.walks_bound.Goals as goal

pub returns-clause-walk : goal.returns-clause-walk
returns-clause-walk _ g u d es good node leads =
    let w = dist-least g good u d node es leads in
    at-most-of (dist g u d) w.0 (cost es) w.1 w.2

pub returns-clause-edge : goal.returns-clause-edge
returns-clause-edge _ g u d m e good node there enters q =
    let w = dist-over g good u d m e node there enters q in
    at-most-of (dist g u d) w.0 (e.metric + m) w.1 w.2
