use Rattle.laws_route.proofs.DescentLemmas.{dist-edge}
use Rattle.laws_route.proofs.distances.tight_steps_exist.Goals as goal

pub returns : goal.returns
returns _ g u d n good node other q = dist-edge g good u d n node other q
