use Rattle.laws_route.proofs.LastLemmas.{dist-last}
use Rattle.laws_route.proofs.distances.last_edges_exist.Goals as goal

pub returns : goal.returns
returns _ g u d n good node apart q =
    let w = dist-last g good u d n node apart q in
    (w.from, w.edge, w.rest, w.there, w.ends, w.known, w.sum)
