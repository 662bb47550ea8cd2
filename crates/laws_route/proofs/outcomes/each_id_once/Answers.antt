use Rattle.laws_route.proofs.HopLemmas.{hop-partition}
use Rattle.laws_route.proofs.outcomes.each_id_once.Goals as goal

pub returns : goal.returns
returns _ own choose ids ttl k = hop-partition own choose ids ttl k
