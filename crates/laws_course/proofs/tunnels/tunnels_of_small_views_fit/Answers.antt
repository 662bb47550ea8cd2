use Rattle.laws_course.proofs.KnownLaws.{few_nodes}
use Rattle.laws_course.proofs.TunnelLaws.{small_covers, small_fit}
use Rattle.laws_course.proofs.tunnels.tunnels_of_small_views_fit.Goals as goal

pub returns-clause-way : goal.returns-clause-way
returns-clause-way _ g next u few = small_fit g next u few

pub returns-clause-covers : goal.returns-clause-covers
returns-clause-covers _ g kinds table t u class k ttl n few is enough = small_covers g kinds table t u class k ttl n few is enough

pub returns-clause-nodes : goal.returns-clause-nodes
returns-clause-nodes _ w a c truth at = few_nodes w a c truth at
