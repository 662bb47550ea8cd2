use Rattle.laws_quiet.proofs.DeliverLaws.{covered_delivers, covered_drops}
use Rattle.laws_quiet.proofs.cover.quiet_domains_deliver_once.Goals as goal

pub returns-clause-dropped : goal.returns-clause-dropped
returns-clause-dropped _ w e es c n k i h = covered_drops w e es c n k i h

pub returns-clause-delivered : goal.returns-clause-delivered
returns-clause-delivered _ w e es c n k i h gone = covered_delivers w e es c n k i h gone
