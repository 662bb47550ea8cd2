use Rattle.wire_base.specs.model.View.{control_view}
use Rattle.laws_course.specs.Course.{carried_on, own_node}
use Rattle.laws_course.proofs.OnceLaws.{carried_once, delivered_once}
use Rattle.laws_quiet.proofs.CoverLaws.{covered_carried}
use Rattle.laws_quiet.proofs.cover.quiet_runs_deliver_once.Goals as goal

pub returns-clause-dropped : goal.returns-clause-dropped
returns-clause-dropped _ r e fs c n k i h = let o = carried_once r e fs c n k i (covered_carried r e fs c n k i h) in o.none

pub returns-clause-delivered : goal.returns-clause-delivered
returns-clause-delivered _ r e fs c n k i h gone =
    delivered_once (carried_on r e fs) c.conf (control_view c) (own_node c) n k i (carried_once r e fs c n k i (covered_carried r e fs c n k i h)) h.here.names gone
