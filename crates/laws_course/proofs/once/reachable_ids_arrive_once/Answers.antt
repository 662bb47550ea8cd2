use Rattle.wire_base.specs.model.View.{control_view}
use Rattle.laws_course.specs.Course.{own_node, carried_on}
use Rattle.laws_course.proofs.OnceLaws.{carried_once, one_place, delivered_once}
use Rattle.laws_course.proofs.once.reachable_ids_arrive_once.Goals as goal

pub returns-clause-dropped : goal.returns-clause-dropped
returns-clause-dropped _ r e fs c n k i h = let o = carried_once r e fs c n k i h in o.none

pub returns-clause-once : goal.returns-clause-once
returns-clause-once _ r e fs c n k i h = one_place (carried_on r e fs) c.conf (control_view c) (own_node c) n k i (carried_once r e fs c n k i h) h.names

pub returns-clause-course : goal.returns-clause-course
returns-clause-course _ r e fs c n k i h = let o = carried_once r e fs c n k i h in o.kept

pub returns-clause-delivered : goal.returns-clause-delivered
returns-clause-delivered _ r e fs c n k i h gone = delivered_once (carried_on r e fs) c.conf (control_view c) (own_node c) n k i (carried_once r e fs c n k i h) h.names gone
