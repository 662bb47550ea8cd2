use Rattle.laws_course.proofs.OnceLaws.{run_drops_none, run_has_one, run_delivers}
use Rattle.laws_course.proofs.once.runs_carry_reachable_ids.Goals as goal

pub returns-clause-dropped : goal.returns-clause-dropped
returns-clause-dropped _ d es e fs c n k i h = run_drops_none d es e fs c n k i h

pub returns-clause-once : goal.returns-clause-once
returns-clause-once _ d es e fs c n k i h = run_has_one d es e fs c n k i h

pub returns-clause-delivered : goal.returns-clause-delivered
returns-clause-delivered _ d es e fs c n k i h gone = run_delivers d es e fs c n k i h gone
