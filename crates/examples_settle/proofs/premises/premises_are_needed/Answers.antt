use Rattle.examples_settle.proofs.RunLaws.{ended_stuck, ended_whole, first_differs, half_stuck, restarted_stuck, restarted_whole}
use Rattle.examples_settle.proofs.premises.premises_are_needed.Goals as goal

pub returns-clause-half_up : goal.returns-clause-half_up
returns-clause-half_up _ = half_stuck

pub returns-clause-half_up_gentle : goal.returns-clause-half_up_gentle
returns-clause-half_up_gentle _ = (tt, tt)

pub returns-clause-restart : goal.returns-clause-restart
returns-clause-restart _ = restarted_stuck

pub returns-clause-restart_whole : goal.returns-clause-restart_whole
returns-clause-restart_whole _ = restarted_whole

pub returns-clause-end : goal.returns-clause-end
returns-clause-end _ = ended_stuck

pub returns-clause-end_whole : goal.returns-clause-end_whole
returns-clause-end_whole _ = ended_whole

pub returns-clause-rounds : goal.returns-clause-rounds
returns-clause-rounds _ = first_differs
