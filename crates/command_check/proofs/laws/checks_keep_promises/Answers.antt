use Rattle.command_check.proofs.CheckCourse.{check_promised, check_woven}
use Rattle.command_check.proofs.laws.checks_keep_promises.Goals as goal

pub returns : goal.returns
returns _ d lines valid = record { run = check_promised d valid lines; woven = check_woven d lines }
