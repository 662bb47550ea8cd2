use Rattle.command_check.proofs.SettleChecks.{check_settles, check_idles}
use Rattle.command_check.proofs.laws.settle_lines_make_checks_quiet.Goals as goal

pub returns-clause-quiet : goal.returns-clause-quiet
returns-clause-quiet _ d before text rounds valid reads settling = check_settles d valid before text rounds reads settling

pub returns-clause-idle : goal.returns-clause-idle
returns-clause-idle _ d before text rounds valid reads settling more = check_idles d valid before text rounds reads settling more
