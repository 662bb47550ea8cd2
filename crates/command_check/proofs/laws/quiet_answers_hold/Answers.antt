use Rattle.command_check.proofs.VerdictLaws.{quiet_holds}
use Rattle.command_check.proofs.laws.quiet_answers_hold.Goals as goal

pub returns : goal.returns
returns _ d before text valid follows = quiet_holds d before valid text follows
