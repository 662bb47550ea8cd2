use Rattle.command_replay.proofs.Coursed.{lines_agree}
use Rattle.command_replay.proofs.laws.schedules_are_answered.Goals as goal

pub returns : goal.returns
returns g c view turns d front start shows counted = lines_agree view turns d front start shows counted
