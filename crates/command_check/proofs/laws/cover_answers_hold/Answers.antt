use Rattle.command_check.proofs.VerdictLaws.{cover_holds}
use Rattle.command_check.proofs.laws.cover_answers_hold.Goals as goal

pub returns : goal.returns
returns _ d before text router sd bsl ids ttl entropy ks valid follows covers = cover_holds d before valid router sd bsl ids ttl entropy ks covers text follows
