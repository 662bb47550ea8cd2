use Rattle.domain_model.specs.Run.{schedule_done}
use Rattle.domain_replay.specs.Texts.{schedule_reaches}
use Rattle.laws_replay.proofs.Reached.{schedule_reached, schedule_made}
use Rattle.laws_replay.proofs.Holding.{keeps_promises}
use Rattle.laws_replay.proofs.runs.replays_keep_promises.Goals as goal

pub returns-clause-read : goal.returns-clause-read
returns-clause-read _ d lines valid = keeps_promises d valid (schedule_reaches d lines).run (schedule_reached d valid lines)

pub returns-clause-made : goal.returns-clause-made
returns-clause-made _ d lines valid fits = keeps_promises d valid (schedule_done d lines).run (schedule_made d valid lines fits)
