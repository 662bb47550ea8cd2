use Rattle.domain_replay.proofs.TellingLaws.{start_runs, start_told}
use Rattle.domain_replay.proofs.laws.a_start_is_told.Goals as goal

pub returns-clause-run : goal.returns-clause-run
returns-clause-run _ d = start_runs d

pub returns-clause-told : goal.returns-clause-told
returns-clause-told _ recording d = start_told recording d
