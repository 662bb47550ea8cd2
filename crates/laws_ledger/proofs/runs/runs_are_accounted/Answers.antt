use Rattle.laws_ledger.proofs.RunLaws.{run_starts, run_goes_on, run_accounted}
use Rattle.laws_ledger.proofs.runs.runs_are_accounted.Goals as goal

pub returns-clause-start : goal.returns-clause-start
returns-clause-start _ d valid = run_starts d valid

pub returns-clause-event : goal.returns-clause-event
returns-clause-event _ r e truth fits ok old = run_goes_on r e truth fits ok old

pub returns-clause-whole : goal.returns-clause-whole
returns-clause-whole _ d es valid allowed = run_accounted d es valid allowed
