use Rattle.laws_settle.proofs.IssuerLaws.{run_agrees}
use Rattle.laws_settle.proofs.issuers.quiet_runs_agree.Goals as goal

pub returns : goal.returns
returns _ d es a c valid allowed quiet at = run_agrees d es valid allowed a c quiet at
