use Rattle.laws_quiet.proofs.AgreeLaws.{agreed}
use Rattle.laws_quiet.proofs.agreement.quiet_topologies_agree.Goals as goal

pub returns : goal.returns
returns _ w a c truth issuers quiet at = agreed w truth issuers quiet a c at
