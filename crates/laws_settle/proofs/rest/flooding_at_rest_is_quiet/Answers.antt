use Rattle.laws_settle.proofs.SettleLaws.{rest_agrees, run_rests}
use Rattle.laws_settle.proofs.rest.flooding_at_rest_is_quiet.Goals as goal

pub returns-clause-same : goal.returns-clause-same
returns-clause-same _ d es w rest = run_rests d es w rest

pub returns-clause-agree : goal.returns-clause-agree
returns-clause-agree _ d es w a c rest at = rest_agrees d es w rest a c at
