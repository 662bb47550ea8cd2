use Rattle.laws_settle.proofs.SettleLaws.{rounds_idle, traffic_agrees, traffic_delivers, traffic_quiet}
use Rattle.laws_settle.proofs.rounds.flooding_settles.Goals as goal

pub returns-clause-same : goal.returns-clause-same
returns-clause-same _ d es w rounds v fs u settled later = traffic_quiet d es w rounds v settled fs u later

pub returns-clause-agree : goal.returns-clause-agree
returns-clause-agree _ d es w rounds v fs u a c settled later at = traffic_agrees d es w rounds v settled fs u later a c at

pub returns-clause-deliver : goal.returns-clause-deliver
returns-clause-deliver _ d es w rounds v fs u e gs c n k i settled later injected gone = traffic_delivers d es w rounds v settled fs u later e gs c n k i injected gone

pub returns-clause-idle : goal.returns-clause-idle
returns-clause-idle _ d es w rounds v u settled some more is = rounds_idle d es w rounds v settled u some more is
