use Rattle.laws_settle.proofs.Exchange.{exchange_same}
use Rattle.laws_settle.proofs.SameByCsnps.{same_live}
use Rattle.laws_settle.proofs.csnps.csnps_make_databases_same.Goals as goal

pub returns-clause-routers : goal.returns-clause-routers
returns-clause-routers _ a b link after h = same_live a b link after h

pub returns-clause-domain : goal.returns-clause-domain
returns-clause-domain _ w a b c d link back v h = exchange_same w a b c d link back v h
