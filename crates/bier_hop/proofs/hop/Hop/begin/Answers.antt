use Rattle.bier_hop.proofs.NextLaws.{numbered}
use Rattle.bier_hop.proofs.hop.Hop.begin.Goals as goal

pub returns-clause-numbered : goal.returns-clause-numbered
returns-clause-numbered g c = numbered c.args.table.now
