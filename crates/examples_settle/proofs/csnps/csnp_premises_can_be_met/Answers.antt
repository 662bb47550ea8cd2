use Rattle.examples_settle.proofs.ComparedLaws.{answered}
use Rattle.examples_settle.proofs.csnps.csnp_premises_can_be_met.Goals as goal

pub returns : goal.returns
returns _ = answered
