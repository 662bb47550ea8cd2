use Rattle.laws_format.proofs.PduLaws.{csnp_is, csnp_read, csnp_once}
use Rattle.laws_format.proofs.pdus.csnp_law.Goals as goal

pub returns-clause-spelled : goal.returns-clause-spelled
returns-clause-spelled c = csnp_is

pub returns-clause-again : goal.returns-clause-again
returns-clause-again c = csnp_read

pub returns-clause-one : goal.returns-clause-one
returns-clause-one c = csnp_once
