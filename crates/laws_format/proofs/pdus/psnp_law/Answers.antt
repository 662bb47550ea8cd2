use Rattle.laws_format.proofs.PduLaws.{psnp_is, psnp_read, psnp_once}
use Rattle.laws_format.proofs.pdus.psnp_law.Goals as goal

pub returns-clause-spelled : goal.returns-clause-spelled
returns-clause-spelled c = psnp_is

pub returns-clause-again : goal.returns-clause-again
returns-clause-again c = psnp_read

pub returns-clause-one : goal.returns-clause-one
returns-clause-one c = psnp_once
