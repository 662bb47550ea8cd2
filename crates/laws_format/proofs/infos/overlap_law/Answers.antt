use Rattle.laws_format.proofs.InfoLaws.{overlap_found, overlap_test}
use Rattle.laws_format.proofs.infos.overlap_law.Goals as goal

pub returns-clause-found : goal.returns-clause-found
returns-clause-found c = overlap_found

pub returns-clause-only : goal.returns-clause-only
returns-clause-only c = overlap_test
