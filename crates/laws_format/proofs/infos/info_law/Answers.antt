use Rattle.laws_format.proofs.InfoLaws.{info_spelled, info_again, info_found, info_only, info_fits, info_once}
use Rattle.laws_format.proofs.infos.info_law.Goals as goal

pub returns-clause-spelled : goal.returns-clause-spelled
returns-clause-spelled c = info_spelled

pub returns-clause-again : goal.returns-clause-again
returns-clause-again c = info_again

pub returns-clause-read : goal.returns-clause-read
returns-clause-read c = info_found

pub returns-clause-only : goal.returns-clause-only
returns-clause-only c = info_only

pub returns-clause-fits : goal.returns-clause-fits
returns-clause-fits c = info_fits

pub returns-clause-one : goal.returns-clause-one
returns-clause-one c = info_once
