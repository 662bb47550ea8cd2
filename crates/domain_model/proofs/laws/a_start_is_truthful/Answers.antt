use Rattle.domain_model.proofs.WorldTruth.{first_true}
use Rattle.domain_model.proofs.laws.a_start_is_truthful.Goals as goal

pub returns : goal.returns
returns _ d valid = first_true d valid
