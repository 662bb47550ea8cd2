use Rattle.laws_quiet.proofs.CoverLaws.{covered_is}
use Rattle.laws_quiet.proofs.cover.covered_ids_are_reachable.Goals as goal

pub returns : goal.returns
returns _ w c k i truth at covered = covered_is w truth i.router c at k i covered
