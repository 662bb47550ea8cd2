use Rattle.laws_replay.proofs.SmallViews.{run_covers}
use Rattle.laws_replay.proofs.paths.hops_cover_paths_of_small_domains.Goals as goal

pub returns : goal.returns
returns _ d es a c t class k ttl n valid allowed small at is enough = run_covers d es a c t class k ttl n valid allowed small at is enough
