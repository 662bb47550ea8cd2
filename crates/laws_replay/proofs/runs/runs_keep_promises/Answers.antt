use Rattle.laws_replay.proofs.Allowed.{events_promised}
use Rattle.laws_replay.proofs.runs.runs_keep_promises.Goals as goal

pub returns : goal.returns
returns _ d es valid all = events_promised d es valid all
