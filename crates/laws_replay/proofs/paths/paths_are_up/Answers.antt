use Rattle.laws_replay.proofs.UpLaws.{both_up}
use Rattle.laws_replay.proofs.paths.paths_are_up.Goals as goal

pub returns : goal.returns
returns _ w g a b ca cb n e truth at_a at_b view_a view_b node has to = both_up w truth g a b ca cb n e at_a at_b view_a view_b node has to
