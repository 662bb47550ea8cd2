use Rattle.examples_replay.proofs.ArrivalLaws.{undisturbed_a, undisturbed_b}
use Rattle.examples_replay.proofs.ArrivalRun.{reads, accepts, all_allowed}
use Rattle.examples_replay.proofs.arrivals.premises_hold_of_a_whole_run.Goals as goal

pub returns-clause-read : goal.returns-clause-read
returns-clause-read _ = reads

pub returns-clause-accepted : goal.returns-clause-accepted
returns-clause-accepted _ = accepts

pub returns-clause-allowed : goal.returns-clause-allowed
returns-clause-allowed c = all_allowed c.pair_is_valid.ensures

pub returns-clause-own : goal.returns-clause-own
returns-clause-own _ = undisturbed_a

pub returns-clause-b : goal.returns-clause-b
returns-clause-b _ = undisturbed_b
