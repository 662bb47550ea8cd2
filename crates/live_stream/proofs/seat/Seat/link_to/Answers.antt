use Rattle.live_stream.proofs.HappenLaws.{there_within}
use Rattle.live_stream.proofs.seat.Seat.link_to.Goals as goal

pub returns-clause-there : goal.returns-clause-there
returns-clause-there c = there_within c.args.ends.now _ c.end_toward.result c.end_toward.ensures
