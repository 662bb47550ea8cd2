use Rattle.live_stream.proofs.LiveRecords.{starts_so}
use Rattle.live_stream.proofs.stream.start.Goals as goal

pub returns : goal.returns
returns c = starts_so c.args.domain c.args.router c.in_ok-conf.conf c.in_ok-seat.seat c.in_ok-node.node c.in_ok-seat.ensures c.in_ok-conf.ensures.at c.in_ok-node.ensures
