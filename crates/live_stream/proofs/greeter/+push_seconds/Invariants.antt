use Rattle.std.proofs.Common.{length}
use Rattle.live_stream.proofs.greeter.+push_seconds.Given as goal

abbrev pub decreases-push_seconds : goal.decreases-push_seconds
decreases-push_seconds l = length l.ends.now
