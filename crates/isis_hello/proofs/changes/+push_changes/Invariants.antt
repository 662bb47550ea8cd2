use Rattle.std.proofs.Common.{length}
use Rattle.isis_hello.proofs.changes.+push_changes.Given as goal

abbrev pub decreases-push_changes : goal.decreases-push_changes
decreases-push_changes l = length l.ends.now
