use Rattle.std.proofs.Common.{◌+◌, ◌-◌, drop, length}
use Rattle.quiet_domain.proofs.LiveLaws.{IsMerging}
use Rattle.quiet_domain.proofs.live.same_live.Given as goal

abbrev pub invariant-merge : goal.invariant-merge
invariant-merge l = IsMerging l.a.entries l.b.entries (drop l.left l.a.entries) (drop l.right l.b.entries)

abbrev pub decreases-merge : goal.decreases-merge
decreases-merge l = length l.a.entries - l.left + (length l.b.entries - l.right)
