use Rattle.std.proofs.Common.{◌≡◌, ◌+◌, take}
use Rattle.std.specs.Prelude.{sum_by}
use Rattle.replay_report.specs.Counting.{dropped_ids}
use Rattle.replay_report.proofs.counts.with_drops.Given as goal

abbrev pub invariant-loop-dropped : goal.invariant-loop-dropped
invariant-loop-dropped l = l.total ≡ l.count + sum_by dropped_ids (take l.dropped-index l.drops)
