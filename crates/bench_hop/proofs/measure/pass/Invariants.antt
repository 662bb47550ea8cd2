use Rattle.std.proofs.Common.{length}
use Rattle.bench_hop.proofs.measure.pass.Given as goal

abbrev pub decreases-outcomes : goal.decreases-outcomes
decreases-outcomes g l = length l.hop.rest
