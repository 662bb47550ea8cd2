use Rattle.std.proofs.Common.{◌≡◌, length}
use Rattle.bench_hop.proofs.ways.rows.Given as goal

abbrev pub invariant-loop-place : goal.invariant-loop-place
invariant-loop-place l = length l.stored ≡ l.place
