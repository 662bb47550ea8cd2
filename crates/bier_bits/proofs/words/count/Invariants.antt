use Rattle.std.proofs.Common.{◌≡◌, ◌≤◌, ◌*◌}
use Rattle.bier_bits.proofs.Counted.{counted_to}
use Rattle.bier_bits.proofs.words.count.Given as goal

abbrev pub invariant-loop-k : goal.invariant-loop-k
invariant-loop-k l = record { counted : l.count ≡ counted_to l.words l.k; bound : l.count ≤ 64 * l.k }
