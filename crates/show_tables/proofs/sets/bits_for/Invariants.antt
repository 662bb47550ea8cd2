use Rattle.std.proofs.Common.{◌≡◌}
use Rattle.bier_bits.specs.Any.{bsl_of}
use Rattle.show_tables.proofs.sets.bits_for.Given as goal

abbrev pub invariant-loop-id : goal.invariant-loop-id
invariant-loop-id l = bsl_of l.bits ≡ l.triple.bsl
