use Rattle.std.proofs.Common.{◌-◌, ◌*◌, length}
use Rattle.bier_bits.specs.Sets.{NoPlace, has_both}
use Rattle.bier_bits.proofs.words.first_shared.Given as goal

abbrev pub invariant-visits : goal.invariant-visits
invariant-visits l = NoPlace (has_both l.a l.b) 0 (64 * l.k)

abbrev pub decreases-visits : goal.decreases-visits
decreases-visits l = length l.a - l.k
