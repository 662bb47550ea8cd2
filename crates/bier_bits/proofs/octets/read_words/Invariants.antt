use Rattle.std.proofs.Common.{◌≡◌, ◌<◌, ℕ, get_or}
use Rattle.std.specs.Int.{bit_at}
use Rattle.bier_bits.specs.Sets.{AreOctets}
use Rattle.bier_bits.proofs.octets.read_words.Given as goal

abbrev pub invariant-loop-k : goal.invariant-loop-k
invariant-loop-k l = record {
  octets : AreOctets l.words l.bytes l.k;
  marked : (j : ℕ) → j < l.k → bit_at l.marks j ≡ 0 → get_or l.words j 0 ≡ 0;
}
