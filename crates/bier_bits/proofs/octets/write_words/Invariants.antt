use Rattle.bier_bits.specs.Sets.{AreOctets}
use Rattle.bier_bits.proofs.octets.write_words.Given as goal

abbrev pub invariant-loop-k : goal.invariant-loop-k
invariant-loop-k l = AreOctets l.words l.out l.k
