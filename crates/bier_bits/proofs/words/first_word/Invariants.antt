use Rattle.std.proofs.Common.{◌-◌, ◌≡◌, ◌<◌, ℕ, length, get_or}
use Rattle.bier_bits.proofs.words.first_word.Given as goal

-- the words that were passed have no bit
abbrev pub invariant-zeros : goal.invariant-zeros
invariant-zeros l = (k : ℕ) → k < l.at → get_or l.words k 0 ≡ 0

abbrev pub decreases-zeros : goal.decreases-zeros
decreases-zeros l = length l.words - l.at
