use Rattle.std.proofs.Common.{◌-◌, ◌≡◌, ◌≤◌, ◌<◌, ◌%◌, ℕ, get_or}
use Rattle.bier_bits.proofs.words.join.Given as goal

abbrev pub invariant-loop-at : goal.invariant-loop-at
invariant-loop-at g l = record {
  within : l.at ≤ l.whole;
  step : l.at % 8 ≡ 0;
  done : (k : ℕ) → k < l.at → get_or l.out k 0 ≡ g.J.Joint.word (get_or l.a k 0) (get_or l.b k 0);
}

abbrev pub decreases-loop-at : goal.decreases-loop-at
decreases-loop-at g l = l.whole - l.at

abbrev pub invariant-loop-k : goal.invariant-loop-k
invariant-loop-k g l = (k : ℕ) → k < l.k → get_or l.out k 0 ≡ g.J.Joint.word (get_or l.a k 0) (get_or l.b k 0)
