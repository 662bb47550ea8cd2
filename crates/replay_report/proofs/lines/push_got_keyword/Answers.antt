use Rattle.std.proofs.Common.{length, ap, List, ℕ, arith}
use Rattle.replay_text.proofs.Digits.{length_word}
use Rattle.replay_report.proofs.lines.push_got_keyword.Goals as goal

pub number-requires : goal.number-requires
number-requires c = omega (arith, ap (λ (l : List ℕ). length l) c.new-text.ensures, length_word c.from.result (omega (arith, c.from.ensures, c.ranges.line.fits)))

pub append-requires : goal.append-requires
append-requires c = omega (arith, ap (λ (l : List ℕ). length l) c.new-text.ensures, length_word c.from.result (omega (arith, c.from.ensures, c.ranges.line.fits)), c.number.ensures.len)
