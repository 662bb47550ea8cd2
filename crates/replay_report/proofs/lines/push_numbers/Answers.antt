use Rattle.std.proofs.Common.{length, ap, List, ℕ, arith}
use Rattle.replay_text.proofs.Digits.{length_word}
use Rattle.replay_report.proofs.lines.push_numbers.Goals as goal

pub number-requires : goal.number-requires
number-requires c = omega (arith, ap (λ (l : List ℕ). length l) c.new-text.ensures, c.push.ensures.len, length_word c.from.result (omega (arith, c.from.ensures, c.ranges.injection.fits)))

pub push-requires-2 : goal.push-requires-2
push-requires-2 c = omega (arith, ap (λ (l : List ℕ). length l) c.new-text.ensures, c.push.ensures.len, c.number.ensures.len, length_word c.from.result (omega (arith, c.from.ensures, c.ranges.injection.fits)))

pub number-requires-2 : goal.number-requires-2
number-requires-2 c = omega (arith, ap (λ (l : List ℕ). length l) c.new-text.ensures, c.push.ensures.len, c.number.ensures.len, c.push-2.ensures.len, length_word c.from.result (omega (arith, c.from.ensures, c.ranges.injection.fits)), length_word c.from-2.result (omega (arith, c.from-2.ensures, c.ranges.id.fits)))

pub push-requires-3 : goal.push-requires-3
push-requires-3 c = omega (arith, ap (λ (l : List ℕ). length l) c.new-text.ensures, c.push.ensures.len, c.number.ensures.len, c.push-2.ensures.len, c.number-2.ensures.len, length_word c.from.result (omega (arith, c.from.ensures, c.ranges.injection.fits)), length_word c.from-2.result (omega (arith, c.from-2.ensures, c.ranges.id.fits)))
