use Rattle.std.proofs.Common.{arith}
use Rattle.replay_text.proofs.Digits.{length_word}
use Rattle.command_headers.proofs.line.put_spaced.Goals as goal

pub number-requires : goal.number-requires
number-requires c = omega (arith, length_word c.from.result (omega (arith, c.from.ensures, c.ranges.number.fits)))

pub push-requires : goal.push-requires
push-requires c = omega (arith, length_word c.from.result (omega (arith, c.from.ensures, c.ranges.number.fits)), c.number.ensures.len)

pub returns-clause-len : goal.returns-clause-len
returns-clause-len c = omega (arith, length_word c.from.result (omega (arith, c.from.ensures, c.ranges.number.fits)), c.number.ensures.len, c.push.ensures.len)
