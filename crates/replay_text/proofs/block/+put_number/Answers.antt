use Rattle.std.proofs.Common.{take, arith}
use Rattle.replay_text.proofs.Digits.{length_more, more_digits}
use Rattle.replay_text.proofs.block.+put_number.Goals as goal

pub put_number-end-requires : goal.put_number-end-requires
put_number-end-requires t c = (omega arith, omega (arith, length_more c.args.number c.if-number-lt10000.false c.ranges.number.fits))

pub put_four-requires-clause-room : goal.put_four-requires-clause-room
put_four-requires-clause-room t c = omega (arith, length_more c.args.number c.if-number-lt10000.false c.ranges.number.fits)

pub returns-clause-text : goal.returns-clause-text
returns-clause-text t c =
    more_digits (take c.args.at c.args.room.now) (take c.put_number-end.result c.put_number-end.new.room) (take c.put_four.result c.put_four.new.room) c.args.number c.if-number-lt10000.false c.ranges.number.fits c.put_number-end.ensures.text c.put_four.ensures.text

pub returns-clause-at : goal.returns-clause-at
returns-clause-at t c = omega (arith, length_more c.args.number c.if-number-lt10000.false c.ranges.number.fits)
