use Rattle.std.proofs.Common.{arith}
use Rattle.itoa.proofs.Decimal.{length_one, length_two}
use Rattle.replay_text.proofs.Digits.{length_three, length_four}
use Rattle.replay_text.proofs.block.put_few.Goals as goal

pub put-requires : goal.put-requires
put-requires c = omega (arith, length_one c.args.number c.if-number-lt10.true)

pub put_two-requires-clause-room : goal.put_two-requires-clause-room
put_two-requires-clause-room c = omega (arith, length_two c.args.number c.if-number-lt10.false c.if-number-lt100.true)

pub put-end-requires : goal.put-end-requires
put-end-requires c = omega (arith, length_three c.args.number c.if-number-lt100.false c.if-number-lt1000.true)

pub put_two-requires-then-number-lt1000-clause-room : goal.put_two-requires-then-number-lt1000-clause-room
put_two-requires-then-number-lt1000-clause-room c = omega (arith, length_three c.args.number c.if-number-lt100.false c.if-number-lt1000.true)

pub put_four-requires-clause-room : goal.put_four-requires-clause-room
put_four-requires-clause-room c = omega (arith, length_four c.args.number c.if-number-lt1000.false c.requires.small)

pub returns-then-number-lt10-clause-at : goal.returns-then-number-lt10-clause-at
returns-then-number-lt10-clause-at c = omega (arith, length_one c.args.number c.if-number-lt10.true)

pub returns-then-number-lt100-clause-at : goal.returns-then-number-lt100-clause-at
returns-then-number-lt100-clause-at c = omega (arith, length_two c.args.number c.if-number-lt10.false c.if-number-lt100.true)

pub returns-then-number-lt1000-clause-at : goal.returns-then-number-lt1000-clause-at
returns-then-number-lt1000-clause-at c = omega (arith, length_three c.args.number c.if-number-lt100.false c.if-number-lt1000.true)

pub returns-else-number-lt1000-clause-at : goal.returns-else-number-lt1000-clause-at
returns-else-number-lt1000-clause-at c = omega (arith, length_four c.args.number c.if-number-lt1000.false c.requires.small)
