use Rattle.std.proofs.Common.{arith}
use Rattle.replay_text.proofs.Digits.{length_few}
use Rattle.replay_text.proofs.block.put_listed.Goals as goal

pub put_few-requires-clause-room : goal.put_few-requires-clause-room
put_few-requires-clause-room c = omega (arith, length_few c.args.number c.requires.small)

pub returns-else-number-lt1000-clause-high : goal.returns-else-number-lt1000-clause-high
returns-else-number-lt1000-clause-high c = omega (arith, length_few c.args.number c.requires.small)
