use Rattle.std.proofs.Common.{arith}
use Rattle.std.proofs.lemmas.List.{length-take-le}
use Rattle.replay_text.proofs.block.Block.number.Goals as goal

pub returns-clause-len : goal.returns-clause-len
returns-clause-len c = omega (arith, length-take-le c.put_number-self-inside.result c.put_number-self-inside.new.room (omega arith))
