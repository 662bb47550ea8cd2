use Rattle.std.proofs.Common.{arith}
use Rattle.std.proofs.lemmas.List.{length-take}
use Rattle.replay_text.proofs.block.Block.listed.Goals as goal

pub returns-clause-len : goal.returns-clause-len
returns-clause-len c = omega (arith, length-take c.put_listed-self-inside.result c.put_listed-self-inside.new.room)
