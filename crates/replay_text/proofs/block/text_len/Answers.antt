use Rattle.replay_text.proofs.Commas.{length_short}
use Rattle.replay_text.proofs.block.text_len.Goals as goal

pub returns-clause-value : goal.returns-clause-value
returns-clause-value c = length_short c.args.number c.from.result c.from-2.result c.requires c.from.ensures c.from-2.ensures
