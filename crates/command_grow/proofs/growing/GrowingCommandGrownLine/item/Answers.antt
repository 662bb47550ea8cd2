use Rattle.command_grow.proofs.GrowLaws.{named_once}
use Rattle.command_grow.proofs.growing.GrowingCommandGrownLine.item.Goals as goal

pub line-requires-2-clause-once : goal.line-requires-2-clause-once
line-requires-2-clause-once c = named_once c.args.self.now.n c.args.item.now c.in_ok-said.said c.in_ok-said.ensures.value
