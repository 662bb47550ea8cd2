use Rattle.command_drive.proofs.Meanings.{told_none}
use Rattle.command_grow.specs.Counted.{lines_owe}
use Rattle.command_grow.proofs.growing.GrowingCommandGrownLine.more.Goals as goal

pub returns-clause-did : goal.returns-clause-did
returns-clause-did c = let s = c.args.self.now in told_none (λ items behind. lines_owe s.n s.line items behind s.replay) c.args._texts.now
