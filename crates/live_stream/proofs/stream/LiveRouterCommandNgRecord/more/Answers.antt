use Rattle.command_drive.proofs.Meanings.{told_none}
use Rattle.live_stream.specs.Owed.{live_owed}
use Rattle.live_stream.proofs.stream.LiveRouterCommandNgRecord.more.Goals as goal

pub returns-clause-did : goal.returns-clause-did
returns-clause-did c = told_none (live_owed c.args.self.now.seat c.args.self.now.node) c.args._texts.now
