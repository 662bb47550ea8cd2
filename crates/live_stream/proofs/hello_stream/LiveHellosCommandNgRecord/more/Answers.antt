use Rattle.command_drive.proofs.Meanings.{told_none}
use Rattle.live_stream.specs.HelloOwed.{hello_owed}
use Rattle.live_stream.proofs.hello_stream.LiveHellosCommandNgRecord.more.Goals as goal

pub returns-clause-did : goal.returns-clause-did
returns-clause-did c = told_none (hello_owed c.args.self.now.seat c.args.self.now.greeter) c.args._texts.now
