use Rattle.command_drive.proofs.Meanings.{told_none}
use Rattle.command_headers.specs.Owed.{owed}
use Rattle.command_headers.proofs.headers.HeadersCommandNgRecord.more.Goals as goal

pub returns-clause-did : goal.returns-clause-did
returns-clause-did c = told_none (owed c.args.self.now.records c.args.self.now.headers) c.args._texts.now
