use Rattle.command_drive.proofs.Meanings.{told_none}
use Rattle.command_node.specs.Owed.{owed}
use Rattle.command_node.proofs.node_command.RunningNodeCommandNgRecord.more.Goals as goal

pub returns-clause-did : goal.returns-clause-did
returns-clause-did c = told_none (owed c.args.self.now) c.args._texts.now
