use Rattle.std.proofs.Common.{refl}
use Rattle.command_drive.specs.Reading.{Closed}
use Rattle.live_stream.proofs.LiveRecords.{concludes_ok}
use Rattle.live_stream.proofs.stream.LiveRouterCommandNgRecord.close.Goals as goal

pub returns-clause-concluded : goal.returns-clause-concluded
returns-clause-concluded c =
    concludes_ok c.end.result c.args.self.now.seat c.args.self.now.node (Closed c.args.close) c.args.texts.now (record c.args.texts.now { report = c.end.new.out }) c.end.ensures refl
