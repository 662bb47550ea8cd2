use Rattle.command_drive.proofs.Meanings.{told_none}
use Rattle.command_topo.specs.Owed.{owed}
use Rattle.command_topo.proofs.topo.TopoCommandNgRecord.more.Goals as goal

pub returns-clause-did : goal.returns-clause-did
returns-clause-did c =
    let s = c.args.self.now in
    told_none (owed s.query s.records s.store.entries) c.args._texts.now
