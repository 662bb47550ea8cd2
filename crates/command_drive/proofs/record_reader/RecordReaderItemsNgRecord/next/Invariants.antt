use Rattle.std.proofs.Common.{false, ◌≡◌, ◌≤◌, ◌+◌, cond}
use Rattle.command_drive.specs.Records.{records_read, records_left}
use Rattle.command_drive.proofs.Seeking.{Seeks}
use Rattle.command_drive.proofs.record_reader.RecordReaderItemsNgRecord.next.Given as goal

abbrev pub invariant-chunks : goal.invariant-chunks
invariant-chunks g l = record {
  seeks : Seeks (g.S.Source.left l.fn.input) (g.S.Source.left l.input) (records_read l.fn.self.reader l.fn.self.room l.fn.self.over) (records_read l.self.reader l.self.room l.self.over);
  fewer : records_left l.self.reader l.self.room l.self.short ≤ records_left l.fn.self.reader l.fn.self.room l.fn.self.short;
  idle : l.self.waits ≡ false;
  quiet : g.S.Source.faults l.input ≡ g.S.Source.faults l.fn.input;
}

abbrev pub decreases-chunks : goal.decreases-chunks
decreases-chunks g l = l.self.room + cond l.self.over 0 1
