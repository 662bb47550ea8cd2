use Rattle.std.proofs.Common.{false, ◌≡◌, ◌≤◌, ◌+◌, ◌++◌, cond}
use Rattle.command_drive.specs.Lines.{lines_read, lines_left}
use Rattle.command_drive.proofs.Seeking.{Seeks}
use Rattle.command_drive.proofs.line_reader.LineReaderItemsOctets.next.Given as goal

abbrev pub invariant-parts : goal.invariant-parts
invariant-parts g l = record {
  seeks : Seeks (g.S.Source.left l.fn.input) (g.S.Source.left l.input) (lines_read (l.fn.self.front ++ l.fn.self.unread) l.fn.self.room l.fn.self.over) (lines_read (l.self.front ++ l.self.unread) l.self.room l.self.over);
  fewer : lines_left (l.self.front ++ l.self.unread) l.self.room l.self.short ≤ lines_left (l.fn.self.front ++ l.fn.self.unread) l.fn.self.room l.fn.self.short;
  idle : l.self.waits ≡ false;
  quiet : g.S.Source.faults l.input ≡ g.S.Source.faults l.fn.input;
}

abbrev pub decreases-parts : goal.decreases-parts
decreases-parts g l = l.self.room + cond l.self.over 0 1
