use Rattle.std.proofs.Common.{◌≡◌, ◌≤◌, true}
use Rattle.command_drive.specs.Driving.{meaning, total, IsWritten}
use Rattle.command_drive.proofs.Looping.{OnWay}
use Rattle.command_drive.proofs.driving.do_items.Given as goal

abbrev pub invariant-items : goal.invariant-items
invariant-items g l = record {
  way : OnWay g.S.Source g.C.Sink g.R.Sink (meaning (g.I.Items.reads l.fn.items) (g.K.Command.owes l.fn.command) l.fn.texts) (g.I.Items.reads l.items) (total l.texts (g.K.Command.owes l.command)) l.fn.input l.input l.fn.frames l.frames l.fn.report l.report;
  rests : g.K.Command.waits l.command ≡ 0;
  written : g.I.Items.waits l.items ≡ true → IsWritten l.texts;
  room : g.I.Items.most l.items ≤ g.K.Command.room l.command;
}

abbrev pub decreases-items : goal.decreases-items
decreases-items g l = g.I.Items.most l.items
