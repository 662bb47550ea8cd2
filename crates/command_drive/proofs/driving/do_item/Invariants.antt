use Rattle.std.proofs.Common.{◌≡◌, ◌≤◌, ◌+◌, ◌∷◌}
use Rattle.command_drive.specs.declared.command.Flow.TheVariants as flow
use Rattle.command_drive.specs.Driving.{SinksQuiet, total}
use Rattle.command_drive.proofs.Along.{Going, rounds_left}
use Rattle.command_drive.proofs.driving.do_item.Given as goal

abbrev pub invariant-rounds : goal.invariant-rounds
invariant-rounds g l = record {
  goes : Going g.C.Sink g.R.Sink l.flow g.K.Command.refusal (total l.fn.texts (λ more behind. g.K.Command.owes l.fn.command (l.item ∷ more) behind)) (total l.texts (g.K.Command.owes l.command)) l.texts l.fn.frames l.frames l.fn.report l.report;
  rests : l.flow ≡ flow.On → g.K.Command.waits l.command ≡ 0;
  room : g.K.Command.room l.fn.command ≤ g.K.Command.room l.command + 1;
  quiet : SinksQuiet g.C.Sink g.R.Sink l.fn.frames l.frames l.fn.report l.report;
}

abbrev pub decreases-rounds : goal.decreases-rounds
decreases-rounds g l = rounds_left l.flow (g.K.Command.waits l.command)
