use Rattle.std.proofs.Common.{◌≡◌, ◌≤◌, ◌-◌, length, take}
use Rattle.std.specs.Io.KnownBytes.{Appends}
use Rattle.command_drive.proofs.whole.write_all.Given as goal

abbrev pub invariant-pieces : goal.invariant-pieces
invariant-pieces g l =
    Appends (g.R.Sink.written l.initial.sink) (g.R.Sink.written l.sink) (take l.done l.text)
    × (g.R.Sink.faults l.sink ≡ g.R.Sink.faults l.initial.sink)
    × (g.R.Sink.zeros l.sink ≡ g.R.Sink.zeros l.initial.sink)
    × (l.done ≤ length l.text)

abbrev pub decreases-pieces : goal.decreases-pieces
decreases-pieces g l = length l.text - l.done
