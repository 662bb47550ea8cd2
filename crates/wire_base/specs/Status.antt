-- The exit status for each way in which a run ends.
use Rattle.std.specs.Prelude.{ℕ}
use Rattle.wire_base.specs.declared.status.Status.{Status}
use Rattle.wire_base.specs.declared.status.Status.TheVariants.{Done, Usage, ConfRefused, InputRefused, ReadFault, WriteFault, Memory, CaptureRefused}

abbrev pub number_of : Status → ℕ
number_of Done = 0
number_of Usage = 2
number_of ConfRefused = 3
number_of InputRefused = 4
number_of ReadFault = 5
number_of WriteFault = 6
number_of Memory = 7
number_of CaptureRefused = 8
