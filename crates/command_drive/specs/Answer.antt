-- The result that a run must have: its status, and the octets that its sinks gain.
use Rattle.std.specs.Prelude.{ℕ, List, ◌++◌}
use Rattle.wire_base.specs.declared.status.Status.{Status}
use Rattle.wire_base.specs.declared.status.Status.TheVariants as status

pub record Verdict : Type 0 where
  pub status : Status
  pub report : List ℕ
  pub frames : List ℕ

-- the status and the report of a command that writes no frames, with a text before the report
abbrev pub behind : List ℕ → Status × List ℕ → Status × List ℕ
behind front answer = (answer.0, front ++ answer.1)

-- the statuses that arguments and input decide: all but those of I/O errors and of memory
abbrev pub IsDecided : Status → Type 0
IsDecided status.Done = Unit {0}
IsDecided status.Usage = Unit {0}
IsDecided status.ConfRefused = Unit {0}
IsDecided status.InputRefused = Unit {0}
IsDecided status.CaptureRefused = Unit {0}
IsDecided status.ReadFault = ⊥
IsDecided status.WriteFault = ⊥
IsDecided status.Memory = ⊥
