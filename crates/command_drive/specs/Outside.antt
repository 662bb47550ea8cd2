-- What a call did with its sources and sinks.
use Rattle.std.specs.Prelude.{ℕ, ◌≡◌, List, take, Option, Some, None}
use Rattle.std.specs.Io.KnownBytes.{Appends}
use Rattle.wire_base.specs.declared.status.Status.{Status}
use Rattle.command_drive.specs.Answer.{Verdict}

-- those octets are what a source held, if the source specifies it
abbrev pub Held : Option (List ℕ) → List ℕ → Type 0
Held None octets = Unit {0}
Held (Some left) octets = left ≡ octets

-- specified octets grow by some prefix of a text
abbrev pub AppendsFront : Option (List ℕ) → Option (List ℕ) → List ℕ → Type 0
AppendsFront before now text = (n : ℕ) × Appends before now (take n text)

-- A command that writes no frames ended with that status, and its report gained that text.
pub record Gave (answer : Status × List ℕ) (ended : Status) (before now : Option (List ℕ)) : Type 0 where
  pub status : ended ≡ answer.0
  pub report : Appends before now answer.1

-- A run matches its verdict: the status, and what the report and the frames gained.
pub record Meets (owed : Verdict) (ended : Status) (report_before report_now frames_before frames_now : Option (List ℕ)) : Type 0 where
  pub status : ended ≡ owed.status
  pub report : Appends report_before report_now owed.report
  pub frames : Appends frames_before frames_now owed.frames

-- a prefix of each output of a verdict was written
abbrev pub AppendsFronts : Verdict → (report report_now frames frames_now : Option (List ℕ)) → Type 0
AppendsFronts owed report report_now frames frames_now = AppendsFront report report_now owed.report × AppendsFront frames frames_now owed.frames
