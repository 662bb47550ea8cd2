-- What a run over an input does if it writes a report and no frames.
use Rattle.std.specs.Prelude.{ℕ, ◌≡◌, ◌≢◌, ◌⊎◌, ◌<◌, false, List, []}
use Rattle.std.specs.Io.KnownBytes.{Consumes, IsAtEnd}
use Rattle.wire_base.specs.declared.outside.Source as source
use Rattle.wire_base.specs.declared.outside.Sink as sink
use Rattle.wire_base.specs.declared.status.Status.{Status}
use Rattle.wire_base.specs.declared.status.Status.TheVariants.{Done, ReadFault, WriteFault, Memory}
use Rattle.command_drive.specs.Answer.{Verdict, IsDecided}
use Rattle.command_drive.specs.Outside.{Held, Gave, AppendsFront}

-- the verdict without frames
abbrev pub alone : Status × List ℕ → Verdict
alone given = record { status = given.0; report = given.1; frames = [] }

-- How a run ended, where `gives` is the result on all octets of an input and `cuts` that on those after which a read
-- failed.
pub record Reports {S R : Type 0} (s : source.Ghosts S) (r : sink.Ghosts R) (refusal : Status) (gives cuts : List ℕ → Status × List ℕ) (ended : Status) (input_old input_new : S) (report_old report_new : R) : Type 0 where
  -- The status and the report are those of the input, whether or not the source specifies it.
  pub statuses : IsDecided ended → (ended ≡ Done) ⊎ (ended ≡ refusal)
  pub answer : IsDecided ended → (octets : List ℕ) × Held (s.left input_old) octets × Gave (gives octets) ended (r.written report_old) (r.written report_new)
  pub all : ended ≡ Done → IsAtEnd (s.left input_new)
  -- An I/O error is returned only if its count rose.
  pub read : ended ≡ ReadFault → s.faults input_old < s.faults input_new
  pub write : ended ≡ WriteFault → (r.faults report_old < r.faults report_new) ⊎ (r.zeros report_old < r.zeros report_new)
  pub input_quiet : ended ≢ ReadFault → ended ≢ WriteFault → s.faults input_new ≡ s.faults input_old
  pub report_quiet : ended ≢ WriteFault → r.faults report_new ≡ r.faults report_old
  pub report_takes : ended ≢ WriteFault → r.zeros report_new ≡ r.zeros report_old
  -- What an aborted run leaves.
  pub finished : ended ≢ WriteFault → ended ≢ Memory → r.unfinished report_new ≡ false
  pub stopped : ended ≡ ReadFault → (octets : List ℕ) × Consumes (s.left input_old) (s.left input_new) octets × Gave (cuts octets) ended (r.written report_old) (r.written report_new)
  pub front : (ended ≡ WriteFault) ⊎ (ended ≡ Memory) → (octets : List ℕ) × Held (s.left input_old) octets × AppendsFront (r.written report_old) (r.written report_new) (gives octets).1
