-- What a run of the program did on its command line.
use Rattle.std.specs.Prelude.{ℕ, ◌≡◌, ◌≢◌, ◌<◌, ◌⊎◌, List, Option, None, Some, IfSome, is_some, true}
use Rattle.std.specs.Io.KnownBytes.{Appends}
use Rattle.wire_base.specs.declared.status.Status.{Status}
use Rattle.wire_base.specs.declared.status.Status.TheVariants.{ReadFault, WriteFault}
use Rattle.command_line.specs.CommandLine.{CommandLine}
use Rattle.command_line.specs.Words.{form_of, router_of}
use Rattle.tool_host.specs.Named.{conf_path, input_path, frames_path}
use Rattle.tool_host.specs.declared.files.StdoutSink.{StdoutSink}
use Rattle.command_drive.specs.Answer.{IsDecided}
use Rattle.replay_run.specs.Endings.{ComesOn}
use Rattle.replay_run.specs.Verdict.{verdict}

-- the octets of the file at a path, if there is a path and they are specified
abbrev pub held : (List ℕ → Option (List ℕ)) → Option (List ℕ) → Option (List ℕ)
held at None = None
held at (Some path) = at path

pub record Ran {W : Type 0} (at : List ℕ → Option (List ℕ)) (contents : W → Option (List ℕ)) (line : CommandLine) (ended : Status) (old new : StdoutSink W) : Type 0 where
  -- the status and the report are the verdict on the files at the paths of the command line
  pub verdict : IsDecided ended → IfSome (verdict (form_of line) (router_of line) (held at (conf_path line)) (held at (input_path line)))
      (λ owed. (ended ≡ owed.status) × Appends (contents old.out) (contents new.out) owed.report)
  pub statuses : ComesOn (form_of line) ended
  -- a read fails only if the command line names a file to be read
  pub read : ended ≡ ReadFault → is_some (input_path line) ≡ true
  -- a write fails only if the command line names a file to be written, or if the report's writer failed or accepted
  -- nothing
  pub write : ended ≡ WriteFault → (is_some (frames_path line) ≡ true) ⊎ ((old.tally.faults < new.tally.faults) ⊎ (old.tally.zeros < new.tally.zeros))
  pub report_quiet : ended ≢ WriteFault → new.tally.faults ≡ old.tally.faults
  pub report_takes : ended ≢ WriteFault → new.tally.zeros ≡ old.tally.zeros
