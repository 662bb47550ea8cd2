-- The run that a replay did: the model's run over the lines that it read of its schedule, whose texts both sinks gained.
use Rattle.std.specs.Prelude.{ℕ, ◌≡◌, ◌++◌, false, List, length, Option}
use Rattle.std.specs.Io.KnownBytes.{Consumes, Appends}
use Rattle.wire_base.specs.declared.outside.Source as source
use Rattle.wire_base.specs.declared.outside.Sink as sink
use Rattle.wire_base.specs.declared.status.Status.{Status}
use Rattle.wire_base.specs.declared.status.Status.TheVariants.{Done, Usage, ConfRefused, InputRefused, CaptureRefused, ReadFault, WriteFault, Memory}
use Rattle.wire_base.specs.model.Configuration.{DomainConf}
use Rattle.replay_text.specs.Pieces.{lines_in}
use Rattle.domain_replay.specs.Texts.{run_done_text}
use Rattle.command_node.specs.DomainFile.{Says}
use Rattle.command_drive.specs.Outside.{Held, Meets}
use Rattle.command_line.specs.declared.arguments.ScheduleKind.{ScheduleKind}
use Rattle.replay_run.specs.Verdict.{plays}
use Rattle.command_replay.specs.Course.{answer_of}
use Rattle.command_drive.specs.Texts.{Close, Cut, close_of, is_short, lines_within}

-- the statuses with which a replay ends that did a run, to its end or to where it stopped
abbrev pub HasRun : Status → Type 0
HasRun Done = Unit {0}
HasRun InputRefused = Unit {0}
HasRun ReadFault = Unit {0}
HasRun Usage = ⊥
HasRun ConfRefused = ⊥
HasRun CaptureRefused = ⊥
HasRun WriteFault = ⊥
HasRun Memory = ⊥

-- The lines that were read of a schedule, and what is behind them: those that it held; where its source failed, those that
-- are whole in what was taken of it.
abbrev pub AreRead : Status → (input input_now : Option (List ℕ)) → List (List ℕ) → Close → Type 0
AreRead ReadFault input input_now lines close = (octets : List ℕ) × Consumes input input_now octets × (lines ≡ lines_in false octets) × (close ≡ Cut)
AreRead ended input input_now lines close = (octets : List ℕ) × Held input octets × (lines ≡ lines_within octets) × (close ≡ close_of (is_short octets))

-- A command that executes a schedule ended so, and that holds of the lines that it executed.
pub record RunDone {D S C R : Type 0} (d : source.Ghosts D) (s : source.Ghosts S) (c : sink.Ghosts C) (r : sink.Ghosts R) (kind : ScheduleKind) (ended : Status)
    (conf : D) (input_old input_new : S) (frames_old frames_new : C) (report_old report_new : R) (Holds : DomainConf → List (List ℕ) → Type 0) : Type 0 where
  -- the domain that the file says
  pub domain : DomainConf
  pub says : Says (d.left conf) domain
  -- the lines of the schedule, and what is behind them
  pub lines : List (List ℕ)
  pub close : Close
  pub read : AreRead ended (s.left input_old) (s.left input_new) lines close
  -- the status, the report and the capture are those of what the lines come to
  pub texts : Meets (answer_of (plays kind domain) close lines) ended (r.written report_old) (r.written report_new) (c.written frames_old) (c.written frames_new)
  -- where all lines are done, the report ends with the last line, with the numbers of the model's run
  pub last : ended ≡ Done → Appends (r.written report_old) (r.written report_new)
      ((plays kind domain lines).report ++ run_done_text (plays kind domain lines).run (length lines))
  -- the lines are executed as promised
  pub holds : Holds domain lines
