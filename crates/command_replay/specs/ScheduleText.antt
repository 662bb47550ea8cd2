-- A schedule: the texts of a domain's run of its lines, and how they end.
use Rattle.std.specs.Prelude.{ℕ, ◌+◌, false, List, [], ◌++◌, length, Option, Some, None}
use Rattle.wire_base.specs.declared.status.Status.{Status}
use Rattle.wire_base.specs.declared.status.Status.TheVariants.{Done, InputRefused, ReadFault}
use Rattle.wire_base.specs.model.Configuration.{DomainConf}
use Rattle.replay_text.specs.Pieces.{lines_in}
use Rattle.domain_model.specs.Run.{Run}
use Rattle.replay_report.specs.declared.recording.Recording.{Recording}
use Rattle.domain_replay.specs.Texts.{Refusal, TooLong, Reached, capture_text, run_text, run_done_text, refusal_text, schedule_reaches}
use Rattle.command_drive.specs.Answer.{Verdict}
use Rattle.command_drive.specs.Reading.{Ends, Fails}
use Rattle.command_drive.specs.Driving.{Meaning}
use Rattle.command_drive.specs.Texts.{Close, Ended, Longer, Cut, close_of, is_short, lines_within}

-- How the report on that many lines ends: where one was rejected, at the end of the schedule, or at the line that
-- exceeds the limit. If the schedule's source failed, nothing is reported.
abbrev pub ending : Close → (lines : ℕ) → Run → Option (ℕ × Refusal) → Status × List ℕ
ending close lines r (Some refused) = (InputRefused, refusal_text refused.0 refused.1)
ending Ended lines r None = (Done, run_done_text r lines)
ending Longer lines r None = (InputRefused, refusal_text (lines + 1) TooLong)
ending Cut lines r None = (ReadFault, [])

-- the capture of a run in a format, and its report with that end
abbrev pub ends_so : Recording → DomainConf → Run → Status × List ℕ → Verdict
ends_so recording d r end = record { status = end.0; report = run_text d r ++ end.1; frames = capture_text recording d r }

-- what that many lines reached, with the end of the report
abbrev pub answer_by : Recording → Close → DomainConf → (lines : ℕ) → Reached → Verdict
answer_by recording close d lines reached = ends_so recording d reached.run (ending close lines reached.run reached.refused)

-- the status and the texts of a schedule that has those lines and closes in that way
abbrev pub answer_to : Recording → Close → DomainConf → List (List ℕ) → Verdict
answer_to recording close d lines = answer_by recording close d (length lines) (schedule_reaches d lines)

-- those of a schedule
unfoldable pub schedule_answer : Recording → DomainConf → List ℕ → Verdict
schedule_answer recording d schedule = answer_to recording (close_of (is_short schedule)) d (lines_within schedule)

-- those of the complete lines in octets after which the source failed
unfoldable pub schedule_cut : Recording → DomainConf → List ℕ → Verdict
schedule_cut recording d octets = answer_to recording Cut d (lines_in false octets)

-- the verdict on a schedule, whether its source ends after those octets or fails
abbrev pub schedule_means : Recording → DomainConf → Meaning
schedule_means recording d Ends octets = schedule_answer recording d octets
schedule_means recording d Fails octets = schedule_cut recording d octets
