-- The texts of a run: its capture and its report; and those of a schedule, which end with the run or where a line is
-- rejected.
use Rattle.std.specs.Prelude.{ℕ, ◌+◌, ◌++◌, List, [], ◌∷◌, map, Option, Some, None, Result, Ok, Err}
use Rattle.std.specs.List.{fold}
use Rattle.wire_base.specs.declared.conf.RouterConf.{RouterConf}
use Rattle.wire_base.specs.model.Configuration.{DomainConf}
use Rattle.replay_text.specs.declared.event.Event.{Event}
use Rattle.replay_text.specs.declared.event.Line.{Line}
use Rattle.replay_text.specs.declared.fault.TextFault.{TextFault}
use Rattle.replay_text.specs.Schedule.{schedule_line}
use Rattle.domain_model.specs.declared.fault.EventFault.{EventFault}
use Rattle.domain_model.specs.World.{WorldState, first_world, ids_in_flight}
use Rattle.domain_model.specs.Moves.{Made}
use Rattle.domain_model.specs.Step.{happens}
use Rattle.domain_model.specs.Run.{Run, first_run, Progress, line_done}
use Rattle.replay_report.specs.declared.recording.Recording.{Recording}
use Rattle.replay_report.specs.Captures.{capture_of}
use Rattle.replay_report.specs.Lines.{event_text, done_text, text_refused_text, event_refused_text, too_long}
use Rattle.replay_text.specs.Fault.{fault_text}
use Rattle.replay_report.specs.Counting.{counts_of}

-- ---- of a run

-- the lines of an event
abbrev pub made_text : List RouterConf → ℕ → Made → List ℕ
made_text routers line m = event_text routers line m.got m.drops

-- the world after some events
abbrev pub world_after_all : WorldState → List (ℕ × Event) → WorldState
world_after_all w es = fold (λ v e. (happens v e.1).world) w es

-- the lines of events from a world on
unfoldable pub events_text : WorldState → List (ℕ × Event) → List ℕ
events_text w [] = []
events_text w (e ∷ es) = made_text w.domain.routers e.0 (happens w e.1).made ++ events_text (happens w e.1).world es

-- its capture: one record per frame that was sent
unfoldable pub capture_text : Recording → DomainConf → Run → List ℕ
capture_text recording d r = capture_of recording d.routers r.sent

-- the lines of all events
unfoldable pub run_text : DomainConf → Run → List ℕ
run_text d r = events_text (first_world d) r.events

-- the last line on a run of that many lines
abbrev pub run_done_text : Run → ℕ → List ℕ
run_done_text r lines = done_text lines (counts_of r) (ids_in_flight r.world.flights)

-- the whole report
unfoldable pub report_text : DomainConf → Run → ℕ → List ℕ
report_text d r lines = run_text d r ++ run_done_text r lines

-- ---- of a schedule

-- why a line is rejected
pub data Refusal : Type 0 where
  BadText : (why : TextFault) → Refusal
  BadEvent : (why : EventFault) → Refusal
  TooLong : Refusal

abbrev pub refusal_text : ℕ → Refusal → List ℕ
refusal_text line (BadText why) = text_refused_text line (fault_text why)
refusal_text line (BadEvent why) = event_refused_text line why
refusal_text line TooLong = text_refused_text line too_long

-- How far a schedule was executed: its run, and the line that was rejected and why, if one was.
pub record Reached : Type 0 where
  pub run : Run
  pub refused : Option (ℕ × Refusal)

abbrev pub reached_so : Run → Option (ℕ × EventFault) → Reached
reached_so r None = record { run = r; refused = None }
reached_so r (Some refused) = record { run = r; refused = Some (refused.0, BadEvent refused.1) }

abbrev pub reached_by : Progress → Reached
reached_by p = reached_so p.run p.refused

-- a line that contains that, or why it is invalid
abbrev pub line_reaches : ℕ → Run → Result Line TextFault → Reached
line_reaches line r (Err why) = record { run = r; refused = Some (line, BadText why) }
line_reaches line r (Ok said) = reached_by (line_done line (record { run = r; refused = None }) said)

-- if no line was rejected so far, the rest is executed
abbrev pub goes_further : (Run → Reached) → Run → Option (ℕ × Refusal) → Reached
goes_further rest r None = rest r
goes_further rest r (Some refused) = record { run = r; refused = Some refused }

abbrev pub and_further : Reached → (Run → Reached) → Reached
and_further reached rest = goes_further rest reached.run reached.refused

-- lines from a number on, in a domain whose routers have those names
unfoldable pub lines_reach : List (List ℕ) → ℕ → Run → List (List ℕ) → Reached
lines_reach names line r [] = record { run = r; refused = None }
lines_reach names line r (text ∷ texts) =
    and_further (line_reaches line r (schedule_line text names)) (λ (next : Run). lines_reach names (line + 1) next texts)

-- the names of a domain's routers, by index
abbrev pub names_of : DomainConf → List (List ℕ)
names_of d = map (λ r. r.name) d.routers

-- the lines of a schedule, which are numbered from 1
unfoldable pub schedule_reaches : DomainConf → List (List ℕ) → Reached
schedule_reaches d texts = lines_reach (names_of d) 1 (first_run d) texts
