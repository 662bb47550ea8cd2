-- A run as parts, between which more is reported and recorded than its events: answers, or what becomes of adjacencies.
use Rattle.std.specs.Prelude.{ℕ, ◌≡◌, ◌++◌, List, [], ◌∷◌, flat_map, Option, Some, None}
use Rattle.std.specs.List.{AllByRecursion}
use Rattle.wire_base.specs.model.Configuration.{DomainConf}
use Rattle.replay_text.specs.declared.event.Event.{Event}
use Rattle.replay_text.specs.declared.event.Line.{Line}
use Rattle.domain_model.specs.declared.fault.EventFault.{EventFault}
use Rattle.domain_model.specs.World.{WorldState, first_world}
use Rattle.domain_model.specs.Step.{happens}
use Rattle.domain_model.specs.Faults.{event_fault}
use Rattle.domain_model.specs.Run.{line_events, on_line}
use Rattle.replay_report.specs.declared.recording.Recording.{Recording}
use Rattle.replay_report.specs.Captures.{capture_front}
use Rattle.domain_replay.specs.Telling.{Telling, Told, ReplayState, with_texts, sent_records}
use Rattle.domain_replay.specs.Texts.{world_after_all, events_text}

-- ---- a line as a part

-- a running domain of which nothing is reported yet, and one whose reports are discarded
abbrev pub unsaid : ReplayState → Telling
unsaid s = with_texts s (record { frames = []; report = [] })

abbrev pub state_of : Telling → ReplayState
state_of t = record { world = t.world; counts = t.counts; recording = t.recording }

abbrev pub if_allowed : Event → List Event → Option EventFault → List Event
if_allowed e rest None = e ∷ rest
if_allowed e rest (Some why) = []

-- the events that are executed: those before the first that is not allowed
unfoldable pub allowed_first : WorldState → List Event → List Event
allowed_first w [] = []
allowed_first w (e ∷ es) = if_allowed e (allowed_first (happens w e).world es) (event_fault w e)

-- What happened so far, or in a part: the events that the domain executed, each with the number of its line, and what is
-- reported and recorded.
pub record Past : Type 0 where
  pub report : List ℕ
  pub frames : List ℕ
  pub events : List (ℕ × Event)

-- one part after another
abbrev pub past_and : Past → Past → Past
past_and p q = record { report = p.report ++ q.report; frames = p.frames ++ q.frames; events = p.events ++ q.events }

-- the events of a line in a running domain
abbrev pub line_part : ℕ → Line → ReplayState → Told → Past
line_part line said s t = record { report = t.telling.report; frames = t.telling.frames; events = on_line line (allowed_first s.world (line_events s.world said)) }

-- ---- more between the events

-- the capture records of events from a world on
unfoldable pub events_records : Recording → WorldState → List (ℕ × Event) → List ℕ
events_records recording w [] = []
events_records recording w (e ∷ es) = sent_records recording w.domain.routers e.0 (happens w e.1).made.sent ++ events_records recording (happens w e.1).world es

-- Parts from a world on, each of which is some events and what is reported and recorded after them besides: all that is reported.
unfoldable pub parts_report : WorldState → List Past → List ℕ
parts_report w [] = []
parts_report w (p ∷ ps) = (events_text w p.events ++ p.report) ++ parts_report (world_after_all w p.events) ps

-- all that is recorded
unfoldable pub parts_records : Recording → WorldState → List Past → List ℕ
parts_records recording w [] = []
parts_records recording w (p ∷ ps) = (events_records recording w p.events ++ p.frames) ++ parts_records recording (world_after_all w p.events) ps

-- The report has the lines of the events of a run and the capture the records of the frames that they sent, in order; what else they
-- have stands between events, and is of that kind.
pub record IsWoven (recording : Recording) (d : DomainConf) (past : Past) (IsBetween : (report frames : List ℕ) → Type 0) : Type 0 where
  pub parts : List Past
  pub events_are : past.events ≡ flat_map (λ (p : Past). p.events) parts
  pub report_is : past.report ≡ parts_report (first_world d) parts
  pub frames_are : past.frames ≡ capture_front recording d.routers ++ parts_records recording (first_world d) parts
  pub between : AllByRecursion (λ (p : Past). IsBetween p.report p.frames) parts
