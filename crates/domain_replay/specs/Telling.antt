-- A run as it is reported: with each event the world advances, the counts grow, and both texts gain the effects of the
-- event.
use Rattle.std.specs.Prelude.{ℕ, ◌≡◌, ◌<◌, ◌++◌, List, [], flat_map, length, Option, Some, None, option_map}
use Rattle.std.specs.List.{fold}
use Rattle.wire_base.specs.declared.conf.RouterConf.{RouterConf}
use Rattle.wire_base.specs.model.Configuration.{DomainConf}
use Rattle.replay_text.specs.declared.event.Event.{Event}
use Rattle.replay_text.specs.declared.event.Event.TheVariants as event
use Rattle.replay_text.specs.declared.event.Line.{Line}
use Rattle.replay_text.specs.declared.event.Line.TheVariants as line
use Rattle.domain_model.specs.declared.fault.EventFault.{EventFault}
use Rattle.domain_model.specs.World.{WorldState, first_world}
use Rattle.domain_model.specs.Moves.{Sending}
use Rattle.domain_model.specs.Step.{Happened, happens}
use Rattle.domain_model.specs.Faults.{event_fault}
use Rattle.domain_model.specs.Run.{Run, Progress, line_events, on_line}
use Rattle.run_texts.specs.declared.texts.Texts.{Texts}
use Rattle.replay_report.specs.declared.counts.Counts.{Counts}
use Rattle.replay_report.specs.declared.recording.Recording.{Recording}
use Rattle.replay_report.specs.Captures.{sending_record, capture_front}
use Rattle.replay_report.specs.Counting.{no_counts, counted, counts_of, NamesOnce}
use Rattle.domain_replay.specs.Texts.{world_after_all, made_text, capture_text, run_text}

-- The current world, the counts, the capture so far, the lines of the report so far, and how what is sent is recorded.
pub record Telling : Type 0 where
  pub world : WorldState
  pub counts : Counts
  pub frames : List ℕ
  pub report : List ℕ
  pub recording : Recording

-- before any event
abbrev pub first_telling : Recording → DomainConf → Telling
first_telling recording d = record { world = first_world d; counts = no_counts; frames = capture_front recording d.routers; report = []; recording = recording }

-- the capture records of what an event sent
abbrev pub sent_records : Recording → List RouterConf → ℕ → List Sending → List ℕ
sent_records recording routers line sendings = flat_map (sending_record recording routers) (on_line line sendings)

abbrev pub tells_made : ℕ → Telling → Event → Happened → Telling
tells_made line t e n =
    record {
      world = n.world;
      counts = counted t.counts e n.made.got n.made.drops;
      frames = t.frames ++ sent_records t.recording t.world.domain.routers line n.made.sent;
      report = t.report ++ made_text t.world.domain.routers line n.made;
      recording = t.recording;
    }

-- one more event, of a line
unfoldable pub tells : ℕ → Telling → Event → Telling
tells line t e = tells_made line t e (happens t.world e)

-- ---- a running domain

-- The current world, the counts, and how what is sent is recorded: the reported run without its texts.
pub record ReplayState : Type 0 where
  pub world : WorldState
  pub counts : Counts
  pub recording : Recording

-- before any event
abbrev pub first_state : Recording → DomainConf → ReplayState
first_state recording d = record { world = first_world d; counts = no_counts; recording = recording }

-- the reported run, with the contents of both texts
abbrev pub with_texts : ReplayState → Texts → Telling
with_texts s texts = record { world = s.world; counts = s.counts; frames = texts.frames; report = texts.report; recording = s.recording }

-- ---- lines

-- What was reported, and why the event after it is not allowed, if one is not.
pub record Told : Type 0 where
  pub telling : Telling
  pub refused : Option EventFault

abbrev pub told : Telling → Told
told t = record { telling = t; refused = None }

abbrev pub tells_or : ℕ → Telling → Event → Option EventFault → Told
tells_or line t e None = told (tells line t e)
tells_or line t e (Some why) = record { telling = t; refused = Some why }

abbrev pub tells_unless : ℕ → Told → Event → Option EventFault → Told
tells_unless line t e None = tells_or line t.telling e (event_fault t.telling.world e)
tells_unless line t e (Some why) = t

-- one more event; after one that is not allowed nothing is executed
unfoldable pub reports_on : ℕ → Told → Event → Told
reports_on line t e = tells_unless line t e t.refused

unfoldable pub tells_all : ℕ → Told → List Event → Told
tells_all line t es = fold (reports_on line) t es

-- the events of a line
unfoldable pub tells_line : ℕ → Telling → Line → Told
tells_line line t said = tells_all line (told t) (line_events t.world said)

-- ---- of a run

-- what is reported of a run: its world, its counts and its texts
abbrev pub telling_of : Recording → DomainConf → Run → Telling
telling_of recording d r =
    record { world = r.world; counts = counts_of r; frames = capture_text recording d r; report = run_text d r; recording = recording }

-- The invariant of every run of a domain: its events led to its world, and the domain and its routers exist.
pub record IsRunOf (d : DomainConf) (r : Run) : Type 0 where
  pub world : r.world ≡ world_after_all (first_world d) r.events
  pub domain : r.world.domain ≡ d
  pub routers : length r.world.routers ≡ length d.routers

-- an injection is at a router that exists
abbrev pub IsEntered : ℕ → Event → Type 0
IsEntered count (event.Inject router sd bsl ids ttl entropy payload) = router < count
IsEntered count (event.Take from to i) = Unit {0}
IsEntered count (event.Lose from to i) = Unit {0}
IsEntered count (event.Again from to i) = Unit {0}
IsEntered count (event.Down from to) = Unit {0}
IsEntered count (event.Up from to) = Unit {0}
IsEntered count (event.Send from to) = Unit {0}
IsEntered count (event.Tick router) = Unit {0}
IsEntered count (event.Restart router) = Unit {0}
IsEntered count (event.Relabel router sd bsl label) = Unit {0}
IsEntered count (event.Leave router sd) = Unit {0}
IsEntered count (event.Join router sd) = Unit {0}

abbrev pub LineEnters : ℕ → Line → Type 0
LineEnters count line.Empty = Unit {0}
LineEnters count (line.One e) = IsEntered count e
LineEnters count (line.Settle rounds) = Unit {0}

-- no BFR-id is named twice in a line
abbrev pub LineNamesOnce : Line → Type 0
LineNamesOnce line.Empty = Unit {0}
LineNamesOnce (line.One e) = NamesOnce e
LineNamesOnce (line.Settle rounds) = Unit {0}

-- the line that was rejected, if one was
abbrev pub at_line : ℕ → Option EventFault → Option (ℕ × EventFault)
at_line line refused = option_map (λ why. (line, why)) refused

-- A line that is reported is a line that is executed: as far, and rejected for the same reason.
pub record IsToldSo (recording : Recording) (d : DomainConf) (line : ℕ) (p : Progress) (t : Told) : Type 0 where
  pub run : IsRunOf d p.run
  pub telling : t.telling ≡ telling_of recording d p.run
  pub refused : p.refused ≡ at_line line t.refused
