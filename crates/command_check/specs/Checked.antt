-- The command `check`: a schedule in a domain, whose lines may also ask whether the domain is quiet and which BFR-ids an
-- injection would reach.
use Rattle.std.specs.Prelude.{ℕ, ◌≡◌, ◌⊎◌, List, [], Some, None, option_map, Result, Ok, Err}
use Rattle.wire_base.specs.declared.faults.EdgeFault.{EdgeFault}
use Rattle.wire_base.specs.model.Configuration.{DomainConf}
use Rattle.quiet_domain.specs.declared.answer.Quiet.{Quiet as Answer}
use Rattle.replay_text.specs.Check.{check_line}
use Rattle.replay_text.specs.declared.check.CheckLine.{CheckLine}
use Rattle.replay_text.specs.declared.check.CheckLine.TheVariants.{Base, Quiet, Cover}
use Rattle.replay_text.specs.declared.event.Event.{Event}
use Rattle.replay_text.specs.declared.event.Line.{Line}
use Rattle.replay_text.specs.declared.fault.TextFault.{TextFault}
use Rattle.domain_model.specs.declared.fault.EventFault.TheVariants.{Edge}
use Rattle.domain_model.specs.Run.{line_events, on_line}
use Rattle.domain_core.specs.Cover.{cover_of}
use Rattle.domain_core.specs.Quiet.{quiet_of}
use Rattle.domain_replay.specs.Captures.{capture_front}
use Rattle.domain_replay.specs.Lines.{quiet_text, cover_text}
use Rattle.domain_replay.specs.Parts.{unsaid, state_of, allowed_first}
use Rattle.domain_replay.specs.Telling.{ReplayState, Told, first_state, tells_line}
use Rattle.domain_replay.specs.Texts.{Refusal, BadText, BadEvent, names_of}
use Rattle.replay_report.specs.declared.recording.Recording.TheVariants.{Pcap}
use Rattle.command_replay.specs.Course.{Turned, Turns, Course, Played, lines_course, opens_with, played}

-- ---- a line of a schedule

-- what the events of a line report, and why the one after them is not allowed, if one is not
abbrev pub events_turn : ℕ → List Event → Told → Turned ReplayState
events_turn line done t = record {
  report = t.telling.report;
  frames = t.telling.frames;
  events = on_line line done;
  refused = option_map BadEvent t.refused;
  next = state_of t.telling;
}

abbrev pub base_turn : ℕ → Line → ReplayState → Turned ReplayState
base_turn line said s = events_turn line (allowed_first s.world (line_events s.world said)) (tells_line line (unsaid s) said)

-- ---- a question

-- The answer is reported, and nothing is executed.
abbrev pub answer_turn : ReplayState → List ℕ → Turned ReplayState
answer_turn s text = record { report = text; frames = []; events = []; refused = None; next = s }

-- The line is rejected.
abbrev pub refusal_turn : ReplayState → Refusal → Turned ReplayState
refusal_turn s why = record { report = []; frames = []; events = []; refused = Some why; next = s }

-- `quiet`
abbrev pub quiet_turn : ℕ → ReplayState → Turned ReplayState
quiet_turn line s = answer_turn s (quiet_text s.world.domain.routers line (quiet_of s.world))

-- `cover`: it is rejected as the injection would be
abbrev pub cover_turn : ℕ → ReplayState → Result (List ℕ) EdgeFault → Turned ReplayState
cover_turn line s (Ok ids) = answer_turn s (cover_text line ids)
cover_turn line s (Err why) = refusal_turn s (BadEvent (Edge why))

-- ---- a line

abbrev pub said_turn : ℕ → CheckLine → ReplayState → Turned ReplayState
said_turn line (Base said) s = base_turn line said s
said_turn line Quiet s = quiet_turn line s
said_turn line (Cover router sd bsl ids ttl entropy) s = cover_turn line s (cover_of s.world router sd bsl ids ttl entropy)

abbrev pub read_turn : ℕ → Result CheckLine TextFault → ReplayState → Turned ReplayState
read_turn line (Err why) s = refusal_turn s (BadText why)
read_turn line (Ok said) s = said_turn line said s

-- how a line is executed in a running domain
abbrev pub check_turns : Turns ReplayState
check_turns line text s = read_turn line (check_line text (names_of s.world.domain)) s

-- What is reported beside the events: the answer to a question.
abbrev pub IsAnswer : DomainConf → (report frames : List ℕ) → Type 0
IsAnswer d report frames =
    (frames ≡ []) × ((report ≡ []) ⊎ (((line : ℕ) × (answer : Answer) × (report ≡ quiet_text d.routers line answer)) ⊎ ((line : ℕ) × (ids : List ℕ) × (report ≡ cover_text line ids))))

-- ---- a schedule

-- what the lines of a schedule come to in a domain that has just started
abbrev pub check_course : DomainConf → List (List ℕ) → Course ReplayState
check_course d lines = lines_course check_turns 0 (first_state Pcap d) lines

-- the run, its report and its capture, and the line that is rejected and why, if one is
abbrev pub checked : DomainConf → List (List ℕ) → Played
checked d lines = played d (opens_with (capture_front Pcap d.routers)) (check_course d lines)
