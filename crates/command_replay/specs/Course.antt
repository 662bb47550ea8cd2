-- What the lines of a schedule come to, for any way to execute a line: what is reported and recorded, which events the
-- domain executes, and which line is rejected.
use Rattle.std.specs.Prelude.{ℕ, ◌≡◌, ◌+◌, false, List, [], ◌∷◌, ◌++◌, length, Option, Some, None}
use Rattle.replay_text.specs.Pieces.{lines_in}
use Rattle.replay_text.specs.declared.event.Event.{Event}
use Rattle.wire_base.specs.declared.limits.TheConstants.{TEXT_LIMIT}
use Rattle.wire_base.specs.declared.status.Status.TheVariants.{ReadFault}
use Rattle.wire_base.specs.model.Configuration.{DomainConf}
use Rattle.domain_model.specs.Run.{Run, run_of}
use Rattle.domain_model.specs.World.{ids_in_flight}
use Rattle.domain_replay.specs.Counting.{counts_of}
use Rattle.domain_replay.specs.Parts.{Past}
use Rattle.domain_replay.specs.Telling.{ReplayState}
use Rattle.domain_replay.specs.Texts.{Refusal, refusal_text, Reached}
use Rattle.command_drive.specs.Answer.{Verdict}
use Rattle.command_drive.specs.Doing.{told}
use Rattle.command_drive.specs.Driving.{Meaning}
use Rattle.command_drive.specs.Lines.{shown, lines_read}
use Rattle.command_drive.specs.Reading.{Behind, Reads, Ends, Fails}
use Rattle.command_drive.specs.Texts.{Close, Cut, close_of, is_short, lines_within}
use Rattle.command_replay.specs.Owed.{ends, rejected}
use Rattle.command_replay.specs.ScheduleText.{ending}

-- ---- a line

-- What a line comes to: what it appends to the report and to the capture, the events that the domain executes, each with
-- the number of the line, why the line is rejected, if it is, and the state after it.
pub record Turned (S : Type 0) : Type 0 where
  pub report : List ℕ
  pub frames : List ℕ
  pub events : List (ℕ × Event)
  pub refused : Option Refusal
  pub next : S

-- how a line is executed: its number, its text, and the state before it
abbrev pub Turns : Type 0 → Type 0
Turns S = ℕ → List ℕ → S → Turned S

-- what it adds to what happened before
abbrev pub turn_part : {S : Type 0} → Turned S → Past
turn_part t = record { report = t.report; frames = t.frames; events = t.events }

-- ---- the lines

-- What lines come to: what all of them append, the events that the domain executes, the line that is rejected and why, if
-- one is, and the state after them.
pub record Course (S : Type 0) : Type 0 where
  pub report : List ℕ
  pub frames : List ℕ
  pub events : List (ℕ × Event)
  pub refused : Option (ℕ × Refusal)
  pub state : S

abbrev pub no_lines : {S : Type 0} → S → Course S
no_lines s = record { report = []; frames = []; events = []; refused = None; state = s }

-- a line, and what follows it
abbrev pub line_before : {S : Type 0} → Turned S → Course S → Course S
line_before t c = record { report = t.report ++ c.report; frames = t.frames ++ c.frames; events = t.events ++ c.events; refused = c.refused; state = c.state }

-- a line that is rejected
abbrev pub ends_with : {S : Type 0} → Turned S → ℕ → Refusal → Course S
ends_with t line why = record { report = t.report; frames = t.frames; events = t.events; refused = Some (line, why); state = t.next }

-- if the line isn't rejected, the rest is executed
abbrev pub course_by : {S : Type 0} → ℕ → Turned S → (S → Course S) → Option Refusal → Course S
course_by line t rest None = line_before t (rest t.next)
course_by line t rest (Some why) = ends_with t line why

-- the lines after n others
unfoldable pub lines_course : {S : Type 0} → Turns S → ℕ → S → List (List ℕ) → Course S
lines_course turns n s [] = no_lines s
lines_course turns n s (text ∷ more) =
    let t = turns (n + 1) text s in course_by (n + 1) t (λ next. lines_course turns (n + 1) next more) t.refused

abbrev pub course_part : {S : Type 0} → Course S → Past
course_part c = record { report = c.report; frames = c.frames; events = c.events }

-- ---- what must be produced for lines

abbrev pub unless_rejected : ℕ → Option Refusal → Verdict → Verdict
unless_rejected line None owed = owed
unless_rejected line (Some why) owed = rejected (refusal_text line why)

-- a line, followed by the rest
abbrev pub turn_owes : {S : Type 0} → ℕ → Turned S → (S → Verdict) → Verdict
turn_owes line t rest = told t.report t.frames (unless_rejected line t.refused (rest t.next))

-- the lines after n others, and the end of the report, by the counts and the world of the last state
abbrev pub turns_owe : {S : Type 0} → (view : S → ReplayState) → Turns S → ℕ → List (List ℕ) → Behind → S → Verdict
turns_owe view turns n [] behind s = ends n behind (view s)
turns_owe view turns n (text ∷ more) behind s = turn_owes (n + 1) (turns (n + 1) text s) (turns_owe view turns (n + 1) more behind)

-- ---- a schedule

-- What a schedule came to: the model's run of the events, the report and the capture, and the line that was rejected and
-- why, if one was.
pub record Played : Type 0 where
  pub run : Run
  pub report : List ℕ
  pub frames : List ℕ
  pub refused : Option (ℕ × Refusal)

-- What comes before the first line is a part of the run too: often the front of the capture alone, before its records.
abbrev pub opens_with : (front : List ℕ) → Past
opens_with front = record { report = []; frames = front; events = [] }

-- the lines of a schedule in a domain, and what comes before them
abbrev pub played : {S : Type 0} → DomainConf → Past → Course S → Played
played d o c = record { run = run_of d (o.events ++ c.events); report = o.report ++ c.report; frames = o.frames ++ c.frames; refused = c.refused }

-- the events that were executed, and all that was reported and recorded
abbrev pub played_past : Played → Past
played_past p = record { report = p.report; frames = p.frames; events = p.run.events }

-- how far lines are executed
abbrev pub reach_of : (plays : List (List ℕ) → Played) → List (List ℕ) → Reached
reach_of plays lines = let p = plays lines in record { run = p.run; refused = p.refused }

-- the status and the texts of a schedule of that many lines that closes in that way
abbrev pub answer_for : Close → (lines : ℕ) → Played → Verdict
answer_for close lines p = let end = ending close lines p.run p.refused in record { status = end.0; report = p.report ++ end.1; frames = p.frames }

-- those of lines
abbrev pub answer_of : (plays : List (List ℕ) → Played) → Close → List (List ℕ) → Verdict
answer_of plays close lines = answer_for close (length lines) (plays lines)

-- the verdict on a schedule, whether its source ends after those octets or fails
abbrev pub plays_mean : (plays : List (List ℕ) → Played) → Meaning
plays_mean plays Ends octets = answer_of plays (close_of (is_short octets)) (lines_within octets)
plays_mean plays Fails octets = answer_of plays Cut (lines_in false octets)

-- ---- what is promised of a way to execute lines

-- Of a line that is too long, a prefix that is too long as well is executed as the line is.
abbrev pub ShowsFronts : {S : Type 0} → Turns S → Type 0
ShowsFronts {S} turns = (n : ℕ) (text : List ℕ) (s : S) → turns n (shown text) s ≡ turns n text s

-- The counts and the BFR-ids in flight are those of the run of the events.
pub record IsCounted (d : DomainConf) (events : List (ℕ × Event)) (s : ReplayState) : Type 0 where
  pub counts : s.counts ≡ counts_of (run_of d events)
  pub flight : ids_in_flight s.world.flights ≡ ids_in_flight (run_of d events).world.flights

-- after those events and any lines
abbrev pub AreCounted : {S : Type 0} → (view : S → ReplayState) → Turns S → DomainConf → (opened : List (ℕ × Event)) → (start : S) → Type 0
AreCounted view turns d opened start = (lines : List (List ℕ)) → IsCounted d (opened ++ (lines_course turns 0 start lines).events) (view (lines_course turns 0 start lines).state)

-- what must be produced for the items that a reader of lines returns, and for what comes before them
abbrev pub owed_on : {S : Type 0} → (view : S → ReplayState) → Turns S → Past → (start : S) → Reads (List ℕ) → Verdict
owed_on view turns o start read = told o.report o.frames (turns_owe view turns 0 read.items read.behind start)

abbrev pub lines_mean : {S : Type 0} → (view : S → ReplayState) → Turns S → Past → (start : S) → Meaning
lines_mean view turns o start end octets = owed_on view turns o start (lines_read [] TEXT_LIMIT false end octets)

-- Two meanings agree. After a read error they need to do so only if that is what ends the run.
pub record Agree (means other : Meaning) : Type 0 where
  pub whole : (octets : List ℕ) → means Ends octets ≡ other Ends octets
  pub cut : (octets : List ℕ) → (means Fails octets).status ≡ ReadFault → means Fails octets ≡ other Fails octets
