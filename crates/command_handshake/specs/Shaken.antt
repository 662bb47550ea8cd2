-- What a schedule with hellos comes to: how a line is executed, and the run, the texts and the line that is rejected, if one is.
use Rattle.std.specs.Prelude.{ℕ, ◌+◌, List, [], ◌∷◌, ◌++◌, Option, Some, None, Result, Ok, Err}
use Rattle.wire_base.specs.model.Configuration.{DomainConf}
use Rattle.wire_base.specs.declared.hello_event.HelloEvent.{HelloEvent}
use Rattle.replay_text.specs.declared.fault.TextFault.{TextFault}
use Rattle.replay_text.specs.declared.hand.HandLine.{HandLine}
use Rattle.replay_text.specs.declared.hand.HandLine.TheVariants.{Base, Hello}
use Rattle.replay_text.specs.Hand.{hand_line}
use Rattle.domain_model.specs.declared.fault.EventFault.{EventFault}
use Rattle.replay_report.specs.Captures.{capture_front}
use Rattle.replay_report.specs.declared.recording.Recording.TheVariants.{Pcap}
use Rattle.domain_replay.specs.Parts.{Past}
use Rattle.domain_replay.specs.Texts.{Refusal, BadText, BadEvent, names_of}
use Rattle.domain_handshake.specs.Handshakes.{HandState, Moment, moment_of, Outcome, base_does, hello_does, start_does}
use Rattle.command_replay.specs.Course.{Turned, Turns, Course, Played, lines_course, played}

-- ---- a line

abbrev pub refused_by : Option EventFault → Option Refusal
refused_by None = None
refused_by (Some why) = Some (BadEvent why)

abbrev pub turned_by : Outcome → Turned HandState
turned_by o = record { report = o.report; frames = o.frames; events = o.events; refused = refused_by o.refused; next = o.next }

-- a line that is not in the grammar
abbrev pub unread : TextFault → HandState → Turned HandState
unread why s = record { report = []; frames = []; events = []; refused = Some (BadText why); next = s }

-- what a line does: it is one of a schedule, or an event of hellos
abbrev pub said_does : ℕ → HandState → HandLine → Outcome
said_does line s (Base said) = base_does line s said
said_does line s (Hello e) = hello_does line s e

abbrev pub read_turns : ℕ → HandState → Result HandLine TextFault → Turned HandState
read_turns line s (Err why) = unread why s
read_turns line s (Ok said) = turned_by (said_does line s said)

-- how a line is executed
unfoldable pub hand_turns : Turns HandState
hand_turns line text s = read_turns line s (hand_line text (names_of s.replay.world.domain))

-- ---- a schedule

-- the interfaces go down
abbrev pub start_turned : DomainConf → Turned HandState
start_turned d = turned_by (start_does Pcap d)

-- Before the first line: the front of the capture, and what comes of the interfaces that go down.
abbrev pub opening : DomainConf → Past
opening d = let t = start_turned d in record { report = t.report; frames = capture_front Pcap d.routers ++ t.frames; events = t.events }

-- what the lines come to after that
abbrev pub shaken_course : DomainConf → List (List ℕ) → Course HandState
shaken_course d lines = lines_course hand_turns 0 (start_turned d).next lines

-- what a schedule comes to, with a capture in the pcap format
abbrev pub shaken : DomainConf → List (List ℕ) → Played
shaken d lines = played d (opening d) (shaken_course d lines)

-- ---- the events of the circuits, and the moments

-- what a line adds to the hellos or the moments
abbrev pub read_adds : {X : Type 0} → (Outcome → List X) → ℕ → HandState → Result HandLine TextFault → List X
read_adds part line s (Err why) = []
read_adds part line s (Ok said) = part (said_does line s said)

unfoldable pub line_adds : {X : Type 0} → (Outcome → List X) → ℕ → List ℕ → HandState → List X
line_adds part line text s = read_adds part line s (hand_line text (names_of s.replay.world.domain))

abbrev pub unless_ended : {X : Type 0} → Option Refusal → List X → List X
unless_ended None rest = rest
unless_ended (Some why) rest = []

-- what the lines after n others add, up to a line that is rejected
unfoldable pub lines_add : {X : Type 0} → (Outcome → List X) → ℕ → HandState → List (List ℕ) → List X
lines_add part n s [] = []
lines_add part n s (text ∷ more) =
    let t = hand_turns (n + 1) text s in line_adds part (n + 1) text s ++ unless_ended t.refused (lines_add part (n + 1) t.next more)

-- the events of the circuits of a schedule, in order
abbrev pub shaken_hellos : DomainConf → List (List ℕ) → List HelloEvent
shaken_hellos d lines = lines_add (λ o. o.hellos) 0 (start_turned d).next lines

-- the moment before the first line, and then the one after each event
abbrev pub shaken_moments : DomainConf → List (List ℕ) → List Moment
shaken_moments d lines = moment_of (start_turned d).next ∷ lines_add (λ o. o.moments) 0 (start_turned d).next lines
