-- A domain whose interfaces come up and go down by hellos: what its events do.
--
-- The domain and its circuits run side by side. A change of an adjacency is reported, and then it is an event of the domain: the
-- interface comes up or goes down.
use Rattle.std.specs.Prelude.{ℕ, zero, suc, ◌+◌, ◌++◌, nat_lt, Bool, true, false, List, [], ◌∷◌, length, replicate, Option, Some, None}
use Rattle.std.specs.List.{fold}
use Rattle.wire_base.specs.model.Configuration.{DomainConf}
use Rattle.isis_hello.specs.declared.event.EndChange.{EndChange}
use Rattle.wire_base.specs.declared.hello_event.HelloEvent.{HelloEvent}
use Rattle.wire_base.specs.declared.hello_event.HelloEvent.TheVariants as hellos
use Rattle.isis_hello.specs.declared.fault.CircuitFault.{CircuitFault}
use Rattle.isis_hello.specs.Circuits.{CircuitsState, first_circuits, circuit_between, hellos_between}
use Rattle.isis_hello.specs.Events as circuits
use Rattle.isis_hello.specs.Events.{circuit_fault}
use Rattle.replay_text.specs.declared.event.Event.{Event}
use Rattle.replay_text.specs.declared.event.Event.TheVariants.{Down, Tick, Restart}
use Rattle.replay_text.specs.declared.event.Line.{Line}
use Rattle.replay_text.specs.declared.event.Line.TheVariants.{Empty, One, Settle}
use Rattle.domain_model.specs.declared.fault.EventFault.{EventFault}
use Rattle.domain_model.specs.declared.fault.EventFault.TheVariants as faults
use Rattle.domain_model.specs.Faults.{most_events}
use Rattle.domain_model.specs.Run.{Direction, directions, line_events, on_line}
use Rattle.domain_model.specs.Step.{happens}
use Rattle.domain_model.specs.World.{WorldState}
use Rattle.replay_report.specs.declared.recording.Recording.{Recording}
use Rattle.domain_replay.specs.Parts.{unsaid, state_of, allowed_first}
use Rattle.domain_replay.specs.Telling.{Told, ReplayState, first_state, tells_line}
use Rattle.domain_handshake.specs.Lines.{changes_text, change_event, sent_record, fault_of}

-- the domain as it is replayed, and its circuits
pub record HandState : Type 0 where
  pub replay : ReplayState
  pub circuits : CircuitsState

-- The domain has just started, with all interfaces up; each circuit works, each adjacency is down, and no hello is in flight.
abbrev pub fresh_state : Recording → DomainConf → HandState
fresh_state recording d = record { replay = first_state recording d; circuits = first_circuits d }

-- the domain and its circuits between two events
pub record Moment : Type 0 where
  pub world : WorldState
  pub circuits : CircuitsState

abbrev pub moment_of : HandState → Moment
moment_of s = record { world = s.replay.world; circuits = s.circuits }

-- ---- what a part of a schedule comes to

-- What it appends to the report and to the capture, the events that the domain executes, each with its line, the events of the
-- circuits, the moment after each event, why an event is not allowed, if one is not, and the state after it. An event of the circuits
-- and the interfaces that it moves are one event.
pub record Outcome : Type 0 where
  pub report : List ℕ
  pub frames : List ℕ
  pub events : List (ℕ × Event)
  pub hellos : List HelloEvent
  pub moments : List Moment
  pub refused : Option EventFault
  pub next : HandState

-- nothing is reported, recorded or executed
abbrev pub nothing : HandState → Outcome
nothing s = record { report = []; frames = []; events = []; hellos = []; moments = []; refused = None; next = s }

abbrev pub refuses : EventFault → HandState → Outcome
refuses why s = record { report = []; frames = []; events = []; hellos = []; moments = []; refused = Some why; next = s }

abbrev pub writes : (report frames : List ℕ) → HandState → Outcome
writes report frames s = record { report = report; frames = frames; events = []; hellos = []; moments = []; refused = None; next = s }

-- two parts, one after the other
abbrev pub joined : Outcome → Outcome → Outcome
joined o p = record { report = o.report ++ p.report; frames = o.frames ++ p.frames; events = o.events ++ p.events; hellos = o.hellos ++ p.hellos; moments = o.moments ++ p.moments; refused = p.refused; next = p.next }

abbrev pub goes_on : Outcome → (HandState → Outcome) → Option EventFault → Outcome
goes_on o rest None = joined o (rest o.next)
goes_on o rest (Some why) = o

-- after an event that is not allowed nothing is done
unfoldable pub and_then : Outcome → (HandState → Outcome) → Outcome
and_then o rest = goes_on o rest o.refused

abbrev pub one_more : {X : Type 0} → (HandState → X → Outcome) → Outcome → X → Outcome
one_more part o x = and_then o (λ next. part next x)

-- one part for each of a list, in order
unfoldable pub in_turn : {X : Type 0} → (HandState → X → Outcome) → HandState → List X → Outcome
in_turn part s xs = fold (one_more part) (nothing s) xs

-- ---- the domain alone

-- the moments after each of some events of the domain, from a world on
unfoldable pub moments_along : CircuitsState → WorldState → List Event → List Moment
moments_along c w [] = []
moments_along c w (e ∷ es) = let next = (happens w e).world in record { world = next; circuits = c } ∷ moments_along c next es

abbrev pub world_told : ℕ → HandState → Told → List Event → Outcome
world_told line s t es = record {
  report = t.telling.report;
  frames = t.telling.frames;
  events = on_line line es;
  hellos = [];
  moments = moments_along s.circuits s.replay.world es;
  refused = t.refused;
  next = record s { replay = state_of t.telling };
}

-- what a line of a schedule does in the domain, apart from its circuits
unfoldable pub world_does : ℕ → HandState → Line → Outcome
world_does line s said = world_told line s (tells_line line (unsaid s.replay) said) (allowed_first s.replay.world (line_events s.replay.world said))

-- ---- a hello event

-- the interface comes up or goes down
abbrev pub change_does : ℕ → HandState → EndChange → Outcome
change_does line s c = world_does line s (One (change_event c))

-- The lines of the changes and the record of what was sent, and then the changes as events of the domain.
abbrev pub follows_all : ℕ → HandState → (frames : List ℕ) → List EndChange → Outcome
follows_all line s frames changes =
    and_then (writes (changes_text s.replay.world.domain.routers line changes) frames s) (λ next. in_turn (change_does line) next changes)

abbrev pub follows_if : Bool → Outcome → HandState → Outcome
follows_if true follow s = refuses faults.Events s
follows_if false follow s = follow

-- The domain must have room for all of them: else nothing is written, and none is executed.
unfoldable pub follows : ℕ → HandState → (frames : List ℕ) → List EndChange → Outcome
follows line s frames changes = follows_if (nat_lt most_events (s.replay.world.events + length changes)) (follows_all line s frames changes) s

abbrev pub hello_happens : ℕ → HandState → HelloEvent → circuits.Happened → Outcome
hello_happens line s e n =
    follows line (record s { circuits = n.state }) (sent_record s.replay.recording s.replay.world.domain.routers line e n.out.sent) n.out.changes

abbrev pub moment_after : HandState → Option EventFault → List Moment
moment_after s None = moment_of s ∷ []
moment_after s (Some why) = []

-- an event of the circuits occurred, and what followed from it
abbrev pub with_hello : HelloEvent → Outcome → Outcome
with_hello e o = record o { hellos = e ∷ o.hellos; moments = moment_after o.next o.refused }

abbrev pub hello_unless : ℕ → HandState → HelloEvent → Option CircuitFault → Outcome
hello_unless line s e None = with_hello e (hello_happens line s e (circuits.happens s.circuits e))
hello_unless line s e (Some why) = refuses (fault_of why) s

-- an event of the circuits, and what follows in the domain
unfoldable pub hello_does : ℕ → HandState → HelloEvent → Outcome
hello_does line s e = hello_unless line s e (circuit_fault s.circuits e)

-- ---- a round

abbrev pub hello_if : Bool → ℕ → HandState → Direction → Outcome
hello_if true line s d = hello_does line s (hellos.Hello d.from d.to)
hello_if false line s d = nothing s

-- a router sends a hello on a circuit that works
abbrev pub hello_on : ℕ → HandState → Direction → Outcome
hello_on line s d = hello_if (circuit_between s.circuits d.from d.to).works line s d

-- the first hello in flight in a direction arrives
abbrev pub greet_on : ℕ → HandState → Direction → Outcome
greet_on line s d = hello_does line s (hellos.Greet d.from d.to 0)

-- as many hellos arrive as are in flight in a direction now
abbrev pub greets_on : ℕ → HandState → Direction → Outcome
greets_on line s d = in_turn (greet_on line) s (replicate (length (hellos_between s.circuits d.from d.to)) d)

-- All routers send hellos, then all receive them, and then the domain does a round of its own.
abbrev pub round_over : ℕ → HandState → List Direction → Outcome
round_over line s all =
    and_then (and_then (in_turn (hello_on line) s all) (λ next. in_turn (greets_on line) next all)) (λ next. world_does line next (Settle 1))

unfoldable pub round_does : ℕ → HandState → Outcome
round_does line s = round_over line s (directions s.replay.world.domain.routers)

-- that many rounds
unfoldable pub rounds_do : ℕ → HandState → ℕ → Outcome
rounds_do line s zero = nothing s
rounds_do line s (suc rounds) = and_then (round_does line s) (λ next. rounds_do line next rounds)

-- ---- a line of a schedule

-- A second passes in the domain, and then at the circuits of the router. When a router restarts, its adjacencies go down, and then
-- it discards its LSDB.
unfoldable pub event_does : ℕ → HandState → Event → Outcome
event_does line s (Tick a) = and_then (world_does line s (One (Tick a))) (λ next. hello_does line next (hellos.Tick a))
event_does line s (Restart a) = and_then (hello_does line s (hellos.Restart a)) (λ next. world_does line next (One (Restart a)))
event_does line s other = world_does line s (One other)

unfoldable pub base_does : ℕ → HandState → Line → Outcome
base_does line s Empty = nothing s
base_does line s (One e) = event_does line s e
base_does line s (Settle rounds) = rounds_do line s rounds

-- ---- the start

abbrev pub end_goes_down : HandState → Direction → Outcome
end_goes_down s d = world_does 0 s (One (Down d.from d.to))

-- Before the first line each interface goes down, by router and interface in order: no adjacency is up yet.
unfoldable pub start_does : Recording → DomainConf → Outcome
start_does recording d = in_turn end_goes_down (fresh_state recording d) (directions d.routers)
