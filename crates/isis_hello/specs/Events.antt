-- What an event of hellos does to the circuits of a domain, and why one is not allowed.
--
-- What happens is defined for every event, and separately why an event is not allowed. An event that names something that
-- does not exist changes nothing.
use Rattle.std.specs.Prelude.{◌≡◌, ℕ, ◌+◌, not, nat_le, Bool, true, false, List, [], ◌∷◌, ◌++◌, length, map, slice_get, slice_index_or, slice_set, is_none, Option, Some, None, Result, Ok, Err, if◌then◌else◌}
use Rattle.std.specs.Result.{result_ok}
use Rattle.wire_base.specs.declared.conf.End.{End}
use Rattle.wire_base.specs.declared.conf.RouterConf.{RouterConf}
use Rattle.wire_base.specs.model.Ethernet.{Carried, IsisPdu, MplsPacket, BierPacket, IpPacket, OtherFrame, frame_at}
use Rattle.wire_base.specs.model.Item.{isis_frame}
use Rattle.wire_base.specs.declared.faults.FrameFault.{FrameFault}
use Rattle.isis_hello.specs.declared.limits.TheConstants.{MOST_HELLO_EVENTS, MOST_HELLOS}
use Rattle.isis_hello.specs.declared.adjacency.Adjacency.{Adjacency}
use Rattle.isis_hello.specs.declared.adjacency.Circuit.{Circuit}
use Rattle.isis_hello.specs.declared.adjacency.Turn.{Turn}
use Rattle.isis_hello.specs.declared.adjacency.Turn.TheVariants as turns
use Rattle.isis_hello.specs.declared.event.EndChange.{EndChange}
use Rattle.wire_base.specs.declared.hello_event.HelloEvent.{HelloEvent}
use Rattle.wire_base.specs.declared.hello_event.HelloEvent.TheVariants as events
use Rattle.isis_hello.specs.declared.event.HelloOut.{HelloOut}
use Rattle.isis_hello.specs.declared.fault.CircuitFault.{CircuitFault}
use Rattle.isis_hello.specs.declared.fault.CircuitFault.TheVariants as faults
use Rattle.isis_hello.specs.declared.hello.Hello.{Hello}
use Rattle.isis_hello.specs.Adjacency.{after_hello, is_up, turned}
use Rattle.isis_hello.specs.Circuits.{CircuitsState, place_of, link_between, fresh, broken, circuit_at, circuit_between, with_circuit, hellos_at, hellos_between, push_hello, without_hello, hello_count, circuit_id, hello_of}
use Rattle.isis_hello.specs.Hello.{hello, hello_at}

-- ---- what an event reports

-- the next state, and what the event reports
pub record Happened : Type 0 where
  pub state : CircuitsState
  pub out : HelloOut

-- nothing is reported
abbrev pub quiet : CircuitsState → Happened
quiet s = record { state = s; out = record { sent = None; changes = [] } }

-- the change of an adjacency at router a toward router b: it came up, or it was up and no longer is
abbrev pub changed_to : ℕ → ℕ → Bool → Bool → List EndChange
changed_to a b true true = []
changed_to a b true false = record { router = a; peer = b; up = false } ∷ []
changed_to a b false true = record { router = a; peer = b; up = true } ∷ []
changed_to a b false false = []

abbrev pub changed : ℕ → ℕ → Adjacency → Adjacency → List EndChange
changed a b old new = changed_to a b (is_up old) (is_up new)

-- ---- one circuit

-- The circuit of router a toward router b, on the interface `link`, is replaced.
abbrev pub replaces : CircuitsState → ℕ → ℕ → ℕ → Circuit → Happened
replaces s a b link c = record {
  state = record s { circuits = with_circuit s.circuits a link c };
  out = record { sent = None; changes = changed a b (circuit_at s.circuits a link).adjacency c.adjacency };
}

abbrev pub replaces_over : CircuitsState → ℕ → ℕ → Circuit → Option ℕ → Happened
replaces_over s a b c None = quiet s
replaces_over s a b c (Some link) = replaces s a b link c

-- ---- a hello is sent

-- the frame of a hello, in a domain of that level and area (ISO/IEC 10589, 8.4)
abbrev pub hello_frame : RouterConf → End → Hello → List ℕ
hello_frame r e h = isis_frame e.own_mac (hello r.level r.area h)

abbrev pub sends_hello : CircuitsState → ℕ → ℕ → RouterConf → End → Hello → Happened
sends_hello s a link r e h = record {
  state = record s { hellos = push_hello s.hellos a link h };
  out = record { sent = Some (hello_frame r e h); changes = [] };
}

abbrev pub sends_on : CircuitsState → ℕ → ℕ → RouterConf → Option End → Happened
sends_on s a link r None = quiet s
sends_on s a link r (Some e) = sends_hello s a link r e (hello_of r.system link e.peer (circuit_at s.circuits a link).adjacency)

abbrev pub sends_from : CircuitsState → ℕ → ℕ → Option RouterConf → Happened
sends_from s a link None = quiet s
sends_from s a link (Some r) = sends_on s a link r (slice_get r.ends link)

abbrev pub sends : CircuitsState → ℕ → Option ℕ → Happened
sends s a None = quiet s
sends s a (Some link) = sends_from s a link (slice_get s.domain.routers a)

-- ---- a hello arrives

-- a hello at the interface of a router: on a broken circuit it changes nothing
abbrev pub heard_on : RouterConf → ℕ → Circuit → Hello → Option End → Circuit
heard_on r link c h None = c
heard_on r link c h (Some e) = if c.works then record { works = true; adjacency = after_hello r.system (circuit_id link) e.peer c.adjacency h } else c

abbrev pub heard : Option RouterConf → ℕ → Circuit → Hello → Circuit
heard None link c h = c
heard (Some r) link c h = heard_on r link c h (slice_get r.ends link)

-- The hello at index i of those from a to b is removed from there.
abbrev pub hello_gone : CircuitsState → ℕ → ℕ → ℕ → CircuitsState
hello_gone s a link i = record s { hellos = without_hello s.hellos a link i }

abbrev pub arrives : CircuitsState → ℕ → ℕ → ℕ → ℕ → ℕ → Option Hello → Happened
arrives s a link b back i None = quiet s
arrives s a link b back i (Some h) = replaces (hello_gone s a link i) b a back (heard (slice_get s.domain.routers b) back (circuit_at s.circuits b back) h)

-- it leaves the interface `link` of a, and arrives at the interface `back` of b
abbrev pub arrives_over : CircuitsState → ℕ → ℕ → ℕ → Option ℕ → Option ℕ → Happened
arrives_over s a b i None back = quiet s
arrives_over s a b i (Some link) None = quiet s
arrives_over s a b i (Some link) (Some back) = arrives s a link b back i (slice_get (hellos_at s.hellos a link) i)

-- it is lost
abbrev pub forgets : CircuitsState → ℕ → ℕ → Option ℕ → Happened
forgets s a i None = quiet s
forgets s a i (Some link) = quiet (hello_gone s a link i)

-- ---- a second, or a restart

abbrev pub turned_circuit : Turn → Circuit → Circuit
turned_circuit turn c = record { works = c.works; adjacency = turned turn c.adjacency }

-- the changes of a router's adjacencies, by interface in order
abbrev pub changes_at : List RouterConf → ℕ → Turn → List End → List Circuit → List EndChange
changes_at confs a turn [] cs = []
changes_at confs a turn (e ∷ es) [] = []
changes_at confs a turn (e ∷ es) (c ∷ cs) = changed a (place_of confs e.peer) c.adjacency (turned turn c.adjacency) ++ changes_at confs a turn es cs

abbrev pub turns_at : CircuitsState → ℕ → Turn → Option RouterConf → Happened
turns_at s a turn None = quiet s
turns_at s a turn (Some r) = record {
  state = record s { circuits = slice_set s.circuits a (map (turned_circuit turn) (slice_index_or s.circuits a [])) };
  out = record { sent = None; changes = changes_at s.domain.routers a turn r.ends (slice_index_or s.circuits a []) };
}

-- ---- the events

abbrev pub doing : CircuitsState → HelloEvent → Happened
doing s (events.Hello a b) = sends s a (link_between s.domain.routers a b)
doing s (events.Greet a b i) = arrives_over s a b i (link_between s.domain.routers a b) (link_between s.domain.routers b a)
doing s (events.Forget a b i) = forgets s a i (link_between s.domain.routers a b)
doing s (events.Break a b) = replaces_over s a b broken (link_between s.domain.routers a b)
doing s (events.Mend a b) = replaces_over s a b fresh (link_between s.domain.routers a b)
doing s (events.Tick a) = turns_at s a turns.Second (slice_get s.domain.routers a)
doing s (events.Restart a) = turns_at s a turns.Restart (slice_get s.domain.routers a)

-- the count of events, increased by one
abbrev pub counted : Happened → Happened
counted n = record n { state = record n.state { events = n.state.events + 1 } }

-- What an event does.
unfoldable pub happens : CircuitsState → HelloEvent → Happened
happens s e = counted (doing s e)

-- ---- which events are allowed

-- the reason if it applies, otherwise the next that does
abbrev pub first_fault : Bool → CircuitFault → Option CircuitFault → Option CircuitFault
first_fault true reason next = Some reason
first_fault false reason next = next

abbrev pub unless_joined : CircuitsState → ℕ → ℕ → Option CircuitFault → Option CircuitFault
unless_joined s a b next = first_fault (is_none (link_between s.domain.routers a b)) faults.NoLink next

abbrev pub unless_room : CircuitsState → Option CircuitFault
unless_room s = first_fault (nat_le MOST_HELLOS (hello_count s.hellos)) faults.InFlight None

-- no hello has that index
abbrev pub hello_fault : Option Hello → ℕ → ℕ → Option CircuitFault
hello_fault None i n = Some (faults.NoFrame i n)
hello_fault (Some h) i n = None

abbrev pub taken_fault : CircuitsState → ℕ → ℕ → ℕ → Option CircuitFault
taken_fault s a b i = unless_joined s a b (hello_fault (slice_get (hellos_between s a b) i) i (length (hellos_between s a b)))

-- the reasons of an event's own rules
abbrev pub rule_fault : CircuitsState → HelloEvent → Option CircuitFault
rule_fault s (events.Hello a b) = unless_joined s a b (first_fault (not (circuit_between s a b).works) faults.EndState (unless_room s))
rule_fault s (events.Greet a b i) = taken_fault s a b i
rule_fault s (events.Forget a b i) = taken_fault s a b i
rule_fault s (events.Break a b) = unless_joined s a b (first_fault (not (circuit_between s a b).works) faults.EndState None)
rule_fault s (events.Mend a b) = unless_joined s a b (first_fault (circuit_between s a b).works faults.EndState None)
rule_fault s (events.Tick a) = None
rule_fault s (events.Restart a) = None

-- The first reason why an event is not allowed, in the order of their numbers; none if it is allowed.
unfoldable pub circuit_fault : CircuitsState → HelloEvent → Option CircuitFault
circuit_fault s e = first_fault (nat_le MOST_HELLO_EVENTS s.events) faults.Events (rule_fault s e)

-- An error is the first reason that applies, or out of memory.
abbrev pub Refuses : Option CircuitFault → CircuitFault → Type 0
Refuses first faults.Events = first ≡ Some faults.Events
Refuses first faults.NoLink = first ≡ Some faults.NoLink
Refuses first faults.EndState = first ≡ Some faults.EndState
Refuses first faults.InFlight = first ≡ Some faults.InFlight
Refuses first (faults.NoFrame i n) = first ≡ Some (faults.NoFrame i n)
Refuses first faults.Memory = Unit {0}

-- ---- what is sent is what arrives

abbrev pub hello_carried : Carried → Option Hello
hello_carried (IsisPdu octets) = result_ok (hello_at octets)
hello_carried (MplsPacket octets) = None
hello_carried (BierPacket octets) = None
hello_carried (IpPacket octets) = None
hello_carried OtherFrame = None

abbrev pub hello_framed : Result Carried FrameFault → Option Hello
hello_framed (Ok carried) = hello_carried carried
hello_framed (Err f) = None

-- the hello that a receiver parses from a frame
unfoldable pub hello_in : List ℕ → Option Hello
hello_in frame = hello_framed (frame_at frame)

-- The frame was sent by router a on that interface: the hello that a receiver parses from it is now the last in flight from
-- there.
pub record IsSentHello (old new : CircuitsState) (a link : ℕ) (frame : List ℕ) : Type 0 where
  pub h : Hello
  pub queued : new.hellos ≡ push_hello old.hellos a link h
  pub parsed : hello_in frame ≡ Some h

abbrev pub IsSentOn : CircuitsState → CircuitsState → ℕ → Option ℕ → Option (List ℕ) → Type 0
IsSentOn old new a link None = Unit {0}
IsSentOn old new a None (Some frame) = ⊥
IsSentOn old new a (Some link) (Some frame) = IsSentHello old new a link frame

-- only a hello that is sent has a frame
abbrev pub IsSent : CircuitsState → CircuitsState → HelloEvent → Option (List ℕ) → Type 0
IsSent old new (events.Hello a b) (Some frame) = IsSentOn old new a (link_between old.domain.routers a b) (Some frame)
IsSent old new (events.Hello a b) None = ⊥
IsSent old new (events.Greet a b i) sent = sent ≡ None
IsSent old new (events.Forget a b i) sent = sent ≡ None
IsSent old new (events.Break a b) sent = sent ≡ None
IsSent old new (events.Mend a b) sent = sent ≡ None
IsSent old new (events.Tick a) sent = sent ≡ None
IsSent old new (events.Restart a) sent = sent ≡ None

-- what an event reported and left is what happens
pub record Did (n : Happened) (out : HelloOut) (new : CircuitsState) : Type 0 where
  pub reported : out ≡ n.out
  pub state : new ≡ n.state
