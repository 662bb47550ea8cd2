-- The hellos of one router on a live stream: a fold over its records, frames and events.
--
-- Each interface has a circuit, which works or is broken, and the adjacency of a three-way handshake on it (RFC 5303, 3).
use Rattle.std.specs.Prelude.{ℕ, ◌+◌, ◌%◌, ◌==◌, Bool, true, false, List, [], ◌∷◌, ◌++◌, map, take, drop, replicate, slice_get, slice_index_or, slice_set, Option, Some, None, Result, Ok, Err, codes, if◌then◌else◌}
use Rattle.std.specs.List.{fold, flat_map}
use Rattle.std.specs.Str.{bytes_eq}
use Rattle.std.specs.Fmt.{decimal}
use Rattle.byteorder.specs.Endian.{big_bytes}
use Rattle.wire_base.specs.declared.addresses.SystemId.{SystemId}
use Rattle.wire_base.specs.declared.conf.End.{End}
use Rattle.wire_base.specs.declared.conf.RouterConf.{RouterConf}
use Rattle.wire_base.specs.declared.limits.TheConstants.{CAPTURE_LIMIT}
use Rattle.wire_base.specs.declared.status.Status.{Status}
use Rattle.wire_base.specs.declared.status.Status.TheVariants.{Done, ReadFault}
use Rattle.wire_base.specs.model.Capture.{written_header, written_record}
use Rattle.wire_base.specs.model.Control.{same_system}
use Rattle.pcapng_frames.specs.declared.packet.NgRecord.{NgRecord}
use Rattle.isis_hello.specs.declared.adjacency.Adjacency.{Adjacency}
use Rattle.isis_hello.specs.declared.adjacency.Circuit.{Circuit}
use Rattle.wire_base.specs.declared.hello_event.HelloEvent.{HelloEvent}
use Rattle.wire_base.specs.declared.hello_event.HelloEvent.TheVariants as hellos
use Rattle.isis_hello.specs.declared.hello.Hello.{Hello}
use Rattle.isis_hello.specs.Adjacency.{after_hello, after_tick, is_up}
use Rattle.isis_hello.specs.Circuits.{fresh, broken, circuit_id, hello_of}
use Rattle.isis_hello.specs.Events.{hello_in}
use Rattle.isis_hello.specs.Hello.{circuit_type, hello_body, hello_tlvs}
use Rattle.isis_hello.specs.declared.codepoints.TheConstants.{HELLO_FRONT, HELLO_TYPE}
use Rattle.wire_base.specs.model.Item.{isis_frame}
use Rattle.wire_base.specs.model.Pdu.{common}
use Rattle.wire_base.specs.model.Tlv.{Tlv, tlv}
use Rattle.live_stream.specs.declared.hello_pdu.TheConstants.{TLV_INTERFACE_ADDRESSES}
use Rattle.replay_text.specs.declared.event.Event.{Event}
use Rattle.replay_text.specs.declared.event.Event.TheVariants as events
use Rattle.replay_text.specs.declared.event.Line.TheVariants as line
use Rattle.replay_text.specs.declared.fault.TextFault.{TextFault}
use Rattle.replay_text.specs.declared.hand.HandLine.{HandLine}
use Rattle.replay_text.specs.declared.hand.HandLine.TheVariants as hand
use Rattle.replay_text.specs.Hand.{hand_line}
use Rattle.replay_text.specs.Report.{line_of}
use Rattle.command_drive.specs.Answer.{Verdict}
use Rattle.command_drive.specs.Captured.{refused_by, too_long}
use Rattle.command_drive.specs.CaptureReading.{any_unread}
use Rattle.command_drive.specs.Driving.{Meaning}
use Rattle.command_drive.specs.Reading.{Behind, Closed, Cut}
use Rattle.command_drive.specs.Records.{records_read}
use Rattle.command_drive.specs.declared.items.Close.TheVariants as close
use Rattle.command_node.specs.NodeRun.{link_of}
use Rattle.live_stream.specs.declared.event.TheConstants.{EVENT_TYPE, EVENT_VERSION}
use Rattle.live_stream.specs.declared.greeting.Greeting.{Greeting}
use Rattle.live_stream.specs.declared.greeting.Greeting.TheVariants as greeting
use Rattle.live_stream.specs.declared.fault.LiveFault.{LiveFault}
use Rattle.live_stream.specs.declared.fault.LiveFault.TheVariants as fault
use Rattle.live_stream.specs.Events.{Seat, names_of, is_own, is_event, toward}
use Rattle.live_stream.specs.LiveRun.{refused_text}

-- ---- the state

-- The router's configuration, the circuit of each interface, how many records were done, and both texts so far.
pub record Greeter : Type 0 where
  pub conf : RouterConf
  pub circuits : List Circuit
  pub records : ℕ
  pub frames : List ℕ
  pub report : List ℕ

-- each circuit works, and each adjacency is down
abbrev pub first_greeter : RouterConf → Greeter
first_greeter r = record { conf = r; circuits = map (λ e. fresh) r.ends; records = 0; frames = written_header; report = [] }

abbrev pub circuit_on : List Circuit → ℕ → Circuit
circuit_on cs link = slice_index_or cs link broken

-- the circuits after a record, and the records that are written
pub record Turned : Type 0 where
  pub circuits : List Circuit
  pub text : List ℕ

abbrev pub kept : List Circuit → Turned
kept cs = record { circuits = cs; text = [] }

-- ---- what is written

-- a record with the time of the one that causes it
abbrev pub written : NgRecord → List ℕ → List ℕ
written read octets = written_record read.cap.sec read.cap.usec octets

-- the frame of an event: two empty addresses, the type, the version, and the line
abbrev pub event_frame : List ℕ → List ℕ
event_frame text = replicate 12 0 ++ (big_bytes 2 EVENT_TYPE ++ (EVENT_VERSION ∷ text))

-- the name of the first router with a system ID
abbrev pub name_in : List RouterConf → SystemId → List ℕ
name_in [] system = []
name_in (r ∷ rs) system = if same_system r.system system then r.name else name_in rs system

-- `up A B` or `down A B`, for router A and the neighbor B of an interface
abbrev pub change_line : Seat → RouterConf → End → Bool → List ℕ
change_line s r e up = (if up then codes "up " else codes "down ") ++ (r.name ++ 32 ∷ name_in s.domain.routers e.peer)

-- what an adjacency that moved lets the router know: that the interface came up, or went down
abbrev pub changed_to : Seat → NgRecord → RouterConf → End → Bool → Bool → List ℕ
changed_to s read r e true true = []
changed_to s read r e false false = []
changed_to s read r e old new = written read (event_frame (change_line s r e new))

abbrev pub changed : Seat → NgRecord → RouterConf → End → Adjacency → Adjacency → List ℕ
changed s read r e old new = changed_to s read r e (is_up old) (is_up new)

-- ---- a hello that is sent

-- The address of the interface that the event of a hello has: the last four octets of its source address, unless they are 0.
abbrev pub address_in : List ℕ → Option (List ℕ)
address_in octets = if bytes_eq (take 4 (drop 8 octets)) (0 ∷ 0 ∷ 0 ∷ 0 ∷ []) then None else Some (take 4 (drop 8 octets))

-- it is listed in a TLV of its own (RFC 1195, 5.3.2)
abbrev pub address_tlvs : Option (List ℕ) → List Tlv
address_tlvs None = []
address_tlvs (Some address) = record { code = TLV_INTERFACE_ADDRESSES; value = address } ∷ []

abbrev pub hello_octets : RouterConf → Hello → Option (List ℕ) → List ℕ
hello_octets r h address = common HELLO_FRONT HELLO_TYPE ++ hello_body (circuit_type r.level) (h.circuit % 256) h (flat_map tlv (hello_tlvs r.area h ++ address_tlvs address))

abbrev pub hello_frame : RouterConf → End → Hello → Option (List ℕ) → List ℕ
hello_frame r e h address = isis_frame e.own_mac (hello_octets r h address)

-- the hello of an interface with that circuit, for an event
abbrev pub greeting_frame : RouterConf → ℕ → End → Circuit → List ℕ → List ℕ
greeting_frame r link e c event = hello_frame r e (hello_of r.system link e.peer c.adjacency) (address_in event)

-- ---- what happens

-- an interface has another circuit
abbrev pub becomes : Seat → NgRecord → RouterConf → List Circuit → ℕ → Circuit → Option End → Turned
becomes s read r cs link c None = kept cs
becomes s read r cs link c (Some e) = record { circuits = slice_set cs link c; text = changed s read r e (circuit_on cs link).adjacency c.adjacency }

abbrev pub replaces : Seat → NgRecord → RouterConf → List Circuit → ℕ → Circuit → Turned
replaces s read r cs link c = becomes s read r cs link c (slice_get r.ends link)

-- a hello is received: on a broken circuit it changes nothing
abbrev pub after_frame : SystemId → ℕ → Circuit → Hello → Option End → Circuit
after_frame own link c h None = c
after_frame own link c h (Some e) = if c.works then record { works = true; adjacency = after_hello own (circuit_id link) e.peer c.adjacency h } else c

abbrev pub hears : Seat → NgRecord → RouterConf → List Circuit → ℕ → Option Hello → Turned
hears s read r cs link None = kept cs
hears s read r cs link (Some h) = replaces s read r cs link (after_frame r.system link (circuit_on cs link) h (slice_get r.ends link))

abbrev pub receives : Seat → NgRecord → RouterConf → List Circuit → Option ℕ → Turned
receives s read r cs None = kept cs
receives s read r cs (Some link) = hears s read r cs link (hello_in read.cap.octets)

-- a second passes: each holding time falls
abbrev pub later : Circuit → Circuit
later c = record { works = c.works; adjacency = after_tick c.adjacency }

abbrev pub changes : Seat → NgRecord → RouterConf → List End → List Circuit → List ℕ
changes s read r [] cs = []
changes s read r (e ∷ es) [] = []
changes s read r (e ∷ es) (c ∷ cs) = changed s read r e c.adjacency (after_tick c.adjacency) ++ changes s read r es cs

abbrev pub second : Seat → NgRecord → RouterConf → List Circuit → Turned
second s read r cs = record { circuits = map later cs; text = changes s read r r.ends cs }

-- a hello is sent: the state of the adjacency, and the neighbor unless that is down
abbrev pub sends_over : NgRecord → RouterConf → List Circuit → ℕ → Option End → Turned
sends_over read r cs link None = kept cs
sends_over read r cs link (Some e) = record { circuits = cs; text = written read (greeting_frame r link e (circuit_on cs link) read.cap.octets) }

abbrev pub sends : NgRecord → RouterConf → List Circuit → ℕ → Turned
sends read r cs link = sends_over read r cs link (slice_get r.ends link)

-- ---- events

-- a line with an event of hellos
abbrev pub greeting_of : HelloEvent → Result Greeting LiveFault
greeting_of (hellos.Hello from to) = Ok (greeting.Hello from to)
greeting_of (hellos.Break from to) = Ok (greeting.Break from to)
greeting_of (hellos.Mend from to) = Ok (greeting.Mend from to)
greeting_of other = Err fault.Kind

abbrev pub second_of : Event → Result Greeting LiveFault
second_of (events.Tick router) = Ok (greeting.Second router)
second_of other = Err fault.Kind

abbrev pub said : HandLine → Result Greeting LiveFault
said (hand.Hello e) = greeting_of e
said (hand.Base (line.One e)) = second_of e
said (hand.Base other) = Err fault.Kind

abbrev pub one_greeting : Result HandLine TextFault → Result Greeting LiveFault
one_greeting (Ok said_line) = said said_line
one_greeting (Err why) = Err (fault.Line why)

-- After the Ethernet header: the version, 1, and a line of a schedule of hellos.
abbrev pub greeting_at : (names : List (List ℕ)) → List ℕ → Result Greeting LiveFault
greeting_at names [] = Err fault.Version
greeting_at names (version ∷ text) = if version == EVENT_VERSION then one_greeting (hand_line text names) else Err fault.Version

abbrev pub router_at : Greeting → ℕ
router_at (greeting.Hello from to) = from
router_at (greeting.Break from to) = from
router_at (greeting.Mend from to) = from
router_at (greeting.Second router) = router

abbrev pub link_toward : Seat → RouterConf → ℕ → Option ℕ
link_toward s r to = toward r.ends (slice_get s.domain.routers to)

-- An event needs an interface whose circuit works, or is broken.
abbrev pub unless_works : Bool → Bool → Option LiveFault
unless_works true true = None
unless_works false false = None
unless_works wanted works = Some fault.EndState

abbrev pub fault_on : List Circuit → Bool → Option ℕ → Option LiveFault
fault_on cs works None = Some fault.NoLink
fault_on cs works (Some link) = unless_works works (circuit_on cs link).works

abbrev pub fault_at : Seat → RouterConf → List Circuit → Greeting → Option LiveFault
fault_at s r cs (greeting.Hello from to) = fault_on cs true (link_toward s r to)
fault_at s r cs (greeting.Break from to) = fault_on cs true (link_toward s r to)
fault_at s r cs (greeting.Mend from to) = fault_on cs false (link_toward s r to)
fault_at s r cs (greeting.Second router) = None

-- The reason why an event is not done, if there is one.
abbrev pub greeting_fault : Seat → RouterConf → List Circuit → Greeting → Option LiveFault
greeting_fault s r cs e = if is_own s (router_at e) then fault_at s r cs e else Some fault.Router

abbrev pub sends_to : NgRecord → RouterConf → List Circuit → Option ℕ → Turned
sends_to read r cs None = kept cs
sends_to read r cs (Some link) = sends read r cs link

abbrev pub replaces_to : Seat → NgRecord → RouterConf → List Circuit → Circuit → Option ℕ → Turned
replaces_to s read r cs c None = kept cs
replaces_to s read r cs c (Some link) = replaces s read r cs link c

-- The circuits after an event, and what is written.
abbrev pub greets : Seat → NgRecord → RouterConf → List Circuit → Greeting → Turned
greets s read r cs (greeting.Hello from to) = sends_to read r cs (link_toward s r to)
greets s read r cs (greeting.Break from to) = replaces_to s read r cs broken (link_toward s r to)
greets s read r cs (greeting.Mend from to) = replaces_to s read r cs fresh (link_toward s r to)
greets s read r cs (greeting.Second router) = second s read r cs

-- ---- a record

abbrev pub turned : Greeter → Turned → Greeter
turned g t = record g { circuits = t.circuits; frames = g.frames ++ t.text }

abbrev pub refuses : Greeter → LiveFault → Greeter
refuses g why = record g { report = g.report ++ refused_text g.records why }

abbrev pub greeted_unless : Option LiveFault → Seat → NgRecord → Greeter → Greeting → Greeter
greeted_unless None s read g e = turned g (greets s read g.conf g.circuits e)
greeted_unless (Some why) s read g e = refuses g why

abbrev pub greeted : Seat → NgRecord → Greeter → Greeting → Greeter
greeted s read g e = greeted_unless (greeting_fault s g.conf g.circuits e) s read g e

abbrev pub greeted_if : Seat → NgRecord → Greeter → Result Greeting LiveFault → Greeter
greeted_if s read g (Ok e) = greeted s read g e
greeted_if s read g (Err why) = refuses g why

abbrev pub evented : Seat → NgRecord → Greeter → Greeter
evented s read g = greeted_if s read g (greeting_at (names_of s.domain) (drop 14 read.cap.octets))

abbrev pub received : Seat → NgRecord → Greeter → Greeter
received s read g = turned g (receives s read g.conf g.circuits (link_of g.conf read))

abbrev pub streamed : Seat → NgRecord → Greeter → Greeter
streamed s read g = if is_event read then evented s read g else received s read g

abbrev pub counts : Greeter → Greeter
counts g = record g { records = g.records + 1 }

-- A record is counted, and then done.
unfoldable pub hello_done : Seat → Greeter → NgRecord → Greeter
hello_done s g read = streamed s read (counts g)

-- ---- the stream

unfoldable pub hello_reach : Seat → Greeter → List NgRecord → Greeter
hello_reach s g reads = fold (hello_done s) g reads

-- a stream that ends as it should: `done records R`
abbrev pub end_by : Behind → ℕ → Status × List ℕ
end_by (Closed close.Ended) records = (Done, line_of (codes "done" ∷ codes "records" ∷ decimal records ∷ []))
end_by (Closed close.TooLong) records = too_long records
end_by (Closed (close.Broken why)) records = refused_by records why
end_by Cut records = (ReadFault, [])

abbrev pub hello_ends : Behind → Greeter → Verdict
hello_ends how g = record { status = (end_by how g.records).0; report = g.report ++ (end_by how g.records).1; frames = g.frames }

-- The status and both texts on the octets of a stream after which its source ends, or fails. A stream has at most 268,435,456
-- octets.
unfoldable pub hello_means : Seat → RouterConf → Meaning
hello_means s r end octets = let given = records_read any_unread CAPTURE_LIMIT false end octets in hello_ends given.behind (hello_reach s (first_greeter r) given.items)
