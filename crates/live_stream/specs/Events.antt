-- Events in the records of a live stream: how the frame of one spells it, and what it does at the router, or why it is not done.
use Rattle.std.specs.Prelude.{ℕ, ◌≡◌, ◌≤◌, ◌==◌, ◌&&◌, nat_le, Bool, List, [], ◌∷◌, length, map, drop, slice_get, Option, Some, None, Result, Ok, Err, if◌then◌else◌}
use Rattle.byteorder.specs.Endian.{big_number}
use Rattle.wire_base.specs.declared.bsl.Bsl.{Bsl}
use Rattle.wire_base.specs.declared.conf.End.{End}
use Rattle.wire_base.specs.declared.conf.RouterConf.{RouterConf}
use Rattle.wire_base.specs.declared.faults.EdgeFault.{EdgeFault}
use Rattle.wire_base.specs.declared.limits.TheConstants.{MOST_ROUTERS}
use Rattle.wire_base.specs.declared.faults.EdgeFault.TheVariants as edge
use Rattle.wire_base.specs.model.Choice.{end_toward}
use Rattle.wire_base.specs.model.Configuration.{DomainConf}
use Rattle.wire_base.specs.model.Control.{Control}
use Rattle.wire_base.specs.model.Flooding as flooding
use Rattle.wire_base.specs.model.Ingress.{edge_fault, inject}
use Rattle.wire_base.specs.model.OnFrame.{Effects, Next, nothing, unchanged, framed}
use Rattle.laws_router.specs.State.{is_up}
use Rattle.pcapng_frames.specs.declared.packet.NgRecord.{NgRecord}
use Rattle.replay_text.specs.declared.event.Event.{Event}
use Rattle.replay_text.specs.declared.event.Event.TheVariants as event
use Rattle.replay_text.specs.declared.event.Line.{Line}
use Rattle.replay_text.specs.declared.event.Line.TheVariants as line
use Rattle.replay_text.specs.declared.fault.TextFault.{TextFault}
use Rattle.replay_text.specs.Schedule.{schedule_line}
use Rattle.live_stream.specs.declared.event.TheConstants.{EVENT_TYPE, EVENT_VERSION}
use Rattle.live_stream.specs.declared.fault.LiveFault.{LiveFault}
use Rattle.live_stream.specs.declared.fault.LiveFault.TheVariants as fault

-- ---- the router's place

-- the domain, and the index of the router that runs
pub record Seat : Type 0 where
  pub domain : DomainConf
  pub place : ℕ

abbrev pub names_of : DomainConf → List (List ℕ)
names_of d = map (λ r. r.name) d.routers

-- the names of a domain's routers, as a seat keeps them
pub record IsSeat (d : DomainConf) (names : List (List ℕ)) : Type 0 where
  pub named : names ≡ names_of d
  pub few : length names ≤ MOST_ROUTERS

abbrev pub is_own : Seat → ℕ → Bool
is_own s router = router == s.place

-- ---- how an event is spelled

-- a whole Ethernet frame of the type of events
abbrev pub is_event : NgRecord → Bool
is_event read = read.ethernet && (read.cap.whole && (nat_le 14 (length read.cap.octets) && (big_number 2 (drop 12 read.cap.octets) == EVENT_TYPE)))

-- a line with one event; out of memory is no reason, and is excluded by the code
abbrev pub one_event : Result Line TextFault → Result Event LiveFault
one_event (Ok (line.One e)) = Ok e
one_event (Ok other) = Err fault.Kind
one_event (Err why) = Err (fault.Line why)

-- After the Ethernet header: the version, 1, and to the end of the frame a line of a schedule, without a line ending.
abbrev pub event_at : (names : List (List ℕ)) → List ℕ → Result Event LiveFault
event_at names [] = Err fault.Version
event_at names (version ∷ text) = if version == EVENT_VERSION then one_event (schedule_line text names) else Err fault.Version

-- ---- what an event does

-- a control state, and nothing that is seen from outside
abbrev pub still : Control → Next
still c = record { control = c; effects = nothing }

-- the interface that leads to a router
abbrev pub toward : List End → Option RouterConf → Option ℕ
toward ends None = None
toward ends (Some q) = end_toward ends q.system

abbrev pub link_to : Seat → Control → ℕ → Option ℕ
link_to s c to = toward c.conf.ends (slice_get s.domain.routers to)

abbrev pub over : Option ℕ → (ℕ → Result Next LiveFault) → Result Next LiveFault
over None does = Err fault.NoLink
over (Some link) does = does link

abbrev pub comes_up : Control → ℕ → Result Next LiveFault
comes_up c link = if is_up c link then Err fault.EndState else Ok (still (flooding.end_up c link).control)

abbrev pub goes_down : Control → ℕ → Result Next LiveFault
goes_down c link = if is_up c link then Ok (still (flooding.end_down c link).control) else Err fault.EndState

abbrev pub sends : Control → ℕ → Result Next LiveFault
sends c link = if is_up c link then Ok (framed link (flooding.send c link)) else Err fault.EndState

-- what is injected enters, unless there is a reason against it
abbrev pub enters_unless : Option EdgeFault → Control → Effects → Result Next LiveFault
enters_unless None c effects = Ok (unchanged c effects)
enters_unless (Some why) c effects = Err (fault.Edge why)

abbrev pub enters : Control → ℕ → Bsl → List ℕ → ℕ → ℕ → List ℕ → Result Next LiveFault
enters c sd bsl ids ttl entropy payload = enters_unless (edge_fault c.conf sd bsl ids) c (inject c sd bsl ids ttl entropy payload)

-- an event at the router, whichever router it names
abbrev pub done_at : Seat → Control → Event → Result Next LiveFault
done_at s c (event.Inject router sd bsl ids ttl entropy payload) = enters c sd bsl ids ttl entropy payload
done_at s c (event.Down from to) = over (link_to s c to) (goes_down c)
done_at s c (event.Up from to) = over (link_to s c to) (comes_up c)
done_at s c (event.Send from to) = over (link_to s c to) (sends c)
done_at s c (event.Tick router) = Ok (still (flooding.tick c).control)
done_at s c (event.Restart router) = Ok (still (flooding.restart c).control)
done_at s c other = Err fault.Kind

-- the router at which an event happens; none if it is not an event of one running router
abbrev pub router_of : Event → Option ℕ
router_of (event.Inject router sd bsl ids ttl entropy payload) = Some router
router_of (event.Down from to) = Some from
router_of (event.Up from to) = Some from
router_of (event.Send from to) = Some from
router_of (event.Tick router) = Some router
router_of (event.Restart router) = Some router
router_of other = None

abbrev pub where_own : Seat → Option ℕ → Result Next LiveFault → Result Next LiveFault
where_own s None next = Err fault.Kind
where_own s (Some router) next = if is_own s router then next else Err fault.Router

-- The next control state and what the router sends, delivers and drops; or why the event is not done.
unfoldable pub event_next : Seat → Control → Event → Result Next LiveFault
event_next s c e = where_own s (router_of e) (done_at s c e)

-- ---- calls

-- A call did what an event does.
abbrev pub Happened : Result Effects LiveFault → Result Next LiveFault → (old new : Control) → Type 0
Happened (Ok e) next old new = next ≡ Ok (record { control = new; effects = e })
Happened (Err why) next old new = (next ≡ Err why) × (new ≡ old)

-- The outcome of an injection is its result; out of memory has none.
abbrev pub Entered : Result Effects EdgeFault → Result Effects LiveFault → Type 0
Entered (Ok e) outcome = outcome ≡ Ok e
Entered (Err edge.Memory) outcome = ⊥
Entered (Err why) outcome = outcome ≡ Err (fault.Edge why)
