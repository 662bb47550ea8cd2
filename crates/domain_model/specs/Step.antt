-- What an event does to a domain: one event at one router (RFC 8279, 6; ISO/IEC 10589, 7.3.15 to 7.3.17).
--
-- What happens is defined for every event, and separately why an event is not allowed; a step combines both. An event
-- that names something that does not exist changes nothing.
use Rattle.std.specs.Prelude.{ℕ, ◌+◌, List, slice_get, slice_set, Option, Some, None, Result, Ok, Err, if◌then◌else◌}
use Rattle.std.specs.List.{fold}
use Rattle.wire_base.specs.declared.cause.Cause.TheVariants as cause
use Rattle.wire_base.specs.model.Control.{Control}
use Rattle.wire_base.specs.model.Flooding.{Reply, on_pdu, tick, send, end_up, end_down, relabel, leave, join, restart}
use Rattle.wire_base.specs.model.Item.{Item, ControlItem, PacketItem}
use Rattle.replay_text.specs.declared.event.Event.{Event}
use Rattle.replay_text.specs.declared.event.Event.TheVariants.{Inject, Take, Lose, Again, Down, Up, Send, Tick, Restart, Relabel, Leave, Join}
use Rattle.domain_model.specs.declared.fault.EventFault.{EventFault}
use Rattle.domain_model.specs.World.{WorldState, is_up, link_between, queue_at, push_item, without_item}
use Rattle.domain_model.specs.Moves.{Sending, Made, none_made, item_lost, replied, packet_taken, inject_made}
use Rattle.domain_model.specs.Faults.{event_fault}

-- the next state, and what was sent, delivered and dropped
pub record Happened : Type 0 where
  pub world : WorldState
  pub made : Made

-- nothing happens
abbrev pub same_world : WorldState → Happened
same_world w = record { world = w; made = none_made }

-- ---- changes

abbrev pub with_router : WorldState → ℕ → Control → WorldState
with_router w a c = record w { routers = slice_set w.routers a c }

abbrev pub push_sending : List (List (List Item)) → Sending → List (List (List Item))
push_sending flights s = push_item flights s.from s.link s.item

-- what is sent is queued at the end of its direction, in order
abbrev pub push_all : List (List (List Item)) → List Sending → List (List (List Item))
push_all flights sendings = fold push_sending flights sendings

abbrev pub makes : WorldState → Made → Happened
makes w m = record { world = record w { flights = push_all w.flights m.sent }; made = m }

-- a router's flooding replies on an interface
abbrev pub replies : WorldState → ℕ → ℕ → Reply → Happened
replies w a link reply = makes (with_router w a reply.control) (replied w.domain.routers a link reply)

-- a router's control state changes, and nothing is sent
abbrev pub turns : WorldState → ℕ → Reply → Happened
turns w a reply = same_world (with_router w a reply.control)

abbrev pub taken_off : WorldState → ℕ → ℕ → ℕ → WorldState
taken_off w a link i = record w { flights = without_item w.flights a link i }

-- ---- arrival, loss and duplication

-- an item arrives at a router's interface, which is up
abbrev pub arrives : WorldState → ℕ → ℕ → Control → Item → Happened
arrives w b back c (ControlItem p) = replies w b back (on_pdu c back p)
arrives w b back c (PacketItem x) = makes w (packet_taken w.domain.routers b c x x.outer)

-- at an interface that is down it is dropped
abbrev pub comes : WorldState → ℕ → ℕ → Control → Item → Happened
comes w b back c x = if is_up c back then arrives w b back c x else makes w (item_lost b cause.Link x)

-- The item at index i of what is in flight from a to b is delivered: it leaves the interface `link` of a, and arrives
-- at the interface `back` of b.
abbrev pub takes : WorldState → ℕ → ℕ → ℕ → ℕ → ℕ → Option Item → Option Control → Happened
takes w a link b back i None c = same_world w
takes w a link b back i (Some x) None = same_world w
takes w a link b back i (Some x) (Some c) = comes (taken_off w a link i) b back c x

abbrev pub takes_over : WorldState → ℕ → ℕ → ℕ → Option ℕ → Option ℕ → Happened
takes_over w a b i None back = same_world w
takes_over w a b i (Some link) None = same_world w
takes_over w a b i (Some link) (Some back) = takes w a link b back i (slice_get (queue_at w.flights a link) i) (slice_get w.routers b)

-- the item is lost: the router that it was for drops it
abbrev pub loses : WorldState → ℕ → ℕ → ℕ → ℕ → Option Item → Happened
loses w a link b i None = same_world w
loses w a link b i (Some x) = makes (taken_off w a link i) (item_lost b cause.Lost x)

abbrev pub loses_over : WorldState → ℕ → ℕ → ℕ → Option ℕ → Happened
loses_over w a b i None = same_world w
loses_over w a b i (Some link) = loses w a link b i (slice_get (queue_at w.flights a link) i)

-- A PDU is duplicated: a copy is queued at the end of its direction, and nothing counts as sent. A packet is not
-- duplicated.
abbrev pub repeats : WorldState → ℕ → ℕ → Option Item → Happened
repeats w a link None = same_world w
repeats w a link (Some (PacketItem x)) = same_world w
repeats w a link (Some (ControlItem p)) = same_world (record w { flights = push_item w.flights a link (ControlItem p) })

abbrev pub repeats_over : WorldState → ℕ → ℕ → Option ℕ → Happened
repeats_over w a i None = same_world w
repeats_over w a i (Some link) = repeats w a link (slice_get (queue_at w.flights a link) i)

-- ---- what a router does by itself

-- a payload is injected, with the next injection number
abbrev pub injects : WorldState → ℕ → (Control → Made) → Option Control → Happened
injects w a enter None = same_world w
injects w a enter (Some c) = makes (record w { injections = w.injections + 1 }) (enter c)

-- an interface changes
abbrev pub changes_end : WorldState → ℕ → (Control → ℕ → Reply) → Option Control → Option ℕ → Happened
changes_end w a change None link = same_world w
changes_end w a change (Some c) None = same_world w
changes_end w a change (Some c) (Some link) = turns w a (change c link)

-- what is due is sent on an interface
abbrev pub sends : WorldState → ℕ → Option Control → Option ℕ → Happened
sends w a None link = same_world w
sends w a (Some c) None = same_world w
sends w a (Some c) (Some link) = replies w a link (send c link)

-- a second, a restart, other labels, or a sub-domain that is left or joined
abbrev pub changes : WorldState → ℕ → (Control → Reply) → Option Control → Happened
changes w a change None = same_world w
changes w a change (Some c) = turns w a (change c)

-- ---- the events

abbrev pub doing : WorldState → Event → Happened
doing w (Inject a sd bsl ks ttl entropy payload) =
    injects w a (λ c. inject_made w.domain.routers a c (w.injections + 1) sd bsl ks ttl entropy payload) (slice_get w.routers a)
doing w (Take a b i) = takes_over w a b i (link_between w.domain.routers a b) (link_between w.domain.routers b a)
doing w (Lose a b i) = loses_over w a b i (link_between w.domain.routers a b)
doing w (Again a b i) = repeats_over w a i (link_between w.domain.routers a b)
doing w (Down a b) = changes_end w a end_down (slice_get w.routers a) (link_between w.domain.routers a b)
doing w (Up a b) = changes_end w a end_up (slice_get w.routers a) (link_between w.domain.routers a b)
doing w (Send a b) = sends w a (slice_get w.routers a) (link_between w.domain.routers a b)
doing w (Tick a) = changes w a tick (slice_get w.routers a)
doing w (Restart a) = changes w a restart (slice_get w.routers a)
doing w (Relabel a sd bsl label) = changes w a (λ c. relabel c sd bsl label) (slice_get w.routers a)
doing w (Leave a sd) = changes w a (λ c. leave c sd) (slice_get w.routers a)
doing w (Join a sd) = changes w a (λ c. join c sd) (slice_get w.routers a)

-- the count of events, increased by one
abbrev pub counted : Happened → Happened
counted n = record n { world = record n.world { events = n.world.events + 1 } }

-- What an event does.
unfoldable pub happens : WorldState → Event → Happened
happens w e = counted (doing w e)

-- ---- a step

abbrev pub answered : Happened → Option EventFault → Result Happened EventFault
answered n None = Ok n
answered n (Some reason) = Err reason

-- what an allowed event does, or why the event is not allowed
unfoldable pub step : WorldState → Event → Result Happened EventFault
step w e = answered (happens w e) (event_fault w e)
