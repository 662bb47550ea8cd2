-- Which events a domain allows, and why it rejects the others.
use Rattle.std.specs.Prelude.{ℕ, not, nat_le, Bool, true, false, List, length, slice_get, is_none, option_map, Option, Some, None}
use Rattle.wire_base.specs.declared.limits.TheConstants.{MOST_EVENTS, MOST_IN_FLIGHT}
use Rattle.wire_base.specs.declared.bsl.Bsl.{Bsl}
use Rattle.wire_base.specs.declared.conf.LabelRange.{LabelRange}
use Rattle.wire_base.specs.declared.conf.OwnSub.{OwnSub}
use Rattle.wire_base.specs.declared.conf.RouterConf.{RouterConf}
use Rattle.wire_base.specs.model.Control.{Control}
use Rattle.wire_base.specs.model.Ingress.{edge_fault}
use Rattle.wire_base.specs.model.Item.{Item, ControlItem, PacketItem}
use Rattle.wire_base.specs.model.Membership.{own_range, moved, is_too_high, used_label, is_worn}
use Rattle.wire_base.specs.model.Place.{sub_in, known_subs}
use Rattle.replay_text.specs.declared.event.Event.{Event}
use Rattle.replay_text.specs.declared.event.Event.TheVariants.{Inject, Take, Lose, Again, Down, Up, Send, Tick, Restart, Relabel, Leave, Join}
use Rattle.domain_model.specs.declared.fault.EventFault.{EventFault}
use Rattle.domain_model.specs.declared.fault.EventFault.TheVariants as faults
use Rattle.domain_model.specs.World.{WorldState, is_up, link_between, frames_between, in_flight}

abbrev pub most_events : ℕ
most_events = MOST_EVENTS

-- once this many frames are in flight, nothing more is sent
abbrev pub most_in_flight : ℕ
most_in_flight = MOST_IN_FLIGHT

-- the reason if it applies, otherwise the next that does
abbrev pub first_fault : Bool → EventFault → Option EventFault → Option EventFault
first_fault true reason next = Some reason
first_fault false reason next = next

abbrev pub unless_joined : WorldState → ℕ → ℕ → Option EventFault → Option EventFault
unless_joined w a b next = first_fault (is_none (link_between w.domain.routers a b)) faults.NoLink next

abbrev pub unless_room : WorldState → Option EventFault → Option EventFault
unless_room w next = first_fault (nat_le most_in_flight (in_flight w.flights)) faults.InFlight next

-- whether an interface of a router is up
abbrev pub up_over : Option Control → Option ℕ → Bool
up_over None link = false
up_over (Some c) None = false
up_over (Some c) (Some link) = is_up c link

-- whether the interface of one router toward another is up
abbrev pub is_up_toward : WorldState → ℕ → ℕ → Bool
is_up_toward w a b = up_over (slice_get w.routers a) (link_between w.domain.routers a b)

-- no frame has that index
abbrev pub frame_fault : Option Item → ℕ → ℕ → Option EventFault
frame_fault None i n = Some (faults.NoFrame i n)
frame_fault (Some x) i n = None

-- no frame has that index, or the frame carries a packet
abbrev pub repeat_fault : Option Item → ℕ → ℕ → Option EventFault
repeat_fault None i n = Some (faults.NoFrame i n)
repeat_fault (Some (PacketItem x)) i n = Some faults.NotControl
repeat_fault (Some (ControlItem p)) i n = None

-- the router creates no packets
abbrev pub entry_fault : Option Control → ℕ → Bsl → List ℕ → Option EventFault
entry_fault None sd bsl ks = None
entry_fault (Some c) sd bsl ks = option_map faults.Edge (edge_fault c.conf sd bsl ks)

-- ---- labels and members

-- a label of the range is in a range that the router has or had
abbrev pub used_fault : Option ℕ → Option EventFault → Option EventFault
used_fault None next = next
used_fault (Some label) next = Some (faults.LabelUsed label)

abbrev pub range_fault : RouterConf → ℕ → Option LabelRange → Option EventFault
range_fault r label None = Some faults.NoSub
range_fault r label (Some x) =
    first_fault (is_too_high (moved x label)) faults.LabelHigh
    (used_fault (used_label r (moved x label)) (first_fault (is_worn r) faults.Relabels None))

abbrev pub relabel_fault : Option Control → ℕ → Bsl → ℕ → Option EventFault
relabel_fault None sd bsl label = None
relabel_fault (Some c) sd bsl label = range_fault c.conf label (own_range c.conf sd bsl)

-- the router is to leave a sub-domain that it is in, or to join one that it left
abbrev pub member_fault : Option Control → (RouterConf → List OwnSub) → ℕ → Option EventFault
member_fault None subs sd = None
member_fault (Some c) subs sd =
    first_fault (is_none (sub_in (known_subs c.conf) sd)) faults.NoSub
    (first_fault (is_none (sub_in (subs c.conf) sd)) faults.SubState None)

-- ---- the events

-- the reasons of an event's own rules
abbrev pub rule_fault : WorldState → Event → Option EventFault
rule_fault w (Inject a sd bsl ks ttl entropy payload) = unless_room w (entry_fault (slice_get w.routers a) sd bsl ks)
rule_fault w (Take a b i) = unless_joined w a b (unless_room w (frame_fault (slice_get (frames_between w a b) i) i (length (frames_between w a b))))
rule_fault w (Lose a b i) = unless_joined w a b (frame_fault (slice_get (frames_between w a b) i) i (length (frames_between w a b)))
rule_fault w (Again a b i) = unless_joined w a b (unless_room w (repeat_fault (slice_get (frames_between w a b) i) i (length (frames_between w a b))))
rule_fault w (Down a b) = unless_joined w a b (first_fault (not (is_up_toward w a b)) faults.EndState None)
rule_fault w (Up a b) = unless_joined w a b (first_fault (is_up_toward w a b) faults.EndState None)
rule_fault w (Send a b) = unless_joined w a b (first_fault (not (is_up_toward w a b)) faults.EndState (unless_room w None))
rule_fault w (Tick a) = None
rule_fault w (Restart a) = None
rule_fault w (Relabel a sd bsl label) = relabel_fault (slice_get w.routers a) sd bsl label
rule_fault w (Leave a sd) = member_fault (slice_get w.routers a) (λ r. r.subs) sd
rule_fault w (Join a sd) = member_fault (slice_get w.routers a) (λ r. r.away) sd

-- The first reason why an event is not allowed, in the order of their numbers; none if it is allowed.
unfoldable pub event_fault : WorldState → Event → Option EventFault
event_fault w e = first_fault (nat_le most_events w.events) faults.Events (rule_fault w e)
