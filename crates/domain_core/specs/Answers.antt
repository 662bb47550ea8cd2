-- Why an event is rejected.
use Rattle.std.specs.Prelude.{◌≡◌, nat_le, Bool, true, false, List, [], Option, Some, None}
use Rattle.wire_base.specs.declared.faults.EdgeFault.{EdgeFault}
use Rattle.wire_base.specs.declared.faults.EdgeFault.TheVariants as edge
use Rattle.replay_text.specs.declared.event.Event.{Event}
use Rattle.replay_text.specs.declared.event.Event.TheVariants.{Inject, Take, Lose, Again, Down, Up, Send, Tick, Restart, Relabel, Leave, Join}
use Rattle.domain_model.specs.declared.fault.EventFault.{EventFault}
use Rattle.domain_model.specs.declared.fault.EventFault.TheVariants as faults
use Rattle.domain_model.specs.declared.step_out.StepOut.{StepOut}
use Rattle.domain_model.specs.declared.step_out.WireFrame.{WireFrame}
use Rattle.domain_model.specs.Faults.{most_events, first_fault, unless_room, rule_fault}
use Rattle.domain_model.specs.World.{WorldState}

-- An error is the first reason that applies, or out of memory.
abbrev pub Refuses : Option EventFault → EventFault → Type 0
Refuses first faults.Events = first ≡ Some faults.Events
Refuses first faults.NoLink = first ≡ Some faults.NoLink
Refuses first faults.EndState = first ≡ Some faults.EndState
Refuses first faults.InFlight = first ≡ Some faults.InFlight
Refuses first (faults.NoFrame i n) = first ≡ Some (faults.NoFrame i n)
Refuses first faults.NotControl = first ≡ Some faults.NotControl
Refuses first (faults.Edge fault) = first ≡ Some (faults.Edge fault)
Refuses first faults.NoSub = first ≡ Some faults.NoSub
Refuses first faults.SubState = first ≡ Some faults.SubState
Refuses first faults.LabelHigh = first ≡ Some faults.LabelHigh
Refuses first (faults.LabelUsed label) = first ≡ Some (faults.LabelUsed label)
Refuses first faults.Relabels = first ≡ Some faults.Relabels
Refuses first faults.Memory = Unit {0}

-- an error other than out of memory leaves everything unchanged
abbrev pub Stays : Type 0 → EventFault → Type 0
Stays same faults.Events = same
Stays same faults.NoLink = same
Stays same faults.EndState = same
Stays same faults.InFlight = same
Stays same (faults.NoFrame i n) = same
Stays same faults.NotControl = same
Stays same (faults.Edge fault) = same
Stays same faults.NoSub = same
Stays same faults.SubState = same
Stays same faults.LabelHigh = same
Stays same (faults.LabelUsed label) = same
Stays same faults.Relabels = same
Stays same faults.Memory = Unit {0}

-- the reasons of an event's own rules, except those of a router to reject an injection
abbrev pub early_rule : WorldState → Event → Option EventFault
early_rule w (Inject a sd bsl ks ttl entropy payload) = unless_room w None
early_rule w (Take a b i) = rule_fault w (Take a b i)
early_rule w (Lose a b i) = rule_fault w (Lose a b i)
early_rule w (Again a b i) = rule_fault w (Again a b i)
early_rule w (Down a b) = rule_fault w (Down a b)
early_rule w (Up a b) = rule_fault w (Up a b)
early_rule w (Send a b) = rule_fault w (Send a b)
early_rule w (Tick a) = rule_fault w (Tick a)
early_rule w (Restart a) = rule_fault w (Restart a)
early_rule w (Relabel a sd bsl label) = rule_fault w (Relabel a sd bsl label)
early_rule w (Leave a sd) = rule_fault w (Leave a sd)
early_rule w (Join a sd) = rule_fault w (Join a sd)

abbrev pub early_fault : WorldState → Event → Option EventFault
early_fault w e = first_fault (nat_le most_events w.events) faults.Events (early_rule w e)

-- the error of an injection that a router rejects
abbrev pub entry_refused : EdgeFault → EventFault
entry_refused edge.NoEgress = faults.Edge edge.NoEgress
entry_refused edge.IdZero = faults.Edge edge.IdZero
entry_refused (edge.SiLarge k) = faults.Edge (edge.SiLarge k)
entry_refused edge.NotBfr = faults.Edge edge.NotBfr
entry_refused edge.BslUnknown = faults.Edge edge.BslUnknown
entry_refused edge.Memory = faults.Memory

-- what an event reports; nothing, if there is nothing to report
abbrev pub outcome : Option StepOut → StepOut
outcome None = record { sent = []; got = []; drops = [] }
outcome (Some out) = out

-- what a send reports: those frames, if any were due
abbrev pub sent_outcome : Bool → List WireFrame → StepOut
sent_outcome false sent = outcome None
sent_outcome true sent = record { sent = sent; got = []; drops = [] }

-- what a delivery reports: that, if there is anything to report
abbrev pub taken_outcome : Bool → StepOut → StepOut
taken_outcome false made = outcome None
taken_outcome true made = made
