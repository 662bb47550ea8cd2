-- What is reported of hellos: the lines of adjacencies that change, the record of a hello that is sent, and why a hello event is
-- not allowed.
use Rattle.std.specs.Prelude.{ℕ, List, [], ◌∷◌, Bool, true, false, Option, Some, None, flat_map, codes, if◌then◌else◌}
use Rattle.std.specs.Fmt.{decimal}
use Rattle.wire_base.specs.declared.conf.RouterConf.{RouterConf}
use Rattle.isis_hello.specs.declared.event.EndChange.{EndChange}
use Rattle.wire_base.specs.declared.hello_event.HelloEvent.{HelloEvent}
use Rattle.wire_base.specs.declared.hello_event.HelloEvent.TheVariants as hellos
use Rattle.isis_hello.specs.declared.fault.CircuitFault.{CircuitFault}
use Rattle.isis_hello.specs.declared.fault.CircuitFault.TheVariants as circuits
use Rattle.replay_text.specs.Report.{line_of}
use Rattle.replay_text.specs.declared.event.Event.{Event}
use Rattle.replay_text.specs.declared.event.Event.TheVariants.{Up, Down}
use Rattle.domain_model.specs.declared.fault.EventFault.{EventFault}
use Rattle.domain_model.specs.declared.fault.EventFault.TheVariants as faults
use Rattle.replay_report.specs.Captures.{frame_record, interface_toward}
use Rattle.replay_report.specs.Lines.{name_at}
use Rattle.replay_report.specs.declared.recording.Recording.{Recording}

-- ---- a change of an adjacency

-- `LINE up ROUTER PEER` or `LINE down ROUTER PEER`
abbrev pub change_text : List RouterConf → ℕ → EndChange → List ℕ
change_text routers line c = line_of (decimal line ∷ (if c.up then codes "up" else codes "down") ∷ name_at routers c.router ∷ name_at routers c.peer ∷ [])

-- the lines of some changes, in order
abbrev pub changes_text : List RouterConf → ℕ → List EndChange → List ℕ
changes_text routers line changes = flat_map (change_text routers line) changes

abbrev pub end_event : ℕ → ℕ → Bool → Event
end_event a b true = Up a b
end_event a b false = Down a b

-- the event of the interface that goes with the adjacency
abbrev pub change_event : EndChange → Event
change_event c = end_event c.router c.peer c.up

-- ---- a hello that is sent

-- the record of a frame that a router sent to another
abbrev pub hello_record : Recording → List RouterConf → ℕ → (from to : ℕ) → Option (List ℕ) → List ℕ
hello_record recording routers line from to None = []
hello_record recording routers line from to (Some frame) = frame_record recording (interface_toward routers from to) line frame

-- what an event adds to the capture: only a hello that is sent has a frame
abbrev pub sent_record : Recording → List RouterConf → ℕ → HelloEvent → Option (List ℕ) → List ℕ
sent_record recording routers line (hellos.Hello a b) sent = hello_record recording routers line a b sent
sent_record recording routers line other sent = []

-- ---- a hello event that is not allowed

-- The reason as reports print it: that of the same number and name, with its values.
abbrev pub fault_of : CircuitFault → EventFault
fault_of circuits.Events = faults.Events
fault_of circuits.NoLink = faults.NoLink
fault_of circuits.EndState = faults.EndState
fault_of circuits.InFlight = faults.InFlight
fault_of (circuits.NoFrame i n) = faults.NoFrame i n
fault_of circuits.Memory = faults.Memory
