-- The reasons for which an event of the stream is not done, as the report has them.
use Rattle.std.specs.Prelude.{ℕ, List, codes}
use Rattle.wire_base.specs.model.Faults.{edge_name, edge_number}
use Rattle.replay_text.specs.Fault as text
use Rattle.live_stream.specs.declared.fault.LiveFault.{LiveFault}
use Rattle.live_stream.specs.declared.fault.LiveFault.TheVariants.{Version, Line, Kind, Router, NoLink, EndState, Edge}

-- what rejects the event: the frame, its line, the router's state, or the ingress
abbrev pub subject_of : LiveFault → List ℕ
subject_of Version = codes "frame"
subject_of (Line why) = codes "line"
subject_of (Edge why) = codes "edge"
subject_of other = codes "event"

-- the rules of each subject are numbered from 1; out of memory is no reason
abbrev pub number_of : LiveFault → ℕ
number_of Version = 1
number_of (Line why) = text.number_of why
number_of Kind = 1
number_of Router = 2
number_of NoLink = 3
number_of EndState = 4
number_of (Edge why) = edge_number why

abbrev pub name_of : LiveFault → List ℕ
name_of Version = codes "Version"
name_of (Line why) = text.name_of why
name_of Kind = codes "Kind"
name_of Router = codes "Router"
name_of NoLink = codes "NoLink"
name_of EndState = codes "EndState"
name_of (Edge why) = edge_name why
