-- What a run owes on its words and on what its sources hold.
use Rattle.std.specs.Prelude.{ℕ, List, Option, Some, None, option_map, Result, Ok, Err}
use Rattle.wire_base.specs.declared.status.Status.TheVariants as status
use Rattle.wire_base.specs.model.Configuration.{DomainConf}
use Rattle.domain_conf.specs.Domain.{domain_of}
use Rattle.domain_conf.specs.declared.fault.ConfFault.{ConfFault}
use Rattle.command_node.specs.DomainFile.{conf_refused_text}
use Rattle.command_drive.specs.Answer.{Verdict}
use Rattle.command_line.specs.declared.arguments.ScheduleKind.{ScheduleKind}
use Rattle.command_line.specs.declared.arguments.ScheduleKind.TheVariants as kinds
use Rattle.command_line.specs.Form.{Form, Replay, Node, Hop, Headers, Grow, Topo, Unknown}
use Rattle.command_line.specs.Words.{usage_text}
use Rattle.command_node.specs.Routers.{router_named}
use Rattle.command_hop.specs.HopText.{hop_answer}
use Rattle.command_headers.specs.HeadersText.{headers_answer}
use Rattle.replay_report.specs.declared.recording.Recording.{Recording}
use Rattle.replay_report.specs.declared.recording.Recording.TheVariants as recordings
use Rattle.command_drive.specs.Reading.{Ends}
use Rattle.command_check.specs.Checked.{checked}
use Rattle.command_handshake.specs.Shaken.{shaken}
use Rattle.command_replay.specs.Course.{Played, plays_mean}
use Rattle.domain_replay.specs.Texts.{Reached, capture_text, run_text, schedule_reaches}
use Rattle.command_grow.specs.Grow.{grow_answer}
use Rattle.command_topo.specs.TopoText.{topo_answer}
use Rattle.command_topo.specs.declared.query.Query.{Query}
use Rattle.wire_base.specs.declared.addresses.SystemId.{SystemId}
use Rattle.wire_base.specs.declared.conf.Level.{Level}
use Rattle.command_node.specs.Named.{reported, node_by}

-- on a domain file that breaks a rule
abbrev pub conf_refused : ConfFault → Verdict
conf_refused why = reported (status.ConfRefused, conf_refused_text why)

-- what the lines of a schedule come to whose events all stand in the lines
abbrev pub replayed_by : Recording → DomainConf → Reached → Played
replayed_by recording d reached = record { run = reached.run; report = run_text d reached.run; frames = capture_text recording d reached.run; refused = reached.refused }

abbrev pub replayed : Recording → DomainConf → List (List ℕ) → Played
replayed recording d lines = replayed_by recording d (schedule_reaches d lines)

-- what the lines of a schedule come to, by the command
unfoldable pub plays : ScheduleKind → DomainConf → List (List ℕ) → Played
plays kinds.Replay d lines = replayed recordings.Pcap d lines
plays kinds.ReplayNg d lines = replayed recordings.Pcapng d lines
plays kinds.Handshake d lines = shaken d lines
plays kinds.Check d lines = checked d lines

-- on what a domain file says: where it breaks a rule, the schedule doesn't matter
abbrev pub replay_on : ScheduleKind → Result DomainConf ConfFault → (schedule : Option (List ℕ)) → Option Verdict
replay_on kind (Err why) schedule = Some (conf_refused why)
replay_on kind (Ok d) schedule = option_map (λ (octets : List ℕ). plays_mean (plays kind d) Ends octets) schedule

abbrev pub replay_verdict : ScheduleKind → (conf schedule : Option (List ℕ)) → Option Verdict
replay_verdict kind None schedule = None
replay_verdict kind (Some file) schedule = replay_on kind (domain_of file) schedule

-- on what a domain file says: where it breaks a rule, neither the router nor the capture matters
abbrev pub node_on : Result DomainConf ConfFault → (router : List ℕ) → (capture : Option (List ℕ)) → Option Verdict
node_on (Err why) router capture = Some (conf_refused why)
node_on (Ok d) router capture = node_by (router_named d router) capture

abbrev pub node_verdict : (router : List ℕ) → (conf capture : Option (List ℕ)) → Option Verdict
node_verdict router None capture = None
node_verdict router (Some file) capture = node_on (domain_of file) router capture

-- what `topo` is asked
abbrev pub query_of : Level → ℕ → SystemId → Query
query_of level mt from = record { level = level; mt = mt; from = from }

-- the verdict on the form, on the word that names a router, and on what the two sources hold, where those that the form reads tell it
unfoldable pub verdict : Form → (router : List ℕ) → (conf input : Option (List ℕ)) → Option Verdict
verdict (Replay kind) router conf input = replay_verdict kind conf input
verdict Node router conf input = node_verdict router conf input
verdict Hop router conf input = option_map (λ (octets : List ℕ). reported (hop_answer octets)) input
verdict Headers router conf input = option_map (λ (octets : List ℕ). reported (headers_answer octets)) input
verdict (Grow n) router conf input = Some (reported (grow_answer n))
verdict (Topo level mt from) router conf input = option_map (λ (octets : List ℕ). reported (topo_answer (query_of level mt from) octets)) input
verdict Unknown router conf input = Some (reported (status.Usage, usage_text))
