-- The lines of a report on a run.
use Rattle.std.specs.Prelude.{ℕ, List, [], ◌∷◌, ◌++◌, flat_map, slice_get, option_map, unwrap_or, Option, Some, None, codes}
use Rattle.std.specs.Fmt.{decimal}
use Rattle.run_texts.specs.Addresses.{lsp_id_text}
use Rattle.wire_base.specs.declared.conf.RouterConf.{RouterConf}
use Rattle.wire_base.specs.declared.faults.EdgeFault.{EdgeFault}
use Rattle.wire_base.specs.declared.faults.EdgeFault.TheVariants as edge
use Rattle.wire_base.specs.model.Faults.{edge_number, edge_name}
use Rattle.quiet_domain.specs.declared.answer.Quiet.{Quiet}
use Rattle.quiet_domain.specs.declared.answer.Quiet.TheVariants.{Yes, Spent, Half, Data}
use Rattle.replay_text.specs.Fault.{rule_text}
use Rattle.replay_text.specs.Ids.{ids_text}
use Rattle.replay_text.specs.Payload.{payload_text}
use Rattle.replay_text.specs.Report.{line_of, cause_text}
use Rattle.domain_model.specs.declared.fault.EventFault.{EventFault}
use Rattle.domain_model.specs.declared.fault.EventFault.TheVariants as event
use Rattle.domain_model.specs.declared.lines.GotLine.{GotLine}
use Rattle.domain_model.specs.declared.lines.DropLine.{DropLine}
use Rattle.replay_report.specs.declared.counts.Counts.{Counts}

-- ---- what an event did

-- the name of the router at an index
abbrev pub name_at : List RouterConf → ℕ → List ℕ
name_at routers place = unwrap_or (option_map (λ r. r.name) (slice_get routers place)) []

-- the number of an injection, or `-` for what carries no packet
abbrev pub injection_text : Option ℕ → List ℕ
injection_text None = 45 ∷ []
injection_text (Some number) = decimal number

-- `LINE got ROUTER INJECTION ID PAYLOAD`
abbrev pub got_text : List RouterConf → ℕ → GotLine → List ℕ
got_text routers line got =
    line_of (decimal line ∷ codes "got" ∷ name_at routers got.router ∷ decimal got.injection ∷ decimal got.id ∷ payload_text got.payload ∷ [])

-- `LINE drop ROUTER INJECTION CAUSE IDS`
abbrev pub drop_text : List RouterConf → ℕ → DropLine → List ℕ
drop_text routers line dropped =
    line_of (decimal line ∷ codes "drop" ∷ name_at routers dropped.router ∷ injection_text dropped.injection ∷ cause_text dropped.cause ∷ ids_text dropped.ids ∷ [])

-- the deliveries of an event, and then its drops
abbrev pub event_text : List RouterConf → ℕ → List GotLine → List DropLine → List ℕ
event_text routers line gots drops = flat_map (got_text routers line) gots ++ flat_map (drop_text routers line) drops

-- ---- the answer to a question

-- whether the domain is quiet, or the first reason why not
abbrev pub quiet_text : List RouterConf → ℕ → Quiet → List ℕ
quiet_text routers line Yes = line_of (decimal line ∷ codes "quiet" ∷ codes "yes" ∷ [])
quiet_text routers line (Spent a) = line_of (decimal line ∷ codes "quiet" ∷ codes "no" ∷ codes "spent" ∷ name_at routers a ∷ [])
quiet_text routers line (Half a b) = line_of (decimal line ∷ codes "quiet" ∷ codes "no" ∷ codes "half" ∷ name_at routers a ∷ name_at routers b ∷ [])
quiet_text routers line (Data a b id) =
    line_of (decimal line ∷ codes "quiet" ∷ codes "no" ∷ codes "data" ∷ name_at routers a ∷ name_at routers b ∷ lsp_id_text id ∷ [])

-- `LINE cover IDS`: the BFR-ids that are reached
abbrev pub cover_text : ℕ → List ℕ → List ℕ
cover_text line ids = line_of (decimal line ∷ codes "cover" ∷ ids_text ids ∷ [])

-- ---- the last line

-- `done lines L injected I named N got G dropped D flight F`
abbrev pub done_text : ℕ → Counts → ℕ → List ℕ
done_text lines counts flight =
    line_of (codes "done" ∷ codes "lines" ∷ decimal lines ∷ codes "injected" ∷ decimal counts.injected ∷ codes "named" ∷ decimal counts.named
    ∷ codes "got" ∷ decimal counts.got ∷ codes "dropped" ∷ decimal counts.dropped ∷ codes "flight" ∷ decimal flight ∷ [])

-- ---- a line that is rejected

-- the rule that a text of more than 67,108,864 octets breaks
abbrev pub too_long : List ℕ
too_long = rule_text 6 (codes "TooLong")

-- `refused LINE text N NAME`
abbrev pub text_refused_text : ℕ → List ℕ → List ℕ
text_refused_text line why = line_of (codes "refused" ∷ decimal line ∷ codes "text" ∷ why ∷ [])

-- why a router creates no packets, with the BFR-id whose set identifier is too large
abbrev pub edge_values : EdgeFault → List ℕ
edge_values edge.NoEgress = []
edge_values edge.IdZero = []
edge_values (edge.SiLarge id) = 32 ∷ decimal id
edge_values edge.NotBfr = []
edge_values edge.BslUnknown = []
edge_values edge.Memory = []

abbrev pub edge_fault : EdgeFault → List ℕ
edge_fault why = rule_text (edge_number why) (edge_name why) ++ edge_values why

-- the number and the name of the reason why an event is not allowed, with its values; out of memory is not a reason
abbrev pub event_fault : EventFault → List ℕ
event_fault event.Events = rule_text 1 (codes "Events")
event_fault event.NoLink = rule_text 2 (codes "NoLink")
event_fault event.EndState = rule_text 3 (codes "EndState")
event_fault event.InFlight = rule_text 4 (codes "InFlight")
event_fault (event.NoFrame place count) = rule_text 5 (codes "NoFrame") ++ 32 ∷ (decimal place ++ 32 ∷ decimal count)
event_fault event.NotControl = rule_text 6 (codes "NotControl")
event_fault (event.Edge why) = rule_text 7 (codes "Edge") ++ 32 ∷ edge_fault why
event_fault event.NoSub = rule_text 8 (codes "NoSub")
event_fault event.SubState = rule_text 9 (codes "SubState")
event_fault event.LabelHigh = rule_text 10 (codes "LabelHigh")
event_fault (event.LabelUsed label) = rule_text 11 (codes "LabelUsed") ++ 32 ∷ decimal label
event_fault event.Relabels = rule_text 12 (codes "Relabels")
event_fault event.Memory = []

-- `refused LINE event N NAME`
abbrev pub event_refused_text : ℕ → EventFault → List ℕ
event_refused_text line why = line_of (codes "refused" ∷ decimal line ∷ codes "event" ∷ event_fault why ∷ [])
