-- What `node` must produce for the router that an argument names.
use Rattle.std.specs.Prelude.{ℕ, List, [], Option, Some, None, option_map}
use Rattle.wire_base.specs.declared.status.Status.{Status}
use Rattle.wire_base.specs.declared.status.Status.TheVariants as status
use Rattle.wire_base.specs.declared.conf.RouterConf.{RouterConf}
use Rattle.command_drive.specs.Answer.{Verdict}
use Rattle.command_node.specs.NodeRun.{node_answer}
use Rattle.command_node.specs.Routers.{no_router_text}

-- a status and a report, if no frame is written
abbrev pub reported : Status × List ℕ → Verdict
reported answer = record { status = answer.0; report = answer.1; frames = [] }

-- for the router that an argument names: if it names none, the capture does not matter
abbrev pub node_by : Option RouterConf → (capture : Option (List ℕ)) → Option Verdict
node_by None capture = Some (reported (status.ConfRefused, no_router_text))
node_by (Some own) capture = option_map (λ (octets : List ℕ). node_answer own octets) capture
