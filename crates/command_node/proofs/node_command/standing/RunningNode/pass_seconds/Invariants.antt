use Rattle.std.proofs.Common.{◌≡◌, ◌-◌}
use Rattle.command_node.specs.NodeRun.{seconds_pass}
use Rattle.command_node.proofs.node_command.standing.RunningNode.pass_seconds.Given as goal

abbrev pub invariant-seconds : goal.invariant-seconds
invariant-seconds l = seconds_pass (l.to - l.sec) l.sec l.self ≡ seconds_pass (l.to - l.from) l.from l.fn.self

abbrev pub decreases-seconds : goal.decreases-seconds
decreases-seconds l = l.to - l.sec
