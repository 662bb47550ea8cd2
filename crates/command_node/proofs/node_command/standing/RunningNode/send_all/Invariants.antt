use Rattle.std.proofs.Common.{◌≡◌}
use Rattle.std.specs.List.{fold, range_with_len}
use Rattle.command_node.specs.NodeRun.{sends_on}
use Rattle.command_node.proofs.node_command.standing.RunningNode.send_all.Given as goal

abbrev pub invariant-loop-link : goal.invariant-loop-link
invariant-loop-link l = l.self ≡ fold (sends_on l.sec) l.fn.self (range_with_len 0 l.link)
