use Rattle.std.proofs.Common.{◌≡◌, ◌+◌, drop, option_map}
use Rattle.command_node.specs.NodeRun.{link_from}
use Rattle.command_node.proofs.node_command.links.link_from.Given as goal

-- none of the ends so far is the one
abbrev pub invariant-loop-place : goal.invariant-loop-place
invariant-loop-place l = link_from l.ends l.mac ≡ option_map (λ link. l.place + link) (link_from (drop l.place l.ends) l.mac)
