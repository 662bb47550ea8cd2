use Rattle.std.proofs.Common.{◌≡◌, ◌+◌, drop, option_map}
use Rattle.quiet_domain.specs.Way.{node_of}
use Rattle.quiet_domain.proofs.choice.node_of.Given as goal

-- none of the nodes so far is of the system
abbrev pub invariant-loop-place : goal.invariant-loop-place
invariant-loop-place l = option_map (λ n. n + l.place) (node_of (drop l.place l.nodes) l.system) ≡ node_of l.nodes l.system
