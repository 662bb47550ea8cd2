use Rattle.laws_replay.proofs.SmallViews.{view_small, tunnel_short}
use Rattle.laws_replay.proofs.paths.topologies_are_small.Goals as goal

pub returns-clause-nodes : goal.returns-clause-nodes
returns-clause-nodes _ w a c truth at = view_small w a c truth at

pub returns-clause-tunnels : goal.returns-clause-tunnels
returns-clause-tunnels _ w a c u x n truth at within path = tunnel_short w a c u x n truth at within path
