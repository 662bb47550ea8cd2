use Rattle.std.proofs.Common.{◌≡◌, ◌++◌, drop}
use Rattle.domain_core.specs.Peers.{peers_of, peers_from}
use Rattle.domain_core.proofs.peers.peers_of.Given as goal

abbrev pub invariant-loop-at : goal.invariant-loop-at
invariant-loop-at l = l.peers ++ peers_from l.confs l.at (drop l.at l.confs) ≡ peers_of l.confs
