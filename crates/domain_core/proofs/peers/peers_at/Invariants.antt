use Rattle.std.proofs.Common.{◌≡◌, map}
use Rattle.std.specs.List.{range_with_len}
use Rattle.domain_core.specs.Peers.{peer_over}
use Rattle.domain_core.proofs.peers.peers_at.Given as goal

abbrev pub invariant-loop-link : goal.invariant-loop-link
invariant-loop-link l = l.peers ≡ map (peer_over l.confs l.at) (range_with_len 0 l.link)
