use Rattle.std.proofs.Common.{◌≡◌, take}
use Rattle.domain_core.specs.Network.{confs_of}
use Rattle.domain_core.proofs.network.confs_now.Given as goal

abbrev pub invariant-loop-router : goal.invariant-loop-router
invariant-loop-router l = l.confs ≡ confs_of (take l.router-index l.routers)
