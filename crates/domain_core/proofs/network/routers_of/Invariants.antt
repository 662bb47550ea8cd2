use Rattle.std.proofs.Common.{◌≡◌, map, take}
use Rattle.domain_core.specs.Network.{started_router}
use Rattle.domain_core.proofs.network.routers_of.Given as goal

abbrev pub invariant-loop-conf : goal.invariant-loop-conf
invariant-loop-conf l = l.routers.items ≡ map started_router (take l.conf-index l.confs)
