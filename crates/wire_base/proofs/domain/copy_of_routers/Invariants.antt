use Rattle.std.proofs.Common.{◌≡◌, take}
use Rattle.wire_base.proofs.domain.copy_of_routers.Given as goal

abbrev pub invariant-loop-router : goal.invariant-loop-router
invariant-loop-router l = l.copied ≡ take l.router-index l.routers
