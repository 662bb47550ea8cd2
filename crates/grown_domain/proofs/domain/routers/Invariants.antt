use Rattle.std.proofs.Common.{◌≡◌, map}
use Rattle.std.specs.List.{range_with_len}
use Rattle.grown_domain.specs.Routers.{router}
use Rattle.grown_domain.proofs.domain.routers.Given as goal

abbrev pub invariant-loop-place : goal.invariant-loop-place
invariant-loop-place l = l.routers ≡ map (router l.links l.n) (range_with_len 0 l.place)
