use Rattle.std.proofs.Common.{◌≡◌, drop}
use Rattle.std.specs.List.{AllByRecursion}
use Rattle.domain_conf.specs.Assembled as spec
use Rattle.domain_conf.proofs.limits.within_limits.Given as goal

-- the routers that are left decide
abbrev pub invariant-loop-place : goal.invariant-loop-place
invariant-loop-place l = (spec.within_limits l.place (drop l.place l.routers) ≡ spec.within_limits 0 l.routers) × AllByRecursion spec.HasFewSubs (drop l.place l.routers)
