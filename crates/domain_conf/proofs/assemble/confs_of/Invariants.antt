use Rattle.std.proofs.Common.{◌≡◌, ◌++◌, ◌≤◌, drop, length}
use Rattle.domain_conf.specs.Assembled.{confs_from}
use Rattle.domain_conf.proofs.assemble.confs_of.Given as goal
use Rattle.wire_base.specs.declared.limits.TheConstants.{MOST_ROUTERS}

-- the configurations so far, and then those of the routers that are left
abbrev pub invariant-loop-place : goal.invariant-loop-place
invariant-loop-place l = (l.confs ++ confs_from l.level l.area l.entries l.place (drop l.place l.routers) ≡ confs_from l.level l.area l.entries 0 l.routers) × (length l.routers ≤ MOST_ROUTERS)
