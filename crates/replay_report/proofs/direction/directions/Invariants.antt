use Rattle.std.proofs.Common.{◌≡◌, ◌++◌, drop}
use Rattle.domain_model.specs.Run.{directions, directions_from}
use Rattle.replay_report.proofs.direction.directions.Given as goal

abbrev pub invariant-loop-place : goal.invariant-loop-place
invariant-loop-place l = l.all ++ directions_from l.routers l.place (drop l.place l.routers) ≡ directions l.routers
