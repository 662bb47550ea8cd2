use Rattle.std.proofs.Common.{◌≡◌, ◌++◌, map}
use Rattle.std.specs.List.{range_with_len}
use Rattle.domain_model.specs.Run.{direction_over}
use Rattle.replay_report.proofs.direction.push_from.Given as goal

abbrev pub invariant-loop-link : goal.invariant-loop-link
invariant-loop-link l = l.out ≡ l.fn.out ++ map (direction_over l.routers l.from) (range_with_len 0 l.link)
