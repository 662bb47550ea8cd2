use Rattle.std.proofs.Common.{◌≡◌}
use Rattle.show_router.proofs.follow.follow_lines.Given as goal

abbrev pub invariant-lines : goal.invariant-lines
invariant-lines l = l.world.world.domain ≡ l.initial.world.world.domain
