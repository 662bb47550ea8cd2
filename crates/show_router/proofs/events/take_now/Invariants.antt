use Rattle.std.proofs.Common.{◌≡◌}
use Rattle.show_router.proofs.events.take_now.Given as goal

abbrev pub invariant-frames : goal.invariant-frames
invariant-frames l = l.world.world.domain ≡ l.initial.world.world.domain
