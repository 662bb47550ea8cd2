use Rattle.std.proofs.Common.{◌≡◌}
use Rattle.show_router.proofs.events.do_round.Given as goal

abbrev pub invariant-sends : goal.invariant-sends
invariant-sends l = l.world.world.domain ≡ l.initial.world.world.domain

abbrev pub invariant-takes : goal.invariant-takes
invariant-takes l = l.world.world.domain ≡ l.initial.world.world.domain
