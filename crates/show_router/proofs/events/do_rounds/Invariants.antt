use Rattle.std.proofs.Common.{◌≡◌}
use Rattle.show_router.proofs.events.do_rounds.Given as goal

abbrev pub invariant-rounds : goal.invariant-rounds
invariant-rounds l = l.world.world.domain ≡ l.initial.world.world.domain
