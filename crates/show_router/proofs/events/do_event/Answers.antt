use Rattle.std.proofs.Common.{length}
use Rattle.domain_replay.proofs.LineTells.{event_fits}
use Rattle.show_router.proofs.events.do_event.Goals as goal

pub step-requires : goal.step-requires
step-requires c = event_fits (length c.args.world.now.world.domain.routers) c.args.event.now c.requires c.numbers_fit.ensures
