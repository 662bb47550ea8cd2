use Rattle.std.proofs.Common.{List, arith, subst}
use Rattle.std.proofs.lemmas.List.{take_all}
use Rattle.domain_model.specs.Run.{Direction}
use Rattle.domain_replay.specs.Replaying.{AreIdle}
use Rattle.domain_replay.proofs.IdleLaws.{next_idle, none_idle}
use Rattle.domain_replay.proofs.reported_world.ReportedWorld.idle_sends.Goals as goal

pub loop-direction-init : goal.loop-direction-init
loop-direction-init c = record { idle = none_idle c.args.self.now.world c.args.all.now; few = omega arith }

pub overflow_add-sends : goal.overflow_add-sends
overflow_add-sends c = omega (arith, c.loop-direction.invariant.few, c.in-Some.ensures.few, c.loop-direction-test.true)

pub loop-direction-preserved : goal.loop-direction-preserved
loop-direction-preserved c = record {
  idle = next_idle c.args.self.now.world c.args.all.now c.loop-direction.direction-index c.direction-item.result c.loop-direction.sends c.in-Some.more c.loop-direction-test.true c.direction-item.is c.loop-direction.invariant.idle c.in-Some.ensures.idle;
  few = omega (arith, c.loop-direction.invariant.few, c.in-Some.ensures.few);
}

pub returns : goal.returns
returns c =
    subst (λ (ds : List Direction). AreIdle c.args.self.now.world ds c.loop-direction.sends) (take_all c.loop-direction.direction-index c.args.all.now c.loop-direction-test.false) c.loop-direction.invariant.idle
