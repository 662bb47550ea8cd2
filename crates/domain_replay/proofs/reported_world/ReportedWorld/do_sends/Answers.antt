use Rattle.std.proofs.Common.{◌∙◌, ◌+◌, drop}
use Rattle.std.proofs.lemmas.Result.{err_from_is_err_and}
use Rattle.domain_model.specs.Run.{world_after}
use Rattle.domain_replay.specs.Replaying.{sends_of, sends_in}
use Rattle.domain_replay.specs.Telling.{with_texts}
use Rattle.domain_replay.proofs.TellsLaws.{err_at}
use Rattle.domain_replay.proofs.InTurn.{turn_split, turn_done, turns_over, stops_here, stops_later}
use Rattle.domain_replay.proofs.SendLaws.{sends_in_turn}
use Rattle.domain_replay.proofs.reported_world.ReportedWorld.do_sends.Goals as goal

pub returns-in_err-send_now-clause-told : goal.returns-in_err-send_now-clause-told
returns-in_err-send_now-clause-told c =
    let p = err_from_is_err_and c.from_residual.result c.from_residual.ensures.1 in
    rw (p.1, p.2) (err_at c.args.line _ _ (sends_in (world_after c.loop-direction.self.world (sends_of c.loop-direction.self.world c.direction-item.result)) (drop (c.loop-direction.direction-index + 1) c.args.all.now)) _ _
    (c.loop-direction.invariant.left ∙ turn_split sends_of sends_in sends_in_turn c.args.line (with_texts c.loop-direction.self c.loop-direction.texts) c.args.all.now c.loop-direction.direction-index c.direction-item.result c.loop-direction-test.true c.direction-item.is) c.in_err-send_now.ensures.told)

pub returns-in_err-send_now-clause-stops : goal.returns-in_err-send_now-clause-stops
returns-in_err-send_now-clause-stops c =
    let p = err_from_is_err_and c.from_residual.result c.from_residual.ensures.1 in
    rw p.1 (c.loop-direction.invariant.stops _ (stops_here sends_of sends_in sends_in_turn c.args.line (with_texts c.loop-direction.self c.loop-direction.texts) c.args.all.now c.loop-direction.direction-index _ c.direction-item.result c.loop-direction-test.true c.direction-item.is c.in_err-send_now.ensures.stops))

pub loop-direction-preserved : goal.loop-direction-preserved
loop-direction-preserved c = record {
  left = c.loop-direction.invariant.left ∙ turn_done sends_of sends_in sends_in_turn c.args.line (with_texts c.loop-direction.self c.loop-direction.texts) c.args.all.now c.loop-direction.direction-index (with_texts c.send_now.new.self c.send_now.new.texts) c.direction-item.result c.loop-direction-test.true c.direction-item.is c.in_ok-send_now.ensures.told;
  domain = c.in_ok-send_now.ensures.domain ∙ c.loop-direction.invariant.domain;
  stops = λ now s. c.loop-direction.invariant.stops now (stops_later sends_of sends_in sends_in_turn c.args.line (with_texts c.loop-direction.self c.loop-direction.texts) c.args.all.now c.loop-direction.direction-index (with_texts c.send_now.new.self c.send_now.new.texts) now c.direction-item.result c.loop-direction-test.true c.direction-item.is c.in_ok-send_now.ensures.told s);
}

pub returns-clause-told : goal.returns-clause-told
returns-clause-told c = c.loop-direction.invariant.left ∙ turns_over sends_of sends_in sends_in_turn c.args.line (with_texts c.loop-direction.self c.loop-direction.texts) c.args.all.now c.loop-direction.direction-index c.loop-direction-test.false
