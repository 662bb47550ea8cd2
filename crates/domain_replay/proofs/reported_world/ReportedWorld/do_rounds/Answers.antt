use Rattle.std.proofs.Common.{◌∙◌, ◌+◌, ◌-◌}
use Rattle.std.proofs.lemmas.Result.{err_from_is_err_and}
use Rattle.domain_model.specs.Run.{round_events, settle_events, world_after}
use Rattle.domain_replay.specs.Telling.{with_texts}
use Rattle.domain_replay.proofs.TellsLaws.{err_at, rounds_split, rounds_at, rounds_none}
use Rattle.domain_replay.proofs.StopLaws.{rounds_first, rounds_behind}
use Rattle.domain_replay.proofs.reported_world.ReportedWorld.do_rounds.Goals as goal

pub returns-in_err-next_round-clause-told : goal.returns-in_err-next_round-clause-told
returns-in_err-next_round-clause-told c =
    let p = err_from_is_err_and c.from_residual.result c.from_residual.ensures.1 in
    rw (p.1, p.2) (err_at c.args.line _ _ (settle_events (world_after c.loop-round.self.world (round_events c.loop-round.self.world)) (c.args.rounds - (c.loop-round._round + 1))) _ _
    (c.loop-round.invariant.left ∙ rounds_split c.args.line (with_texts c.loop-round.self c.loop-round.texts) c.args.rounds c.loop-round._round c.loop-round-test.true) c.in_err-next_round.ensures.told)

pub returns-in_err-next_round-clause-stops : goal.returns-in_err-next_round-clause-stops
returns-in_err-next_round-clause-stops c =
    let p = err_from_is_err_and c.from_residual.result c.from_residual.ensures.1 in
    rw p.1 (c.loop-round.invariant.stops _ (rounds_first c.args.line (with_texts c.loop-round.self c.loop-round.texts) _ c.args.rounds c.loop-round._round c.loop-round-test.true c.in_err-next_round.ensures.stops))

pub loop-round-preserved : goal.loop-round-preserved
loop-round-preserved c = record {
  left = c.loop-round.invariant.left ∙ rounds_at c.args.line (with_texts c.loop-round.self c.loop-round.texts) (with_texts c.next_round.new.self c.next_round.new.texts) c.args.rounds c.loop-round._round c.loop-round-test.true c.in_ok-next_round.ensures.told;
  idle = c.in_ok-next_round.ensures.idle;
  domain = c.in_ok-next_round.ensures.domain ∙ c.loop-round.invariant.domain;
  stops = λ now s. c.loop-round.invariant.stops now (rounds_behind c.args.line (with_texts c.loop-round.self c.loop-round.texts) (with_texts c.next_round.new.self c.next_round.new.texts) now c.args.rounds c.loop-round._round c.loop-round-test.true c.in_ok-next_round.ensures.told s);
}

pub returns-clause-told : goal.returns-clause-told
returns-clause-told c = c.loop-round.invariant.left ∙ rounds_none c.args.line (with_texts c.loop-round.self c.loop-round.texts) c.args.rounds c.loop-round._round c.loop-round-test.false
