use Rattle.std.proofs.Common.{List, ap, subst, sym, ◌∙◌, ◌+◌, ◌-◌, replicate}
use Rattle.std.proofs.lemmas.Result.{err_from_is_err_and}
use Rattle.replay_text.specs.declared.event.Event.{Event}
use Rattle.replay_text.specs.declared.event.Event.TheVariants.{Take}
use Rattle.domain_replay.specs.Telling.{Told, with_texts, told, tells_all}
use Rattle.domain_replay.specs.Replaying.{StopsIn}
use Rattle.domain_replay.proofs.TellsLaws.{err_at, times_first, times_none, as_waiting, none_waiting}
use Rattle.domain_replay.proofs.StopLaws.{alike_first, alike_behind}
use Rattle.domain_replay.proofs.reported_world.ReportedWorld.take_now.Goals as goal

pub returns-then-count-eq0-clause-told : goal.returns-then-count-eq0-clause-told
returns-then-count-eq0-clause-told c = none_waiting c.args.line (with_texts c.args.self.now c.args.texts.now) c.args.direction c.waiting-count.result c.waiting-count.ensures c.if-count-eq0.true

pub returns-in_err-take_one-clause-told : goal.returns-in_err-take_one-clause-told
returns-in_err-take_one-clause-told c =
    let waiting = as_waiting c.args.self.now.world c.args.direction c.waiting-count.result c.waiting-count.ensures in
    let p = err_from_is_err_and c.from_residual.result c.from_residual.ensures.1 in
    rw (p.1, p.2) (err_at c.args.line _ _ (replicate (c.waiting-count.result - (c.loop-time._time + 1)) (Take c.args.direction.from c.args.direction.to 0)) _ _
    (ap (tells_all c.args.line (told (with_texts c.args.self.now c.args.texts.now))) (sym waiting)
    ∙ c.loop-time.invariant.left ∙ times_first c.args.line (told (with_texts c.loop-time.self c.loop-time.texts)) (Take c.args.direction.from c.args.direction.to 0) c.waiting-count.result c.loop-time._time c.loop-time-test.true) c.in_err-take_one.ensures.told)

pub returns-in_err-take_one-clause-stops : goal.returns-in_err-take_one-clause-stops
returns-in_err-take_one-clause-stops c =
    let waiting = as_waiting c.args.self.now.world c.args.direction c.waiting-count.result c.waiting-count.ensures in
    let p = err_from_is_err_and c.from_residual.result c.from_residual.ensures.1 in
    rw p.1 (subst (λ (es : List Event). StopsIn c.args.line (with_texts c.args.self.now c.args.texts.now) es (with_texts c.take_one.new.self c.take_one.new.texts)) waiting
    (c.loop-time.invariant.stops _ (alike_first c.args.line (with_texts c.loop-time.self c.loop-time.texts) _ (Take c.args.direction.from c.args.direction.to 0) c.waiting-count.result c.loop-time._time c.loop-time-test.true c.in_err-take_one.ensures.stops)))

pub loop-time-preserved : goal.loop-time-preserved
loop-time-preserved c = record {
  left = c.loop-time.invariant.left
      ∙ times_first c.args.line (told (with_texts c.loop-time.self c.loop-time.texts)) (Take c.args.direction.from c.args.direction.to 0) c.waiting-count.result c.loop-time._time c.loop-time-test.true
      ∙ ap (λ (t : Told). tells_all c.args.line t (replicate (c.waiting-count.result - (c.loop-time._time + 1)) (Take c.args.direction.from c.args.direction.to 0))) c.in_ok-take_one.ensures.told;
  domain = c.in_ok-take_one.ensures.domain ∙ c.loop-time.invariant.domain;
  stops = λ now s. c.loop-time.invariant.stops now (alike_behind c.args.line (with_texts c.loop-time.self c.loop-time.texts) (with_texts c.take_one.new.self c.take_one.new.texts) now (Take c.args.direction.from c.args.direction.to 0) c.waiting-count.result c.loop-time._time c.loop-time-test.true c.in_ok-take_one.ensures.told s);
}

pub returns-clause-told : goal.returns-clause-told
returns-clause-told c =
    ap (tells_all c.args.line (told (with_texts c.args.self.now c.args.texts.now))) (sym (as_waiting c.args.self.now.world c.args.direction c.waiting-count.result c.waiting-count.ensures))
    ∙ c.loop-time.invariant.left ∙ times_none c.args.line (told (with_texts c.loop-time.self c.loop-time.texts)) (Take c.args.direction.from c.args.direction.to 0) c.waiting-count.result c.loop-time._time c.loop-time-test.false
