use Rattle.std.proofs.Common.{ap, ◌∙◌}
use Rattle.std.proofs.lemmas.Result.{err_from_is_err_and}
use Rattle.domain_model.specs.World.{WorldState}
use Rattle.domain_replay.proofs.Stays.{happens_domain}
use Rattle.domain_replay.specs.Telling.{ReplayState, with_texts}
use Rattle.domain_replay.proofs.StopLaws.{step_stops, tell_stops}
use Rattle.domain_replay.proofs.EventTells.{event_reported, event_refused}
use Rattle.domain_replay.proofs.reported_world.ReportedWorld.do_event.Goals as goal

pub returns-in_err-made-clause-told : goal.returns-in_err-made-clause-told
returns-in_err-made-clause-told c =
    let p = err_from_is_err_and c.from_residual.result c.from_residual.ensures.1 in
    rw (p.1, p.2) (event_refused c.args.line (with_texts c.args.self.now c.args.texts.now) c.self.inside.world c.step.new.self _ _ _ _ c.args.event.now _
    (ap (λ (s : ReplayState). with_texts s c.args.texts.now) c.self.view_is) c.in_err-made.ensures.refused c.in_err-made.ensures.stays)

pub returns-clause-told : goal.returns-clause-told
returns-clause-told c =
    event_reported c.args.line c.args.self.now _ c.tell.new.self c.args.texts.now c.tell.new.texts c.args.event.now c.step.new.self.world c.in_ok-made.made c.self.view_is c.in_ok-made.ensures.refused c.in_ok-made.ensures.world
    c.in_ok-made.ensures.told c.in_ok-tell.ensures.state c.in_ok-tell.ensures.frames c.in_ok-tell.ensures.report

pub returns-in_err-made-clause-stops : goal.returns-in_err-made-clause-stops
returns-in_err-made-clause-stops c =
    let p = err_from_is_err_and c.from_residual.result c.from_residual.ensures.1 in
    rw p.1 (step_stops c.args.line c.args.self.now _ c.step.new.self.world c.args.texts.now c.args.event.now c.self.view_is c.in_err-made.ensures.whole.world)

pub returns-in_err-tell-clause-stops : goal.returns-in_err-tell-clause-stops
returns-in_err-tell-clause-stops c =
    let p = err_from_is_err_and c.from_residual-in_err-tell.result c.from_residual-in_err-tell.ensures.1 in
    rw p.1 (tell_stops c.args.line c.args.self.now _ c.tell.new.self c.step.new.self.world c.args.texts.now c.tell.new.texts c.args.event.now c.self.view_is c.in_ok-made.ensures.refused c.in_ok-made.ensures.world c.in_err-tell.ensures.err)

pub returns-clause-domain : goal.returns-clause-domain
returns-clause-domain c =
    ap (λ (s : ReplayState). s.world.domain) c.in_ok-tell.ensures.state
    ∙ ap (λ (w : WorldState). w.domain) c.in_ok-made.ensures.world
    ∙ happens_domain c.self.inside.world.world c.args.event.now
    ∙ ap (λ (s : ReplayState). s.world.domain) c.self.view_is
