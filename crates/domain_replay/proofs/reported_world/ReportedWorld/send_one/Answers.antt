use Rattle.std.proofs.Common.{Bool, List, ap, sym, subst, refl, ◌∙◌, [], ◌∷◌, ℕ}
use Rattle.domain_core.specs.Answers.{sent_outcome}
use Rattle.std.proofs.lemmas.Result.{err_from_is_err_and}
use Rattle.replay_text.specs.declared.event.Event.{Event}
use Rattle.replay_text.specs.declared.event.Event.TheVariants.{Send}
use Rattle.wire_base.specs.model.Configuration.{DomainConf}
use Rattle.domain_core.specs.Network.{Seen}
use Rattle.domain_model.specs.Run.{Direction}
use Rattle.domain_replay.specs.Replaying.{StopsIn}
use Rattle.domain_replay.specs.Telling.{ReplayState, with_texts, told, reports_on}
use Rattle.domain_replay.proofs.StopLaws.{step_stops, tell_stops}
use Rattle.domain_replay.proofs.EventTells.{refused_so, stays_so, send_untold, send_recorded}
use Rattle.domain_replay.proofs.reported_world.ReportedWorld.send_one.Goals as goal

pub returns-in-Err-clause-told : goal.returns-in-Err-clause-told
returns-in-Err-clause-told c =
    refused_so c.args.line (with_texts c.args.self.now c.args.texts.now) c.self.inside.world c.send_on_link.new.self _ _ _ _ _ _ _ (ap (λ (d : Direction). Send d.from d.to) c.direction.view_is)
    (ap (λ (s : ReplayState). with_texts s c.args.texts.now) c.self.view_is) c.in-Err.ensures.refused (stays_so _ _ c.in-Err.ensures.stays)

pub returns-in-Err-clause-stops : goal.returns-in-Err-clause-stops
returns-in-Err-clause-stops c =
    step_stops c.args.line c.args.self.now _ c.send_on_link.new.self.world c.args.texts.now (Send c.args.direction.from c.args.direction.to) c.self.view_is (ap (λ (s : Seen). s.world) c.in-Err.ensures.stays)

pub returns-then-not-due-clause-told : goal.returns-then-not-due-clause-told
returns-then-not-due-clause-told c =
    -- the event in the numbers of the direction
    ap (reports_on c.args.line (told (with_texts c.args.self.now c.args.texts.now))) (sym (ap (λ (d : Direction). Send d.from d.to) c.direction.view_is))
    ∙ ap (λ (s : ReplayState). reports_on c.args.line (told (with_texts s c.args.texts.now)) (Send c.direction.inside.from c.direction.inside.to)) (sym c.self.view_is)
    ∙ send_untold c.args.line _ c.direction.inside.from c.direction.inside.to c.send_on_link.new.self.world c.in-Ok.ensures.refused c.in-Ok.ensures.world
    (ap (λ (due : Bool). sent_outcome due c.send_on_link.new.sent) (sym c.if-not-due.true) ∙ c.in-Ok.ensures.told)

pub returns-in_err-push_frames-clause-stops : goal.returns-in_err-push_frames-clause-stops
returns-in_err-push_frames-clause-stops c =
    let p = err_from_is_err_and c.from_residual.result c.from_residual.ensures.1 in
    let now : ReplayState = record { world = c.send_on_link.new.self.world; counts = c.self.inside.counts; recording = c.self.inside.recording } in
    rw p.1
    (subst (λ (e : Event). StopsIn c.args.line (with_texts c.args.self.now c.args.texts.now) (e ∷ []) (with_texts now (record c.args.texts.now { frames = c.push_frames.new.out }))) (ap (λ (d : Direction). Send d.from d.to) c.direction.view_is)
    (tell_stops c.args.line c.args.self.now _ now c.send_on_link.new.self.world c.args.texts.now (record c.args.texts.now { frames = c.push_frames.new.out }) (Send c.direction.inside.from c.direction.inside.to) c.self.view_is c.in-Ok.ensures.refused c.in-Ok.ensures.world
    (refl, ap (λ (f : List ℕ). record c.args.texts.now { frames = f }) c.in_err-push_frames.ensures.err)))

pub returns-clause-told : goal.returns-clause-told
returns-clause-told c =
    ap (reports_on c.args.line (told (with_texts c.args.self.now c.args.texts.now))) (sym (ap (λ (d : Direction). Send d.from d.to) c.direction.view_is))
    ∙ ap (λ (s : ReplayState). reports_on c.args.line (told (with_texts s c.args.texts.now)) (Send c.direction.inside.from c.direction.inside.to)) (sym c.self.view_is)
    ∙ send_recorded c.args.line _ c.direction.inside.from c.direction.inside.to c.send_on_link.new.self.world c.push_frames.new.out c.send_on_link.new.sent c.in-Ok.ensures.refused c.in-Ok.ensures.world
    (ap (λ (due : Bool). sent_outcome due c.send_on_link.new.sent) (sym c.if-not-due.false) ∙ c.in-Ok.ensures.told) c.confs_of-routers.result.now
    (c.confs_of-routers.ensures.confs ∙ ap (λ (d : DomainConf). d.routers) (c.domain.ensures.domain ∙ c.in-Ok.ensures.domain)) c.in_ok-push_frames.ensures.ok
