use Rattle.std.proofs.Common.{Bool, List, ap, sym, subst, refl, ◌∙◌, [], ◌∷◌, ◌++◌}
use Rattle.std.specs.List.{AllByRecursion}
use Rattle.std.proofs.lemmas.Result.{err_from_is_err_and}
use Rattle.replay_text.specs.declared.event.Event.{Event}
use Rattle.replay_text.specs.declared.event.Event.TheVariants.{Take}
use Rattle.wire_base.specs.declared.conf.RouterConf.{RouterConf}
use Rattle.wire_base.specs.model.Configuration.{DomainConf}
use Rattle.replay_report.specs.Captures.{wire_records}
use Rattle.replay_report.specs.Lines.{event_text}
use Rattle.replay_report.specs.declared.counts.Counts.{Counts}
use Rattle.frames_in_flight.specs.Told.{IsShortFrame}
use Rattle.domain_core.specs.Answers.{taken_outcome}
use Rattle.domain_model.specs.Run.{Direction}
use Rattle.domain_replay.specs.Replaying.{StopsIn}
use Rattle.domain_replay.specs.Telling.{ReplayState, with_texts, told, reports_on}
use Rattle.domain_replay.proofs.StopLaws.{step_stops, tell_stops}
use Rattle.domain_replay.proofs.EventTells.{event_reported, refused_so, take_untold}
use Rattle.domain_replay.proofs.reported_world.ReportedWorld.take_one.Goals as goal

pub returns-in-Err-clause-told : goal.returns-in-Err-clause-told
returns-in-Err-clause-told c =
    refused_so c.args.line (with_texts c.args.self.now c.args.texts.now) c.self.inside.world c.take_on_link.new.self _ _ _ _ _ _ _ (ap (λ (d : Direction). Take d.from d.to 0) c.direction.view_is)
    (ap (λ (s : ReplayState). with_texts s c.args.texts.now) c.self.view_is) c.in-Err.ensures.refused c.in-Err.ensures.stays

pub returns-in-Err-clause-stops : goal.returns-in-Err-clause-stops
returns-in-Err-clause-stops c =
    step_stops c.args.line c.args.self.now _ c.take_on_link.new.self.world c.args.texts.now (Take c.args.direction.from c.args.direction.to 0) c.self.view_is c.in-Err.ensures.whole.world

pub returns-then-not-some-clause-told : goal.returns-then-not-some-clause-told
returns-then-not-some-clause-told c =
    -- the event in the numbers of the direction
    ap (reports_on c.args.line (told (with_texts c.args.self.now c.args.texts.now))) (sym (ap (λ (d : Direction). Take d.from d.to 0) c.direction.view_is))
    ∙ ap (λ (s : ReplayState). reports_on c.args.line (told (with_texts s c.args.texts.now)) (Take c.direction.inside.from c.direction.inside.to 0)) (sym c.self.view_is)
    ∙ take_untold c.args.line _ c.direction.inside.from c.direction.inside.to 0 c.take_on_link.new.self.world c.in-Ok.ensures.refused c.in-Ok.ensures.world
    (ap (λ (some : Bool). taken_outcome some c.take_on_link.new.made) (sym c.if-not-some.true) ∙ c.in-Ok.ensures.told)

pub push_made-requires-clause-short : goal.push_made-requires-clause-short
push_made-requires-clause-short c = subst (λ (some : Bool). AllByRecursion IsShortFrame (taken_outcome some c.take_on_link.new.made).sent) c.if-not-some.false c.in-Ok.ensures.short

pub returns-in_err-counts-clause-stops : goal.returns-in_err-counts-clause-stops
returns-in_err-counts-clause-stops c =
    let p = err_from_is_err_and c.from_residual.result c.from_residual.ensures.1 in
    let now : ReplayState = record { world = c.take_on_link.new.self.world; counts = c.self.inside.counts; recording = c.self.inside.recording } in
    rw p.1
    (subst (λ (e : Event). StopsIn c.args.line (with_texts c.args.self.now c.args.texts.now) (e ∷ []) (with_texts now c.args.texts.now)) (ap (λ (d : Direction). Take d.from d.to 0) c.direction.view_is)
    (tell_stops c.args.line c.args.self.now _ now c.take_on_link.new.self.world c.args.texts.now c.args.texts.now (Take c.direction.inside.from c.direction.inside.to 0) c.self.view_is c.in-Ok.ensures.refused c.in-Ok.ensures.world (refl, refl)))

pub returns-in_err-push_made-clause-stops : goal.returns-in_err-push_made-clause-stops
returns-in_err-push_made-clause-stops c =
    let p = err_from_is_err_and c.from_residual-in_err-push_made.result c.from_residual-in_err-push_made.ensures.1 in
    let now : ReplayState = record { world = c.take_on_link.new.self.world; counts = c.self.inside.counts; recording = c.self.inside.recording } in
    rw p.1
    (subst (λ (e : Event). StopsIn c.args.line (with_texts c.args.self.now c.args.texts.now) (e ∷ []) (with_texts now c.push_made.new.texts)) (ap (λ (d : Direction). Take d.from d.to 0) c.direction.view_is)
    (tell_stops c.args.line c.args.self.now _ now c.take_on_link.new.self.world c.args.texts.now c.push_made.new.texts (Take c.direction.inside.from c.direction.inside.to 0) c.self.view_is c.in-Ok.ensures.refused c.in-Ok.ensures.world
    (refl, c.in_err-push_made.ensures.err)))

pub returns-clause-told : goal.returns-clause-told
returns-clause-told c =
    let now : ReplayState = record { world = c.take_on_link.new.self.world; counts = c.in_ok-counts.counts; recording = c.self.inside.recording } in
    let made = c.take_on_link.new.made in
    let routers = c.confs_of-routers.ensures.confs ∙ ap (λ (d : DomainConf). d.routers) c.domain.ensures.domain in
    ap (reports_on c.args.line (told (with_texts c.args.self.now c.args.texts.now))) (sym (ap (λ (d : Direction). Take d.from d.to 0) c.direction.view_is))
    ∙ event_reported c.args.line c.args.self.now _ now c.args.texts.now c.push_made.new.texts (Take c.direction.inside.from c.direction.inside.to 0) c.take_on_link.new.self.world made c.self.view_is c.in-Ok.ensures.refused
    c.in-Ok.ensures.world (ap (λ (some : Bool). taken_outcome some made) (sym c.if-not-some.false) ∙ c.in-Ok.ensures.told) (ap (λ (n : Counts). record now { counts = n }) c.in_ok-counts.ensures)
    (c.in_ok-push_made.ensures.frames ∙ ap (λ (rs : List RouterConf). c.args.texts.now.frames ++ wire_records c.self.inside.recording rs c.args.line made.sent) routers)
    (c.in_ok-push_made.ensures.report ∙ ap (λ (rs : List RouterConf). c.args.texts.now.report ++ event_text rs c.args.line made.got made.drops) routers)
