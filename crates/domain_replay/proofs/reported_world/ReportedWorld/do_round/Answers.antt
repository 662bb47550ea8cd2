use Rattle.std.proofs.Common.{◌≡◌, ◌∙◌, ap, subst, sym, List}
use Rattle.std.proofs.lemmas.Result.{err_from_is_err_and}
use Rattle.replay_text.specs.declared.event.Event.{Event}
use Rattle.domain_model.specs.Run.{Direction, directions, round_sends, round_takes, world_after}
use Rattle.domain_replay.specs.Telling.{Telling, Told, with_texts, told, tells_all}
use Rattle.domain_replay.specs.Replaying.{Tells, StopsIn, sends_in}
use Rattle.domain_replay.proofs.TellsLaws.{err_at, round_split, round_left}
use Rattle.domain_replay.proofs.StopLaws.{round_first, round_answer}
use Rattle.domain_replay.proofs.reported_world.ReportedWorld.do_round.Goals as goal

pub returns-in_err-do_sends-clause-told : goal.returns-in_err-do_sends-clause-told
returns-in_err-do_sends-clause-told c =
    let sent : sends_in c.args.self.now.world c.args.all.now ≡ round_sends c.args.self.now.world = ap (λ (ds : List Direction). sends_in c.args.self.now.world ds) c.requires.value in
    let p = err_from_is_err_and c.from_residual.result c.from_residual.ensures.1 in
    rw (p.1, p.2) (err_at c.args.line _ _ (round_takes (world_after c.args.self.now.world (round_sends c.args.self.now.world)) (directions c.args.self.now.world.domain.routers)) _ _
    (round_split c.args.line (with_texts c.args.self.now c.args.texts.now) ∙ ap (λ (es : List Event). tells_all c.args.line (tells_all c.args.line (told (with_texts c.args.self.now c.args.texts.now)) es) (round_takes (world_after c.args.self.now.world (round_sends c.args.self.now.world)) (directions c.args.self.now.world.domain.routers))) (sym sent))
    c.in_err-do_sends.ensures.told)

pub returns-in_err-do_sends-clause-stops : goal.returns-in_err-do_sends-clause-stops
returns-in_err-do_sends-clause-stops c =
    let sent : sends_in c.args.self.now.world c.args.all.now ≡ round_sends c.args.self.now.world = ap (λ (ds : List Direction). sends_in c.args.self.now.world ds) c.requires.value in
    let p = err_from_is_err_and c.from_residual.result c.from_residual.ensures.1 in
    rw p.1 (round_first c.args.line (with_texts c.args.self.now c.args.texts.now) _ (subst (λ (es : List Event). StopsIn c.args.line (with_texts c.args.self.now c.args.texts.now) es (with_texts c.do_sends.new.self c.do_sends.new.texts)) sent c.in_err-do_sends.ensures.stops))

pub returns-clause-told : goal.returns-clause-told
returns-clause-told c =
    let now : Telling = (with_texts c.do_sends.new.self c.do_sends.new.texts) in
    let sent : sends_in c.args.self.now.world c.args.all.now ≡ round_sends c.args.self.now.world = ap (λ (ds : List Direction). sends_in c.args.self.now.world ds) c.requires.value in
    let h : tells_all c.args.line (told (with_texts c.args.self.now c.args.texts.now)) (round_sends c.args.self.now.world) ≡ told now =
    subst (λ (es : List Event). tells_all c.args.line (told (with_texts c.args.self.now c.args.texts.now)) es ≡ told now) sent c.in_ok-do_sends.ensures.told in
    subst (λ (t : Told). Tells t (with_texts c.do_takes.new.self c.do_takes.new.texts) c.do_takes.result)
    (sym (round_left c.args.line (with_texts c.args.self.now c.args.texts.now) now h ∙ ap (λ (ds : List Direction). tells_all c.args.line (told now) (round_takes now.world ds)) (sym c.requires.value)))
    c.do_takes.ensures.told

pub returns-clause-stops : goal.returns-clause-stops
returns-clause-stops c =
    let sent : sends_in c.args.self.now.world c.args.all.now ≡ round_sends c.args.self.now.world = ap (λ (ds : List Direction). sends_in c.args.self.now.world ds) c.requires.value in
    round_answer c.args.line (with_texts c.args.self.now c.args.texts.now) (with_texts c.do_sends.new.self c.do_sends.new.texts) (with_texts c.do_takes.new.self c.do_takes.new.texts) c.args.all.now c.do_takes.result c.requires.value
    (subst (λ (es : List Event). tells_all c.args.line (told (with_texts c.args.self.now c.args.texts.now)) es ≡ told (with_texts c.do_sends.new.self c.do_sends.new.texts)) sent c.in_ok-do_sends.ensures.told)
    c.do_takes.ensures.stops
