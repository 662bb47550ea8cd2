use Rattle.std.proofs.Common.{None, Err}
use Rattle.std.proofs.lemmas.Result.{err_from_is_err_and}
use Rattle.replay_text.specs.declared.event.Line.TheVariants.{Settle}
use Rattle.domain_handshake.specs.Handshakes.{and_then, in_turn, hello_on, greets_on, world_does}
use Rattle.domain_handshake.proofs.Parts.{then_did, then_does, then_stops}
use Rattle.domain_handshake.proofs.hand_world.HandWorld.round.Goals as goal

pub returns-in_err-do_hellos-clause-does : goal.returns-in_err-do_hellos-clause-does
returns-in_err-do_hellos-clause-does c =
    let p = err_from_is_err_and c.from_residual.result c.from_residual.ensures.1 in
    rw (p.1, p.2) (then_stops (and_then (in_turn (hello_on c.args.line) c.args.self.now c.args.all.now) (λ next. in_turn (greets_on c.args.line) next c.args.all.now)) (λ next. world_does c.args.line next (Settle 1)) c.do_hellos.new.self c.args.texts.now c.do_hellos.new.texts _
    (then_stops (in_turn (hello_on c.args.line) c.args.self.now c.args.all.now) (λ next. in_turn (greets_on c.args.line) next c.args.all.now) c.do_hellos.new.self c.args.texts.now c.do_hellos.new.texts _ c.in_err-do_hellos.ensures.does))

pub returns-in_err-do_greets-clause-does : goal.returns-in_err-do_greets-clause-does
returns-in_err-do_greets-clause-does c =
    let p = err_from_is_err_and c.from_residual-in_err-do_greets.result c.from_residual-in_err-do_greets.ensures.1 in
    rw (p.1, p.2) (then_stops (and_then (in_turn (hello_on c.args.line) c.args.self.now c.args.all.now) (λ next. in_turn (greets_on c.args.line) next c.args.all.now)) (λ next. world_does c.args.line next (Settle 1)) c.do_greets.new.self c.args.texts.now c.do_greets.new.texts c.in_err-do_greets.field-0.0
    (then_does (in_turn (hello_on c.args.line) c.args.self.now c.args.all.now) (λ next. in_turn (greets_on c.args.line) next c.args.all.now) c.do_hellos.new.self c.args.texts.now c.do_hellos.new.texts c.in_ok-do_hellos.ensures.does c.do_greets.new.self c.do_greets.new.texts (Err c.in_err-do_greets.field-0.0) c.in_err-do_greets.ensures.does))

pub returns-clause-does : goal.returns-clause-does
returns-clause-does c =
    then_does (and_then (in_turn (hello_on c.args.line) c.args.self.now c.args.all.now) (λ next. in_turn (greets_on c.args.line) next c.args.all.now)) (λ next. world_does c.args.line next (Settle 1)) c.do_greets.new.self c.args.texts.now c.do_greets.new.texts
    (then_did (in_turn (hello_on c.args.line) c.args.self.now c.args.all.now) (λ next. in_turn (greets_on c.args.line) next c.args.all.now) c.do_hellos.new.self c.args.texts.now c.do_hellos.new.texts c.in_ok-do_hellos.ensures.does c.do_greets.new.self None c.do_greets.new.texts c.in_ok-do_greets.ensures.does)
    c.do_own_round.new.self c.do_own_round.new.texts c.do_own_round.result c.do_own_round.ensures.does
