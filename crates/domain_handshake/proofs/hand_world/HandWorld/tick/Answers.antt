use Rattle.std.proofs.Common.{Some, None, subst}
use Rattle.std.proofs.lemmas.Result.{err_from_is_err_and}
use Rattle.replay_text.specs.declared.event.Event.{Event}
use Rattle.replay_text.specs.declared.event.Line.TheVariants.{One}
use Rattle.domain_handshake.specs.Doing.{Did}
use Rattle.domain_handshake.specs.Handshakes.{world_does}
use Rattle.domain_handshake.proofs.Steps.{tick_so, tick_stops}
use Rattle.domain_handshake.proofs.hand_world.HandWorld.tick.Goals as goal

pub returns-in_err-do_event-clause-does : goal.returns-in_err-do_event-clause-does
returns-in_err-do_event-clause-does c =
    let p = err_from_is_err_and c.from_residual.result c.from_residual.ensures.1 in
    rw (p.1, p.2) (tick_stops c.args.line c.args.self.now c.do_event.new.self c.args.router c.args.texts.now c.do_event.new.texts c.in_err-do_event.field-0.0
    (λ known. subst (λ (e : Event). Did (world_does c.args.line c.args.self.now (One e)) c.do_event.new.self (Some c.in_err-do_event.field-0.0) c.args.texts.now c.do_event.new.texts) c.requires.is (c.in_err-do_event.ensures.does known)))

pub returns-clause-does : goal.returns-clause-does
returns-clause-does c =
    tick_so c.args.line c.args.self.now c.do_event.new.self c.hello.new.self c.args.router c.args.texts.now c.do_event.new.texts c.hello.new.texts c.hello.result
    (subst (λ (e : Event). Did (world_does c.args.line c.args.self.now (One e)) c.do_event.new.self None c.args.texts.now c.do_event.new.texts) c.requires.is c.in_ok-do_event.ensures.does)
    c.hello.ensures.does
