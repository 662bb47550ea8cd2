use Rattle.std.proofs.Common.{subst}
use Rattle.std.proofs.lemmas.Result.{err_from_is_err_and}
use Rattle.replay_text.specs.declared.event.Event.{Event}
use Rattle.replay_text.specs.declared.event.Line.TheVariants.{One}
use Rattle.domain_handshake.specs.Doing.{Does}
use Rattle.domain_handshake.specs.Handshakes.{world_does}
use Rattle.domain_handshake.proofs.Steps.{restart_so, restart_stops}
use Rattle.domain_handshake.proofs.hand_world.HandWorld.restart.Goals as goal

pub returns-in_err-hello-clause-does : goal.returns-in_err-hello-clause-does
returns-in_err-hello-clause-does c =
    let p = err_from_is_err_and c.from_residual.result c.from_residual.ensures.1 in
    rw (p.1, p.2) (restart_stops c.args.line c.args.self.now c.hello.new.self c.args.router c.args.texts.now c.hello.new.texts _ c.in_err-hello.ensures.does)

pub returns-clause-does : goal.returns-clause-does
returns-clause-does c =
    restart_so c.args.line c.args.self.now c.hello.new.self c.do_event.new.self c.args.router c.args.texts.now c.hello.new.texts c.do_event.new.texts c.do_event.result
    c.in_ok-hello.ensures.does
    (subst (λ (e : Event). Does (world_does c.args.line c.hello.new.self (One e)) c.do_event.new.self c.hello.new.texts c.do_event.new.texts c.do_event.result) c.requires.is c.do_event.ensures.does)
