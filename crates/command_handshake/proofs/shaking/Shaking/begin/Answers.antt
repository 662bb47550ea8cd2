use Rattle.std.proofs.Common.{◌≡◌, ℕ, List, ◌∙◌}
use Rattle.domain_handshake.specs.Handshakes.{hello_does}
use Rattle.command_replay.proofs.Steps.{if_ok_then}
use Rattle.command_handshake.specs.Owed.{Does, Begins}
use Rattle.command_handshake.specs.Shaken.{said_does}
use Rattle.command_handshake.proofs.Turning.{begins_hello}
use Rattle.command_handshake.proofs.shaking.Shaking.begin.Goals as goal

pub returns-in-Hello-clause-begins : goal.returns-in-Hello-clause-begins
returns-in-Hello-clause-begins c =
    let line = c.args.self.now.line in
    let s = c.args.self.now.hands in
    let new = c.do_hello.new.self in
    let none : new.rounds ≡ 0 = c.do_hello.ensures.rest.2 ∙ c.requires.rests in
    if_ok_then (λ how. Does (List ℕ) how line (hello_does line s c.in-Hello.event) new.hands c.args.texts.now c.do_hello.new.texts)
    (λ how. Begins (List ℕ) how line (said_does line s c.args.said.now) new.hands new.rounds c.args.texts.now c.do_hello.new.texts) c.do_hello.result
    (λ how does. begins_hello (List ℕ) how line new.rounds c.args.said.now c.in-Hello.event s new.hands c.args.texts.now c.do_hello.new.texts c.in-Hello.is none does) c.do_hello.ensures.does
