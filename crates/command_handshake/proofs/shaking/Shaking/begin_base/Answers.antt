use Rattle.std.proofs.Common.{◌≡◌, ℕ, List, ◌∙◌}
use Rattle.replay_text.specs.declared.event.Line.TheVariants.{Empty, Settle}
use Rattle.domain_handshake.specs.Handshakes.{event_does, base_does}
use Rattle.command_drive.specs.declared.command.Flow.TheVariants as flow
use Rattle.command_replay.proofs.Steps.{if_ok_then}
use Rattle.command_handshake.specs.Owed.{Does, Begins}
use Rattle.command_handshake.proofs.Turning.{begins_said, begins_empty, begins_one, begins_rounds}
use Rattle.command_handshake.proofs.shaking.Shaking.begin_base.Goals as goal

pub returns-in-Empty-clause-begins : goal.returns-in-Empty-clause-begins
returns-in-Empty-clause-begins c = begins_said (List ℕ) flow.On c.args.self.now.line c.args.self.now.rounds c.args.said.now Empty c.args.self.now.hands c.args.self.now.hands c.args.texts.now c.args.texts.now c.in-Empty.is
    (begins_empty (List ℕ) c.args.self.now.line c.args.self.now.rounds c.args.self.now.hands c.args.texts.now c.requires.rests)

pub returns-in-One-clause-begins : goal.returns-in-One-clause-begins
returns-in-One-clause-begins c =
    let line = c.args.self.now.line in
    let s = c.args.self.now.hands in
    let new = c.do_event.new.self in
    let none : new.rounds ≡ 0 = c.do_event.ensures.rest.2 ∙ c.requires.rests in
    if_ok_then (λ how. Does (List ℕ) how line (event_does line s c.in-One.event) new.hands c.args.texts.now c.do_event.new.texts)
    (λ how. Begins (List ℕ) how line (base_does line s c.args.said.now) new.hands new.rounds c.args.texts.now c.do_event.new.texts) c.do_event.result
    (λ how does. begins_one (List ℕ) how line new.rounds c.args.said.now c.in-One.event s new.hands c.args.texts.now c.do_event.new.texts c.in-One.is none does) c.do_event.ensures.does

pub returns-in-Settle-clause-begins : goal.returns-in-Settle-clause-begins
returns-in-Settle-clause-begins c = begins_said (List ℕ) flow.More c.args.self.now.line c.in-Settle.rounds c.args.said.now (Settle c.in-Settle.rounds) c.args.self.now.hands c.args.self.now.hands c.args.texts.now c.args.texts.now c.in-Settle.is
    (begins_rounds (List ℕ) c.args.self.now.line c.in-Settle.rounds c.args.self.now.hands c.args.texts.now)
