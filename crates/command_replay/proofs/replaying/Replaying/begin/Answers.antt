use Rattle.std.proofs.Common.{ℕ, List, ◌≡◌, ◌∙◌}
use Rattle.command_drive.specs.declared.command.Flow.TheVariants as flow
use Rattle.domain_replay.specs.Telling.{tells_line}
use Rattle.domain_replay.specs.Parts.{unsaid}
use Rattle.command_replay.specs.Owed.{Does, Begins}
use Rattle.command_replay.proofs.Steps.{begins_rounds, begins_at_once, if_ok, if_ok_then}
use Rattle.command_replay.proofs.replaying.Replaying.begin.Goals as goal

pub returns-in-Settle-clause-begins : goal.returns-in-Settle-clause-begins
returns-in-Settle-clause-begins c = begins_rounds (List ℕ) c.args.self.now.line c.args.said.now c.in-Settle.rounds c.args.self.now.replay c.args.texts.now c.in-Settle.is

pub returns : goal.returns
returns c =
    let line = c.args.self.now.line in
    let s = c.args.self.now.replay in
    let new = c.do_events.new.self in
    let none : new.rounds ≡ 0 = c.do_events.ensures.rest.2 ∙ c.requires.rests in
    record {
      begins =
          if_ok_then (λ how. Does (List ℕ) how line (tells_line line (unsaid s) c.args.said.now) new.replay c.args.texts.now c.do_events.new.texts)
          (λ how. Begins (List ℕ) how line c.args.said.now s new.replay new.rounds c.args.texts.now c.do_events.new.texts) c.do_events.result
          (λ how does. begins_at_once (List ℕ) how line c.args.said.now new.rounds s new.replay c.args.texts.now c.do_events.new.texts c.in_default.not-Settle none does) c.do_events.ensures.does;
      rests = if_ok (λ how. how ≡ flow.On → new.rounds ≡ 0) c.do_events.result (λ how on. none);
      rest = (c.do_events.ensures.rest.0, c.do_events.ensures.rest.1);
    }
