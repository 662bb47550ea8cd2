use Rattle.std.proofs.Common.{ℕ, List, ◌++◌, ap, refl, ◌∙◌}
use Rattle.domain_replay.specs.Lines.{event_refused_text}
use Rattle.command_replay.proofs.Steps.{does_all, does_refused}
use Rattle.command_replay.proofs.replaying.Replaying.do_events.Goals as goal

pub returns-in-Ok-clause-does : goal.returns-in-Ok-clause-does
returns-in-Ok-clause-does c = does_all (List ℕ) c.args.self.now.line c.args.self.now.replay c.line.new.self c.args.texts.now c.line.new.texts c.args.said.now c.in-Ok.ensures.ok

pub returns-in_ok-push_event_refused-in-Err-clause-does : goal.returns-in_ok-push_event_refused-in-Err-clause-does
returns-in_ok-push_event_refused-in-Err-clause-does c =
    does_refused (List ℕ) c.args.self.now.line c.args.self.now.replay c.line.new.self c.args.texts.now c.line.new.texts (record { frames = c.line.new.texts.frames; report = c.push_event_refused.new.out }) c.args.said.now c.in-Err.why
    (c.in-Err.ensures.refused c.in_ok-push_event_refused-in-Err.ensures.known) refl
    (c.in_ok-push_event_refused-in-Err.ensures.ok ∙ ap (λ (n : ℕ). c.line.new.texts.report ++ event_refused_text n c.in-Err.why) c.from.ensures)
