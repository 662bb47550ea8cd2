use Rattle.std.proofs.Common.{ℕ, List, ◌++◌, Ok, refl, sym, ap, subst, ◌∙◌, ◌+◌}
use Rattle.replay_text.specs.Check.{check_line}
use Rattle.replay_text.specs.Fault.{fault_text}
use Rattle.replay_text.specs.Reading.{Fails}
use Rattle.domain_replay.specs.Lines.{text_refused_text}
use Rattle.command_replay.proofs.Steps.{if_ok_then}
use Rattle.command_check.specs.Checked.{said_turn}
use Rattle.command_check.specs.Turning.{BeginsTurn}
use Rattle.command_check.proofs.Beginning.{line_did, refused_did}
use Rattle.command_check.proofs.SaidChecks.{check_doable}
use Rattle.command_check.proofs.checking.CheckingCommandOctets.item.Goals as goal

pub begin-requires-clause-once : goal.begin-requires-clause-once
begin-requires-clause-once c = (check_doable c.args.self.now.replaying.names c.as_slice.result.now c.in-Ok.said c.in-Ok.ensures.value).1

pub returns-in-Ok-clause-did : goal.returns-in-Ok-clause-did
returns-in-Ok-clause-did c =
    let old = c.args.self.now.replaying in
    let new = c.begin.new.self.replaying in
    let texts = c.args.texts.now in
    if_ok_then (λ how. BeginsTurn how (old.line + 1) (said_turn (old.line + 1) c.in-Ok.said old.replay) new.replay new.rounds texts c.begin.new.texts) _ c.begin.result
    (λ how begins. line_did how old.names old.line new.line old.rounds new.rounds old.replay new.replay c.args.item.now (Ok c.in-Ok.said) texts c.begin.new.texts c.requires.rests old.named
    (ap (λ (t : List ℕ). check_line t old.names) (sym c.as_slice.ensures) ∙ c.in-Ok.ensures.value) c.begin.ensures.rest begins)
    c.begin.ensures.begins

pub returns-in_ok-push_text_refused-in-Err-clause-did : goal.returns-in_ok-push_text_refused-in-Err-clause-did
returns-in_ok-push_text_refused-in-Err-clause-did c =
    let old = c.args.self.now.replaying in
    let texts = c.args.texts.now in
    let why = c.in-Err.why in
    refused_did old.names old.line (old.line + 1) old.rounds old.rounds old.replay old.replay c.args.item.now why texts (record { frames = texts.frames; report = c.push_text_refused.new.out }) c.requires.rests old.named
    (subst (λ (t : List ℕ). Fails why (check_line t old.names)) c.as_slice.ensures c.in-Err.ensures.value) c.in_ok-push_text_refused-in-Err.ensures.known refl
    (c.in_ok-push_text_refused-in-Err.ensures.ok ∙ ap (λ (n : ℕ). texts.report ++ text_refused_text n (fault_text why)) c.from-line.ensures) refl
