use Rattle.std.proofs.Common.{ℕ, List, refl, sym, ap, ◌∙◌, ◌+◌, ◌++◌}
use Rattle.replay_text.specs.Fault.{fault_text}
use Rattle.domain_replay.specs.Lines.{text_refused_text}
use Rattle.replay_text.specs.Hand.{hand_line}
use Rattle.command_replay.proofs.Steps.{if_ok_then}
use Rattle.command_handshake.specs.Owed.{Begins}
use Rattle.command_handshake.specs.Shaken.{said_does}
use Rattle.command_handshake.proofs.SaidHands.{hand_doable}
use Rattle.command_handshake.proofs.Turning.{fails_as, item_did, unread_did}
use Rattle.command_handshake.proofs.shaking.ShakingCommandOctets.item.Goals as goal

pub begin-requires-clause-once : goal.begin-requires-clause-once
begin-requires-clause-once c = (hand_doable c.args.self.now.names c.as_slice.result.now c.in-Ok.said c.in-Ok.ensures.value).1

pub returns-in-Ok-clause-did : goal.returns-in-Ok-clause-did
returns-in-Ok-clause-did c =
    let old = c.args.self.now in
    let new = c.begin.new.self in
    if_ok_then (λ how. Begins (List ℕ) how (old.line + 1) (said_does (old.line + 1) old.hands c.in-Ok.said) new.hands new.rounds c.args.texts.now c.begin.new.texts) _ c.begin.result
    (λ how begins. item_did how old.names old.line new.line old.rounds new.rounds old.hands new.hands c.args.item.now c.in-Ok.said c.args.texts.now c.begin.new.texts c.requires.rests old.named
    (ap (λ (t : List ℕ). hand_line t old.names) (sym c.as_slice.ensures) ∙ c.in-Ok.ensures.value) c.begin.ensures.rest.1 begins)
    c.begin.ensures.begins

pub returns-in_ok-push_text_refused-in-Err-clause-did : goal.returns-in_ok-push_text_refused-in-Err-clause-did
returns-in_ok-push_text_refused-in-Err-clause-did c =
    let old = c.args.self.now in (
      refl,
      λ items behind.
          unread_did old.names old.line old.rounds old.hands c.args.item.now c.in-Err.why c.args.texts.now (record { frames = c.args.texts.now.frames; report = c.push_text_refused.new.out }) c.requires.rests old.named
          (ap (λ (t : List ℕ). hand_line t old.names) (sym c.as_slice.ensures) ∙ fails_as c.in-Err.why (hand_line c.as_slice.result.now old.names) c.in-Err.ensures.value c.in_ok-push_text_refused-in-Err.ensures.known)
          refl (c.in_ok-push_text_refused-in-Err.ensures.ok ∙ ap (λ (n : ℕ). c.args.texts.now.report ++ text_refused_text n (fault_text c.in-Err.why)) c.from.ensures) items behind,
    )
