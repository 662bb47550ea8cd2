use Rattle.std.proofs.Common.{ℕ, List, sym, ap, ◌∙◌, ◌+◌}
use Rattle.replay_text.specs.Schedule.{schedule_line}
use Rattle.command_replay.specs.Owed.{Begins}
use Rattle.command_replay.proofs.SaidLines.{line_doable}
use Rattle.command_replay.proofs.Steps.{item_did, if_ok_then}
use Rattle.command_replay.proofs.replaying.ReplayingCommandOctets.item.Goals as goal

pub begin-requires-clause-once : goal.begin-requires-clause-once
begin-requires-clause-once c = (line_doable c.args.self.now.names c.as_slice.result.now c.in-Ok.said c.in-Ok.ensures.value).1

pub returns-in-Ok-clause-did : goal.returns-in-Ok-clause-did
returns-in-Ok-clause-did c =
    let old = c.args.self.now in
    let new = c.begin.new.self in
    if_ok_then (λ how. Begins (List ℕ) how (old.line + 1) c.in-Ok.said old.replay new.replay new.rounds c.args.texts.now c.begin.new.texts) _ c.begin.result
    (λ how begins. item_did how old.names new.names old.line new.line old.rounds new.rounds old.replay new.replay c.args.item.now c.in-Ok.said c.args.texts.now c.begin.new.texts c.requires.rests
    (ap (λ (t : List ℕ). schedule_line t old.names) (sym c.as_slice.ensures) ∙ c.in-Ok.ensures.value) c.begin.ensures.rest.1 c.begin.ensures.rest.0 begins)
    c.begin.ensures.begins
