use Rattle.std.proofs.Common.{ℕ, List, sym, subst}
use Rattle.std.specs.Prelude.{IfOk}
use Rattle.replay_text.specs.declared.check.CheckLine.{CheckLine}
use Rattle.domain_core.specs.Cover.{cover_of}
use Rattle.command_replay.specs.Owed.{Begins}
use Rattle.command_replay.proofs.Steps.{if_ok_then}
use Rattle.command_check.specs.Checked.{said_turn}
use Rattle.command_check.specs.Turning.{BeginsTurn, Covers}
use Rattle.command_check.proofs.Beginning.{base_begins}
use Rattle.command_check.proofs.checking.Checking.begin.Goals as goal

pub returns-in-Base-clause-begins : goal.returns-in-Base-clause-begins
returns-in-Base-clause-begins c =
    let r = c.args.self.now.replaying in
    let new = c.begin.new.self in
    let texts = c.args.texts.now in
    subst (λ (l : CheckLine). IfOk c.begin.result (λ how. BeginsTurn how r.line (said_turn r.line l r.replay) new.replay new.rounds texts c.begin.new.texts)) (sym c.in-Base.is)
    (if_ok_then (λ how. Begins (List ℕ) how r.line c.in-Base.said r.replay new.replay new.rounds texts c.begin.new.texts) _ c.begin.result
    (λ how begins. base_begins how r.line c.in-Base.said r.replay new.replay new.rounds texts c.begin.new.texts begins) c.begin.ensures.begins)

pub returns-in-Quiet-clause-begins : goal.returns-in-Quiet-clause-begins
returns-in-Quiet-clause-begins c =
    let r = c.args.self.now.replaying in
    let texts = c.args.texts.now in
    let same = subst (λ (n : ℕ). IfOk c.tell_quiet.result (λ how. BeginsTurn how r.line (said_turn r.line c.args.said.now r.replay) r.replay n texts c.tell_quiet.new.texts)) (sym c.requires.rests) in
    same (subst (λ (l : CheckLine). IfOk c.tell_quiet.result (λ how. BeginsTurn how r.line (said_turn r.line l r.replay) r.replay 0 texts c.tell_quiet.new.texts)) (sym c.in-Quiet.is) c.tell_quiet.ensures)

pub returns-in-Cover-clause-begins : goal.returns-in-Cover-clause-begins
returns-in-Cover-clause-begins c =
    let r = c.args.self.now.replaying in
    let texts = c.args.texts.now in
    let at = c.in-Cover in
    let same = subst (λ (n : ℕ). IfOk c.tell_cover.result (λ how. BeginsTurn how r.line (said_turn r.line c.args.said.now r.replay) r.replay n texts c.tell_cover.new.texts)) (sym c.requires.rests) in
    same
    (subst (λ (l : CheckLine). IfOk c.tell_cover.result (λ how. BeginsTurn how r.line (said_turn r.line l r.replay) r.replay 0 texts c.tell_cover.new.texts)) (sym at.is)
    (c.tell_cover.ensures (cover_of r.replay.world at.router at.sd at.bsl at.ids at.ttl at.entropy) (subst (λ (ids : List ℕ). Covers (cover_of r.replay.world at.router at.sd at.bsl ids at.ttl at.entropy) c.cover-covered.result) c.as_slice.ensures c.cover-covered.ensures.value)))
