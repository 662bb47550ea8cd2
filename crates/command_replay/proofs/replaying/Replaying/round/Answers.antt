use Rattle.std.proofs.Common.{ℕ, List, ◌≡◌, ◌<◌, ◌-◌, subst, arith}
use Rattle.replay_text.specs.declared.event.Line.TheVariants.{Settle}
use Rattle.domain_replay.specs.Telling.{tells_line}
use Rattle.command_drive.specs.declared.command.Flow.{Flow}
use Rattle.command_drive.specs.declared.command.Flow.TheVariants as flow
use Rattle.command_drive.proofs.Meanings.{told_none}
use Rattle.domain_replay.specs.Parts.{unsaid}
use Rattle.command_replay.specs.Owed.{rounds_owe, Does}
use Rattle.command_replay.proofs.Steps.{round_goes}
use Rattle.command_replay.proofs.replaying.Replaying.round.Goals as goal

pub returns-then-self-eq0-clause-goes : goal.returns-then-self-eq0-clause-goes
returns-then-self-eq0-clause-goes c = λ rest.
    let s = c.args.self.now in
    told_none (λ items behind. rounds_owe s.line s.rounds s.replay (rest items behind)) c.args.texts.now

pub returns-in-On-clause-goes : goal.returns-in-On-clause-goes
returns-in-On-clause-goes c =
    let old = c.args.self.now in
    let new = c.do_events.new.self in
    let some : 0 < old.rounds = omega arith in
    round_goes (List ℕ) flow.On old.line old.rounds new.rounds old.replay new.replay c.args.texts.now c.do_events.new.texts some c.in_ok-ended.ensures.rest.2
    (subst (λ (how : Flow). Does (List ℕ) how old.line (tells_line old.line (unsaid old.replay) (Settle 1)) new.replay c.args.texts.now c.do_events.new.texts) c.in-On.is c.in_ok-ended.ensures.does)

pub returns-in_default : goal.returns-in_default
returns-in_default c =
    let old = c.args.self.now in
    let new = c.do_events.new.self in
    let some : 0 < old.rounds = omega arith in
    let less : new.rounds ≡ old.rounds - 1 = c.in_ok-ended.ensures.rest.2 in
    record {
      goes = round_goes (List ℕ) c.in_ok-ended.ended old.line old.rounds new.rounds old.replay new.replay c.args.texts.now c.do_events.new.texts some less c.in_ok-ended.ensures.does;
      rests = λ on. absurd (c.in_default.not-On on);
      fewer = λ more. omega (arith, some, less);
      rest = (c.in_ok-ended.ensures.rest.0, c.in_ok-ended.ensures.rest.1);
    }
