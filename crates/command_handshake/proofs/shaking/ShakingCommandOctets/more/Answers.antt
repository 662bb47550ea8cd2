use Rattle.std.proofs.Common.{ℕ, List, ◌≡◌, ◌<◌, ◌-◌, subst, arith}
use Rattle.domain_handshake.specs.Handshakes.{round_does}
use Rattle.command_drive.specs.declared.command.Flow.{Flow}
use Rattle.command_drive.specs.declared.command.Flow.TheVariants as flow
use Rattle.command_drive.proofs.Meanings.{told_none}
use Rattle.command_handshake.specs.Owed.{Does, rounds_owe, lines_owe}
use Rattle.command_handshake.proofs.Turning.{round_did}
use Rattle.command_handshake.proofs.shaking.ShakingCommandOctets.more.Goals as goal

pub returns-then-self-eq0-clause-did : goal.returns-then-self-eq0-clause-did
returns-then-self-eq0-clause-did c =
    let s = c.args.self.now in
    told_none (λ items behind. rounds_owe s.line s.rounds s.hands (lines_owe s.line items behind)) c.args.texts.now

pub returns-in-On-clause-did : goal.returns-in-On-clause-did
returns-in-On-clause-did c =
    let old = c.args.self.now in
    let new = c.do_round.new.self in
    let some : 0 < old.rounds = omega arith in
    round_did flow.On old.line new.line old.rounds new.rounds old.hands new.hands c.args.texts.now c.do_round.new.texts some c.in_ok-ended.ensures.rest.2 c.in_ok-ended.ensures.rest.1
    (subst (λ (how : Flow). Does (List ℕ) how old.line (round_does old.line old.hands) new.hands c.args.texts.now c.do_round.new.texts) c.in-On.is c.in_ok-ended.ensures.does)

pub returns-in_default : goal.returns-in_default
returns-in_default c =
    let old = c.args.self.now in
    let new = c.do_round.new.self in
    let some : 0 < old.rounds = omega arith in
    let less : new.rounds ≡ old.rounds - 1 = c.in_ok-ended.ensures.rest.2 in
    record {
      did = round_did c.in_ok-ended.ended old.line new.line old.rounds new.rounds old.hands new.hands c.args.texts.now c.do_round.new.texts some less c.in_ok-ended.ensures.rest.1 c.in_ok-ended.ensures.does;
      rests = λ on. absurd (c.in_default.not-On on);
      fewer = λ more. omega (arith, some, less);
      room = omega (arith, c.in_ok-ended.ensures.rest.1);
    }
