use Rattle.std.proofs.Common.{ℕ, List}
use Rattle.command_replay.specs.Owed.{Rounds}
use Rattle.command_replay.proofs.Steps.{if_ok_then}
use Rattle.command_check.proofs.Beginning.{round_did}
use Rattle.command_check.proofs.checking.CheckingCommandOctets.more.Goals as goal

pub returns-clause-did : goal.returns-clause-did
returns-clause-did c =
    let old = c.args.self.now.replaying in
    let new = c.round.new.self in
    let texts = c.args.texts.now in
    if_ok_then (λ how. Rounds (List ℕ) how old.line old.rounds old.replay new.rounds new.replay texts c.round.new.texts) _ c.round.result
    (λ how goes. round_did how old.line new.line old.rounds new.rounds old.replay new.replay texts c.round.new.texts c.round.ensures.rest.1 goes)
    c.round.ensures.goes
