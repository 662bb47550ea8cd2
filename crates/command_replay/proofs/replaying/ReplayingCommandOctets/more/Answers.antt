use Rattle.std.proofs.Common.{ℕ, List}
use Rattle.command_replay.specs.Owed.{Rounds}
use Rattle.command_replay.proofs.Steps.{round_did, if_ok_then}
use Rattle.command_replay.proofs.replaying.ReplayingCommandOctets.more.Goals as goal

pub returns-clause-did : goal.returns-clause-did
returns-clause-did c =
    let old = c.args.self.now in
    let new = c.round.new.self in
    if_ok_then (λ how. Rounds (List ℕ) how old.line old.rounds old.replay new.rounds new.replay c.args.texts.now c.round.new.texts) _ c.round.result
    (λ how goes. round_did how old.names new.names old.line new.line old.rounds new.rounds old.replay new.replay c.args.texts.now c.round.new.texts c.round.ensures.rest.1 c.round.ensures.rest.0 goes)
    c.round.ensures.goes
