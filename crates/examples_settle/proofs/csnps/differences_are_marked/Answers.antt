use Rattle.examples_settle.proofs.ComparedLaws.{requested, same, sent}
use Rattle.examples_settle.proofs.csnps.differences_are_marked.Goals as goal

pub returns-clause-requested : goal.returns-clause-requested
returns-clause-requested _ = requested

pub returns-clause-sent : goal.returns-clause-sent
returns-clause-sent _ = sent

pub returns-clause-same : goal.returns-clause-same
returns-clause-same _ = same
