use Rattle.std.proofs.Common.{refl}
use Rattle.examples_replay.proofs.OnLiterals.{views_on_literals, floods_on_literals, runs_on_literals, texts_on_literals}
use Rattle.examples_replay.proofs.pdus.nothing_happens.Goals as goal

pub returns-clause-report : goal.returns-clause-report
unfolding views_on_literals floods_on_literals runs_on_literals texts_on_literals
returns-clause-report c = refl
