use Rattle.std.proofs.Common.{refl}
use Rattle.examples_replay.proofs.OnLiterals.{views_on_literals, floods_on_literals, runs_on_literals, texts_on_literals}
use Rattle.examples_replay.proofs.refusals.refused_lines.Goals as goal

pub returns-clause-line : goal.returns-clause-line
unfolding views_on_literals floods_on_literals runs_on_literals texts_on_literals
returns-clause-line c = refl
