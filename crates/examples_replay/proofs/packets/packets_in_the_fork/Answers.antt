use Rattle.std.proofs.Common.{refl}
use Rattle.examples_replay.proofs.OnLiterals.{views_on_literals, hops_on_literals, runs_on_literals, texts_on_literals}
use Rattle.examples_replay.proofs.packets.packets_in_the_fork.Goals as goal

pub returns-clause-delivered : goal.returns-clause-delivered
unfolding views_on_literals hops_on_literals runs_on_literals texts_on_literals
returns-clause-delivered c = refl

pub returns-clause-both : goal.returns-clause-both
unfolding views_on_literals hops_on_literals runs_on_literals texts_on_literals
returns-clause-both c = refl

pub returns-clause-lost : goal.returns-clause-lost
unfolding views_on_literals hops_on_literals runs_on_literals texts_on_literals
returns-clause-lost c = refl
