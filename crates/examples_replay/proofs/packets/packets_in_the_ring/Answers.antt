use Rattle.std.proofs.Common.{refl}
use Rattle.examples_replay.proofs.OnLiterals.{views_on_literals, hops_on_literals, runs_on_literals, texts_on_literals}
use Rattle.examples_replay.proofs.packets.packets_in_the_ring.Goals as goal

pub returns-clause-delivered : goal.returns-clause-delivered
unfolding views_on_literals hops_on_literals runs_on_literals texts_on_literals
returns-clause-delivered c = refl

pub returns-clause-ended : goal.returns-clause-ended
unfolding views_on_literals hops_on_literals runs_on_literals texts_on_literals
returns-clause-ended c = refl

pub returns-clause-unknown : goal.returns-clause-unknown
unfolding views_on_literals hops_on_literals runs_on_literals texts_on_literals
returns-clause-unknown c = refl
