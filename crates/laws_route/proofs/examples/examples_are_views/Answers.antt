use Rattle.std.proofs.Common.{refl}
use Rattle.laws_route.proofs.GraphLemmas.{graph-from}
use Rattle.laws_route.specs.Examples.{ring, fork, line, tie}
use Rattle.laws_route.proofs.examples.examples_are_views.Goals as goal

pub returns : goal.returns
returns c = record { ring = graph-from ring refl; fork = graph-from fork refl; line = graph-from line refl; tie = graph-from tie refl }
