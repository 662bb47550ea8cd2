use Rattle.std.proofs.Common.{◌≡◌, filter, take, is_some}
use Rattle.wire_base.specs.model.Place.{kind_of}
use Rattle.wire_base.specs.model.View.{first_each}
use Rattle.view_graph.proofs.known.first_known.Given as goal

abbrev pub invariant-subs : goal.invariant-subs
invariant-subs l = l.kept ≡ first_each (filter (λ s. is_some (kind_of l.kinds s.sd)) (take l.sub-index l.subs))
