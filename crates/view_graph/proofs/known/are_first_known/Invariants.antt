use Rattle.std.proofs.Common.{◌≡◌, filter, is_some, take}
use Rattle.wire_base.specs.model.Place.{kind_of}
use Rattle.wire_base.specs.model.View.{first_each}
use Rattle.view_graph.proofs.known.are_first_known.Given as goal

abbrev pub invariant-subs : goal.invariant-subs
invariant-subs l = take l.place l.subs ≡ first_each (filter (λ s. is_some (kind_of l.kinds s.sd)) (take l.place l.subs))
