use Rattle.std.proofs.Common.{◌≡◌, filter, take, not}
use Rattle.view_graph.specs.Owners.{owner_at, is_several}
use Rattle.view_graph.proofs.known.alone_copies.Given as goal

abbrev pub invariant-subs : goal.invariant-subs
invariant-subs l = l.kept ≡ filter (λ s. not (is_several (owner_at l.owners s.prefix))) (take l.sub-index l.subs)
