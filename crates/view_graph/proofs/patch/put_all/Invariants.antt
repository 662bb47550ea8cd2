use Rattle.std.proofs.Common.{◌≡◌, ◌<◌, length}
use Rattle.std.specs.List.{AllByRecursion}
use Rattle.view_graph.specs.Renewal.{put_all}
use Rattle.view_graph.proofs.patch.put_all.Given as goal

-- those that are left are within, and make of the nodes so far what all of them make
abbrev pub invariant-anew : goal.invariant-anew
invariant-anew l = AllByRecursion (λ n. n.place < length l.nodes) l.new-iterator.rest.items × (put_all l.new-iterator.rest.items l.nodes ≡ put_all l.fn.anew.items l.fn.nodes)
