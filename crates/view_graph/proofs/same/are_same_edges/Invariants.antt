use Rattle.std.proofs.Common.{◌≡◌, length, take}
use Rattle.view_graph.proofs.same.are_same_edges.Given as goal

abbrev pub invariant-edges : goal.invariant-edges
invariant-edges l = (length l.a ≡ length l.b) × (take l.place l.a ≡ take l.place l.b)
