use Rattle.std.proofs.Common.{◌≡◌, length, take}
use Rattle.view_graph.proofs.same.are_same_nodes.Given as goal

abbrev pub invariant-nodes : goal.invariant-nodes
invariant-nodes l = (length l.a ≡ length l.b) × (take l.place l.a ≡ take l.place l.b)
