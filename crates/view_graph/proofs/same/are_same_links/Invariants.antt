use Rattle.std.proofs.Common.{◌≡◌, length, take}
use Rattle.view_graph.proofs.same.are_same_links.Given as goal

abbrev pub invariant-links : goal.invariant-links
invariant-links l = (length l.a ≡ length l.b) × (take l.place l.a ≡ take l.place l.b)
