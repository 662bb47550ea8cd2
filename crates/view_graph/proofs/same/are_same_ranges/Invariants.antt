use Rattle.std.proofs.Common.{◌≡◌, length, take}
use Rattle.view_graph.proofs.same.are_same_ranges.Given as goal

abbrev pub invariant-spans : goal.invariant-spans
invariant-spans l = (length l.a ≡ length l.b) × (take l.place l.a ≡ take l.place l.b)
