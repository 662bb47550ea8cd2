use Rattle.std.proofs.Common.{◌≡◌, length, take}
use Rattle.view_graph.proofs.same.are_same_subs.Given as goal

abbrev pub invariant-subs : goal.invariant-subs
invariant-subs l = (length l.a ≡ length l.b) × (take l.place l.a ≡ take l.place l.b)
