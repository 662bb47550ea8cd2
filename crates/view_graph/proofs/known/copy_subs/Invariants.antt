use Rattle.std.proofs.Common.{◌≡◌, take}
use Rattle.view_graph.proofs.known.copy_subs.Given as goal

abbrev pub invariant-subs : goal.invariant-subs
invariant-subs l = l.copied ≡ take l.sub-index l.subs
