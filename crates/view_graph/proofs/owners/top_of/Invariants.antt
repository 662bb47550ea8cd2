use Rattle.std.proofs.Common.{◌≡◌, drop}
use Rattle.view_graph.specs.Owners.{top_of}
use Rattle.view_graph.proofs.owners.top_of.Given as goal

abbrev pub invariant-subs : goal.invariant-subs
invariant-subs l = top_of l.top (drop l.sub-index l.subs) ≡ top_of l.low l.subs
