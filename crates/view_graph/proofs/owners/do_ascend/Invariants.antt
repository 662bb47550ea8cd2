use Rattle.std.proofs.Common.{◌≡◌, drop}
use Rattle.view_graph.specs.Owners.{do_ascend}
use Rattle.view_graph.proofs.owners.do_ascend.Given as goal

abbrev pub invariant-claims : goal.invariant-claims
invariant-claims l = do_ascend l.low (drop l.claim-index l.claims) ≡ do_ascend 0 l.claims
