use Rattle.std.proofs.Common.{◌≡◌}
use Rattle.grown_domain.proofs.GrownLinks.{linked}
use Rattle.grown_domain.proofs.links.grown_links.Given as goal

abbrev pub invariant-loop-i : goal.invariant-loop-i
invariant-loop-i l = l.links ≡ linked l.n l.i
