use Rattle.std.proofs.Common.{◌≡◌, map, take}
use Rattle.grown_domain.specs.Links.{joined}
use Rattle.grown_domain.proofs.links.pairs.Given as goal

abbrev pub invariant-loop-link : goal.invariant-loop-link
invariant-loop-link l = l.pairs ≡ map joined (take l.link-index l.links)
