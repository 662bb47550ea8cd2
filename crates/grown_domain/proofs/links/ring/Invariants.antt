use Rattle.std.proofs.Common.{◌≡◌, map}
use Rattle.std.specs.List.{range_with_len}
use Rattle.grown_domain.specs.Links.{ring_link}
use Rattle.grown_domain.proofs.links.ring.Given as goal

abbrev pub invariant-loop-i : goal.invariant-loop-i
invariant-loop-i l = l.links ≡ map (ring_link l.n) (range_with_len 0 l.i)
