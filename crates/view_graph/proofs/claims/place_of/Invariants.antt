use Rattle.std.proofs.Common.{◌≡◌, ◌+◌, drop}
use Rattle.view_graph.specs.Places.{place_before}
use Rattle.view_graph.proofs.claims.place_of.Given as goal

abbrev pub invariant-places : goal.invariant-places
invariant-places l = l.place + place_before l.system (drop l.place l.claims) ≡ place_before l.system l.claims
