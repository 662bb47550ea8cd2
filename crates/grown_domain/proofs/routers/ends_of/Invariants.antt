use Rattle.std.proofs.Common.{◌≡◌, take}
use Rattle.std.specs.List.{filter_map}
use Rattle.grown_domain.specs.Routers.{end_of}
use Rattle.grown_domain.proofs.routers.ends_of.Given as goal

abbrev pub invariant-loop-link : goal.invariant-loop-link
invariant-loop-link l = l.ends ≡ filter_map (end_of l.place) (take l.link-index l.links)
