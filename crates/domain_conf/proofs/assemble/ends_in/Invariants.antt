use Rattle.std.proofs.Common.{◌≡◌, take}
use Rattle.std.specs.List.{filter_map}
use Rattle.domain_conf.specs.Assembled.{end_of}
use Rattle.domain_conf.proofs.assemble.ends_in.Given as goal

abbrev pub invariant-loop-link : goal.invariant-loop-link
invariant-loop-link l = l.ends ≡ filter_map (end_of l.routers l.place) (take l.link-index l.links)
