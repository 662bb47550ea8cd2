use Rattle.std.proofs.Common.{◌≡◌, map, take}
use Rattle.domain_conf.specs.Links.{link_of}
use Rattle.domain_conf.proofs.assemble.links_of.Given as goal

abbrev pub invariant-loop-link : goal.invariant-loop-link
invariant-loop-link l = l.confs ≡ map link_of (take l.link-index l.links)
