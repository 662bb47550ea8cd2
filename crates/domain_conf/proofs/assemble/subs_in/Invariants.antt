use Rattle.std.proofs.Common.{◌≡◌, map, take}
use Rattle.domain_conf.specs.Assembled.{sub_of}
use Rattle.domain_conf.proofs.assemble.subs_in.Given as goal

abbrev pub invariant-loop-bier : goal.invariant-loop-bier
invariant-loop-bier l = l.subs ≡ map (sub_of l.labels) (take l.bier-index l.biers)
