use Rattle.std.proofs.Common.{◌≡◌, ◌==◌, map, filter, take}
use Rattle.domain_conf.proofs.assemble.ranges_in.Given as goal

abbrev pub invariant-loop-entry : goal.invariant-loop-entry
invariant-loop-entry l = l.ranges ≡ map (λ m. m.range) (filter (λ m. m.sd == l.sd) (take l.entry-index l.labels))
