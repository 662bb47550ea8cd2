use Rattle.std.proofs.Common.{◌≡◌}
use Rattle.topo_mt.specs.Observer.{mpls_kinds}
use Rattle.topo_mt.proofs.observer.mpls_kinds.Given as goal

abbrev pub invariant-kinds : goal.invariant-kinds
invariant-kinds l = l.kinds ≡ mpls_kinds l.sd
