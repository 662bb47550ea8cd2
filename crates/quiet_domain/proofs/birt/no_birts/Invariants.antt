use Rattle.std.proofs.Common.{◌≡◌, None, replicate}
use Rattle.quiet_domain.proofs.birt.no_birts.Given as goal

abbrev pub invariant-nodes : goal.invariant-nodes
invariant-nodes l = l.birts.items ≡ replicate l._node None
