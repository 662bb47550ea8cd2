use Rattle.std.proofs.Common.{◌≡◌, map, filter, take}
use Rattle.wire_base.specs.model.View.{claim_of, is_other, with_known}
use Rattle.view_graph.proofs.claims.other_claims.Given as goal

abbrev pub invariant-systems : goal.invariant-systems
invariant-systems l = l.claims.items ≡ map (with_known l.conf.kinds) (map (claim_of l.store.entries) (filter (is_other l.conf.system) (take l.place l.store.entries)))
