use Rattle.std.proofs.Common.{◌≡◌, map, take}
use Rattle.wire_base.specs.model.OwnLsp.{info_of}
use Rattle.wire_base.specs.model.View.{sub_of}
use Rattle.view_graph.proofs.claims.own_subs.Given as goal

abbrev pub invariant-subs : goal.invariant-subs
invariant-subs l = l.subs ≡ map (λ s. sub_of l.conf.prefix.0 (info_of l.conf.kinds s)) (take l.sub-index l.sub-items)
