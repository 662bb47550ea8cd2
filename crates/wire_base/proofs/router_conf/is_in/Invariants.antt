use Rattle.std.proofs.Common.{◌≡◌, drop, is_some}
use Rattle.wire_base.specs.model.Place.{sub_in}
use Rattle.wire_base.proofs.router_conf.is_in.Given as goal

abbrev pub invariant-loop-sub : goal.invariant-loop-sub
invariant-loop-sub l = is_some (sub_in (drop l.sub-index l.subs) l.sd) ≡ is_some (sub_in l.subs l.sd)
