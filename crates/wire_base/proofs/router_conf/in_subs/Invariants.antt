use Rattle.std.proofs.Common.{◌≡◌, drop}
use Rattle.wire_base.specs.Searches.{sub_labelled}
use Rattle.wire_base.proofs.router_conf.in_subs.Given as goal

abbrev pub invariant-loop-sub : goal.invariant-loop-sub
invariant-loop-sub l = sub_labelled l.kinds (drop l.sub-index l.subs) l.label ≡ sub_labelled l.kinds l.subs l.label
