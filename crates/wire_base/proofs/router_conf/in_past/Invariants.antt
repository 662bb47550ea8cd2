use Rattle.std.proofs.Common.{◌≡◌, drop}
use Rattle.wire_base.specs.model.Place.{labelled}
use Rattle.wire_base.proofs.router_conf.in_past.Given as goal

abbrev pub invariant-loop-earlier : goal.invariant-loop-earlier
invariant-loop-earlier l = labelled l.kinds (drop l.earlier-index l.past) l.label ≡ labelled l.kinds l.past l.label
