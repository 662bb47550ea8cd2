use Rattle.std.proofs.Common.{◌≡◌, drop}
use Rattle.wire_base.specs.model.Place.{kind_of}
use Rattle.wire_base.proofs.router_conf.kind_of.Given as goal

abbrev pub invariant-loop-entry : goal.invariant-loop-entry
invariant-loop-entry l = kind_of (drop l.entry-index l.kinds) l.sd ≡ kind_of l.kinds l.sd
