use Rattle.std.proofs.Common.{◌≡◌, drop}
use Rattle.wire_base.specs.model.Place.{known_subs, written}
use Rattle.wire_base.proofs.router_conf.row_meaning.Given as goal

abbrev pub invariant-loop-row : goal.invariant-loop-row
invariant-loop-row l = written l.conf.kinds (known_subs l.conf) (drop l.row-index l.conf.table) l.bift ≡ written l.conf.kinds (known_subs l.conf) l.conf.table l.bift
