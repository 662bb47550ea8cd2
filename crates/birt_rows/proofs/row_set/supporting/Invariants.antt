use Rattle.std.proofs.Common.{◌≡◌, map, take}
use Rattle.wire_base.specs.model.Graph.{covers}
use Rattle.birt_rows.proofs.row_set.supporting.Given as goal

abbrev pub invariant-loop-node : goal.invariant-loop-node
invariant-loop-node l = l.covers.items ≡ map (covers l.conf.kinds l.conf.table l.t) (take l.node-index l.nodes)
