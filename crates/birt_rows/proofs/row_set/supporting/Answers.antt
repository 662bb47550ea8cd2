use Rattle.std.proofs.Common.{false, List, Bool, map, slice_index_or, ap, ◌∙◌}
use Rattle.std.proofs.lemmas.List.{take_all}
use Rattle.wire_base.specs.model.Graph.{covers}
use Rattle.birt_rows.proofs.RowLemmas.{map-covers}
use Rattle.birt_rows.proofs.row_set.supporting.Goals as goal

pub returns-clause-each : goal.returns-clause-each
returns-clause-each c x =
    ap (λ (xs : List Bool). slice_index_or xs x false) (c.loop-node.invariant ∙ ap (map (covers c.args.conf.now.kinds c.args.conf.now.table c.args.t)) (take_all c.loop-node.node-index c.args.nodes.now c.loop-node-test.false))
    ∙ map-covers c.args.conf.now.kinds c.args.conf.now.table c.args.t c.args.nodes.now x
