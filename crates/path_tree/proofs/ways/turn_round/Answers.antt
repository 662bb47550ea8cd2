use Rattle.std.proofs.Common.{arith, length, take, ap, ◌∙◌}
use Rattle.wire_base.specs.declared.view.ViewEdge.{ViewEdge}
use Rattle.path_tree.proofs.WaysLemmas.{length-along}
use Rattle.path_tree.proofs.ways.turn_round.Goals as goal

pub put_back-requires : goal.put_back-requires
put_back-requires c =
    let e : ViewEdge = record { to = 0; metric = 0 } in
    let good = c.requires.edges c.loop-edge.edge-index e c.loop-edge-test.true in
    let long = ap length c.loop-edge.invariant ∙ length-along c.args.from (take c.loop-edge.edge-index c.args.edges.now) c.args.ways.now.items in
    record { within = omega (arith, good.names, long) }
