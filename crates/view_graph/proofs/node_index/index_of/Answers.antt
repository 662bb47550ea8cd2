use Rattle.std.proofs.Common.{sym, ◌∙◌, arith}
use Rattle.view_graph.specs.Renewal.{seat, node_claims}
use Rattle.view_graph.proofs.EdgeLaws.{above_place, not_above_place, place_within}
use Rattle.view_graph.proofs.NodeClaimLaws.{seat_read, seats_long}
use Rattle.view_graph.proofs.node_index.index_of.Goals as goal

pub halves-init : goal.halves-init
halves-init c =
    let within = place_within c.args.system.now (node_claims c.args.nodes.now) in
    let long = seats_long c.args.nodes.now in
    record { low = omega arith; high = omega (arith, within, long); within = omega arith }

pub halves-preserved-then-is_above : goal.halves-preserved-then-is_above
halves-preserved-then-is_above c =
    let inv = c.halves.invariant in
    let long = seats_long c.args.nodes.now in
    let above = above_place (node_claims c.args.nodes.now) _ (seat c.index-nodes-middle.result) c.args.system.now c.requires (omega (arith, inv.within, c.halves-test.true, long)) (seat_read c.args.nodes.now _ c.index-nodes-middle.result (omega (arith, inv.within, c.halves-test.true)) c.index-nodes-middle.is) (sym c.is_above.ensures ∙ c.if-is_above.true) in
    record { low = omega (arith, above); high = inv.high; within = inv.within }

pub halves-preserved : goal.halves-preserved
halves-preserved c =
    let inv = c.halves.invariant in
    let long = seats_long c.args.nodes.now in
    let below = not_above_place (node_claims c.args.nodes.now) _ (seat c.index-nodes-middle.result) c.args.system.now (omega (arith, inv.within, c.halves-test.true, long)) (seat_read c.args.nodes.now _ c.index-nodes-middle.result (omega (arith, inv.within, c.halves-test.true)) c.index-nodes-middle.is) (sym c.is_above.ensures ∙ c.if-is_above.false) in
    record { low = inv.low; high = below; within = omega (arith, inv.within, c.halves-test.true) }
