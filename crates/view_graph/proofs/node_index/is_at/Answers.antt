use Rattle.std.proofs.Common.{sym, ◌∙◌, arith}
use Rattle.view_graph.specs.Renewal.{seat, node_claims}
use Rattle.view_graph.proofs.EdgeLaws.{stands_read, stands_past}
use Rattle.view_graph.proofs.NodeClaimLaws.{seat_read, seats_long}
use Rattle.view_graph.proofs.node_index.is_at.Goals as goal

pub returns-then-place-nodes : goal.returns-then-place-nodes
returns-then-place-nodes c =
    let long = seats_long c.args.nodes.now in
    c.eq.ensures ∙ sym (stands_read (node_claims c.args.nodes.now) c.args.place (seat c.index-nodes-place.result) c.args.system.now (omega (arith, long, c.if-place-nodes.true)) (seat_read c.args.nodes.now c.args.place c.index-nodes-place.result c.if-place-nodes.true c.index-nodes-place.is))

pub returns-else-place-nodes : goal.returns-else-place-nodes
returns-else-place-nodes c =
    let long = seats_long c.args.nodes.now in
    sym (stands_past (node_claims c.args.nodes.now) c.args.place c.args.system.now (omega (arith, long, c.if-place-nodes.false)))
