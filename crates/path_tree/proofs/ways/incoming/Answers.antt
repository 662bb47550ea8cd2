use Rattle.std.proofs.Common.{List, All, length, refl, sym, ◌∙◌, subst, add-one}
use Rattle.wire_base.specs.declared.view.ViewEdge.{ViewEdge}
use Rattle.wire_base.specs.model.Graph.{IsEdge, edges_of}
use Rattle.path_tree.proofs.WaysLemmas.{edges-fit, turned-incoming, incoming-edges}
use Rattle.path_tree.proofs.ways.incoming.Goals as goal

pub turn_round-requires : goal.turn_round-requires
turn_round-requires c =
    let g = c.args.nodes.now in
    let here = subst (λ (w : List (List ViewEdge)). All (λ e. IsEdge (length w) e) (edges_of g c.loop-node.node)) (sym c.loop-node.invariant) (edges-fit g c.requires.graph c.loop-node.node c.loop-node.node) in
    record { edges = subst (λ (es : List ViewEdge). All (λ e. IsEdge (length c.loop-node.ways.items) e) es) (sym c.edges_of.ensures) here }

pub loop-node-preserved : goal.loop-node-preserved
loop-node-preserved c = c.in_ok-turn_round.ensures ∙ rw (c.loop-node.invariant, c.edges_of.ensures, add-one) refl

pub returns-clause-ways : goal.returns-clause-ways
returns-clause-ways c = turned-incoming c.args.nodes.now c.requires.graph c.loop-node.ways.items c.loop-node.node c.loop-node.invariant c.loop-node-test.false

pub returns-clause-edges : goal.returns-clause-edges
returns-clause-edges c =
    incoming-edges c.args.nodes.now c.requires.graph c.loop-node.ways.items
    (turned-incoming c.args.nodes.now c.requires.graph c.loop-node.ways.items c.loop-node.node c.loop-node.invariant c.loop-node-test.false)
