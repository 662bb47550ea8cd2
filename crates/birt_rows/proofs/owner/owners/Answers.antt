use Rattle.std.proofs.Common.{List, ◌≡◌, ◌<◌, ◌≤◌, ◌-◌, length, slice_index_or, refl, ap, arith, sym, ◌∙◌, subst}
use Rattle.std.proofs.lemmas.Option.{slice_get_read}
use Rattle.wire_base.specs.declared.view.ViewNode.{ViewNode}
use Rattle.wire_base.specs.model.Graph.{IsNode, has_id_at, node_has_id}
use Rattle.wire_base.specs.model.Place.{id_at}
use Rattle.birt_rows.specs.declared.owner.Found.{Found}
use Rattle.birt_rows.specs.declared.owner.Found.TheVariants.{Nobody}
use Rattle.wire_base.specs.model.Hop.{is_this}
use Rattle.birt_rows.specs.Owner.{node_position}
use Rattle.birt_rows.proofs.OwnerLemmas.{counted-long, counted-more, has-at, if-some, node-position-within}
use Rattle.birt_rows.proofs.owner.owners.Goals as goal

pub count-requires : goal.count-requires
count-requires c =
    record {
      within = if-some c.node_position.result (λ p. (0 < p) × (p ≤ length c.loop-node.found.items)) (λ p q. (
          let w = node-position-within c.args.t c.index-nodes-node.result c.node_position.result c.node_position.ensures p q in
          (w.0, omega (arith, w.1, c.loop-node.invariant.0))));
    }

pub loop-node-preserved : goal.loop-node-preserved
loop-node-preserved c =
    let g = c.args.nodes.now in
    let t = c.args.t in
    let n = c.index-nodes-node.result in
    let read = slice_get_read g (length g) c.loop-node.node n refl c.loop-node-test.true c.index-nodes-node.is in
    let good : IsNode (length g) n = subst (λ (m : ViewNode). IsNode (length g) m) (sym c.index-nodes-node.is) (c.requires.graph.nodes c.loop-node.node n c.loop-node-test.true) in (
      ap length c.count.ensures ∙ counted-long c.loop-node.found.items c.node_position.result c.loop-node.node ∙ c.loop-node.invariant.0,
      λ p low high. (
          let has : has_id_at g t.sd (id_at t p) c.loop-node.node ≡ is_this (node_position t n) p = ap (node_has_id t.sd (id_at t p)) read ∙ has-at (length g) n good t p low high in
          ap (λ (fs : List Found). slice_index_or fs (p - 1) Nobody) c.count.ensures
          ∙ counted-more c.loop-node.found.items c.node_position.result c.loop-node.node p (has_id_at g t.sd (id_at t p)) low (omega (arith, high, c.loop-node.invariant.0))
          (rw c.node_position.ensures has)
          (λ q e. (node-position-within t n c.node_position.result c.node_position.ensures q e).0)
          (c.loop-node.invariant.1 p low high)),
    )
