use Rattle.std.proofs.Common.{List, ◌∷◌, [], length, refl, sym, ap, ◌∙◌, length-append}
use Rattle.std.proofs.lemmas.List.{length-set}
use Rattle.wire_base.specs.declared.view.ViewNode.{ViewNode}
use Rattle.view_graph.specs.Owners.{alone_node, whole_node}
use Rattle.view_graph.proofs.EdgeLaws.{taken_own, taken_rest}
use Rattle.view_graph.proofs.ListLaws.{first_left, left_step, node_built}
use Rattle.view_graph.proofs.nodes.all_nodes.Goals as goal

pub systems-preserved : goal.systems-preserved
systems-preserved c =
    let inv = c.systems.invariant in
    let place = length c.systems.nodes.items in
    let head = c.in-Some.ensures.steps.0 in
    let at = first_left place c.args.claims.items c.next.new.self.rest.items c.in-Some.claim (sym head ∙ inv.left) in
    let here = c.len-in-systems.ensures ∙ c.systems.nodes.ok.0 in
    let own = c.replace-own.ensures.value ∙ taken_own c.args.claims.items c.args.edges.items c.systems.edges.items place c.len-in-systems.result c.in-Some.claim c.index_mut.result.now at c.requires.edges inv.long inv.edges here c.index_mut.ensures.value in
    let node = node_built c.args.claims.items c.in-Some.claim c.in-Some.claim c.replace-own.result _ refl own (c.requires.told place c.in-Some.claim at) in
    let made = alone_node c.args.owners.now (whole_node c.replace-own.result c.in-Some.claim) in
    let left = left_step c.args.claims.items c.systems.claim-iterator.rest.items c.next.new.self.rest.items c.systems.nodes.items c.push_node.new.nodes.items c.in-Some.claim made head c.in_ok-push_node.ensures node inv.made inv.left in
    let next = ap (λ (ns : List ViewNode). length ns) c.in_ok-push_node.ensures ∙ length-append c.systems.nodes.items (made ∷ []) in
    record {
      made = left.made;
      left = left.left;
      long = length-set c.systems.edges.items c.len-in-systems.result c.replace-own.new.dest ∙ inv.long;
      edges = taken_rest c.args.edges.items c.systems.edges.items place (length c.push_node.new.nodes.items) c.len-in-systems.result c.replace-own.new.dest inv.edges here next;
    }
