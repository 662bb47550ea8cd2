use Rattle.std.proofs.Common.{◌∷◌, ◌++◌, [], ap, ◌∙◌}
use Rattle.wire_base.specs.declared.view.ViewNode.{ViewNode}
use Rattle.view_graph.specs.Owners.{alone_node, whole_node}
use Rattle.view_graph.proofs.ListLaws.{set_last, read_last}
use Rattle.view_graph.proofs.OwnerLaws.{alone_whole}
use Rattle.view_graph.proofs.nodes.push_node.Goals as goal

pub returns-in_ok-keep_alone : goal.returns-in_ok-keep_alone
returns-in_ok-keep_alone c =
    let there = read_last c.args.nodes.now.items c.push.new.self.items c.len-last.result c.whole_node.result c.index_mut.result.now c.in_ok-push.ensures.items (c.len-last.ensures ∙ c.args.nodes.now.ok.0) c.index_mut.ensures.value in
    set_last c.args.nodes.now.items c.push.new.self.items c.len-last.result c.whole_node.result c.keep_alone.new.node c.in_ok-push.ensures.items (c.len-last.ensures ∙ c.args.nodes.now.ok.0)
    ∙ ap (λ (n : ViewNode). c.args.nodes.now.items ++ n ∷ []) (c.in_ok-keep_alone.ensures ∙ ap (alone_node c.args.owners.now) (there ∙ c.whole_node.ensures))

pub returns-else-is_any : goal.returns-else-is_any
returns-else-is_any c =
    c.in_ok-push.ensures.items
    ∙ ap (λ (n : ViewNode). c.args.nodes.now.items ++ n ∷ []) (c.whole_node.ensures ∙ alone_whole c.args.owners.now (whole_node c.args.edges c.args.claim) (c.requires.alone c.if-is_any.false))
