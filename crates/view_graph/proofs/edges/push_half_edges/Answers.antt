use Rattle.std.proofs.Common.{List, ◌∷◌, ◌++◌, [], ap, ◌∙◌}
use Rattle.wire_base.specs.declared.view.ViewEdge.{ViewEdge}
use Rattle.view_graph.proofs.ListLaws.{set_last, read_last}
use Rattle.view_graph.proofs.edges.push_half_edges.Goals as goal

pub fill_half_edges-requires-clause-none : goal.fill_half_edges-requires-clause-none
fill_half_edges-requires-clause-none c =
    read_last c.args.halves.now.items c.push.new.self.items c.len-last.result c.new.result c.index_mut.result.now c.in_ok-push.ensures.items (c.len-last.ensures ∙ c.args.halves.now.ok.0) c.index_mut.ensures.value ∙ c.new.ensures

pub returns : goal.returns
returns c =
    set_last c.args.halves.now.items c.push.new.self.items c.len-last.result c.new.result c.fill_half_edges.new.edges c.in_ok-push.ensures.items (c.len-last.ensures ∙ c.args.halves.now.ok.0)
    ∙ ap (λ (es : List ViewEdge). c.args.halves.now.items ++ es ∷ []) c.in_ok-fill_half_edges.ensures
