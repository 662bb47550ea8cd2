use Rattle.std.proofs.Common.{◌≡◌, ℕ, get_or, List, [], Some, None, ap, subst, ◌∙◌, arith}
use Rattle.wire_base.specs.declared.view.ViewNode.{ViewNode}
use Rattle.wire_base.specs.model.Choice.{row}
use Rattle.wire_base.specs.model.Graph.{IsGraph}
use Rattle.quiet_domain.specs.Way.{node_of}
use Rattle.quiet_domain.proofs.ChoiceLaws.{chosen}
use Rattle.quiet_domain.proofs.choice.choice.Goals as goal

pub returns-in-Some-selected-clause-choice : goal.returns-in-Some-selected-clause-choice
returns-in-Some-selected-clause-choice c = λ r u within known.
    let p = c.in-Some.position in
    let read = c.at-row.ensures ∙ ap (λ (n : ℕ). get_or c.args.birt.now.set.bits n []) c.from.ensures in
    let is : c.at-row.result.now ≡ row r.kinds r.table r.ends c.args.v.now.nodes c.args.t u p =
    read ∙ known.rows p (omega (arith, c.in-Some.ensures.low)) c.in-Some.ensures.high in
    let graph : IsGraph c.args.v.now.nodes = subst IsGraph c.as_slice-nodes.ensures.nodes c.as_slice-nodes.ensures.graph in
    c.node_of.ensures.node ∙ ap (λ (g : List ViewNode). node_of g c.in-Some-selected.first.system) c.as_slice-nodes.ensures.nodes
    ∙ chosen r.ends c.args.v.now.nodes graph r.kinds r.table c.args.t c.args.class u within p c.args.k c.at-row.result.now (Some c.in-Some-selected.first) is c.in-Some.ensures.id c.in-Some-selected.ensures

pub returns-in-None-clause-choice : goal.returns-in-None-clause-choice
returns-in-None-clause-choice c = λ r u within known.
    let p = c.in-Some.position in
    let read = c.at-row.ensures ∙ ap (λ (n : ℕ). get_or c.args.birt.now.set.bits n []) c.from.ensures in
    let is : c.at-row.result.now ≡ row r.kinds r.table r.ends c.args.v.now.nodes c.args.t u p =
    read ∙ known.rows p (omega (arith, c.in-Some.ensures.low)) c.in-Some.ensures.high in
    let graph : IsGraph c.args.v.now.nodes = subst IsGraph c.as_slice-nodes.ensures.nodes c.as_slice-nodes.ensures.graph in
    chosen r.ends c.args.v.now.nodes graph r.kinds r.table c.args.t c.args.class u within p c.args.k c.at-row.result.now None is c.in-Some.ensures.id c.in-None.ensures
