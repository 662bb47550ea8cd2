use Rattle.std.proofs.Common.{◌≡◌, Some, false, option_map, sym, ap, subst, ◌∙◌, arith, ltb-true, ltb-false}
use Rattle.std.proofs.lemmas.Option.{slice_get-get_or}
use Rattle.wire_base.specs.declared.view.ViewNode.{ViewNode}
use Rattle.wire_base.specs.model.Control.{same_system}
use Rattle.bier_forward.proofs.NodeLaws.{node-at, node-none, same-node}
use Rattle.bier_forward.proofs.bift.node_of.Goals as goal

pub returns-in_err-node : goal.returns-in_err-node
returns-in_err-node c =
    ap (option_map (λ n. n.now)) c.from_residual.ensures
    ∙ node-none c.args.nodes.now c.args.system c.place_from.result c.requires c.place_from.ensures.first
    (λ d less. absurd (let past = ltb-false _ _ (sym c.in_err-node.ensures.lookup.0) in omega (arith, less, past)))

pub returns-then-eq : goal.returns-then-eq
returns-then-eq c =
    let found = c.in_ok-node.ensures.lookup in
    node-at c.args.nodes.now c.args.system c.place_from.result c.in_ok-node.node.now c.place_from.ensures.first
    (slice_get-get_or c.args.nodes.now c.place_from.result c.in_ok-node.node.now (ltb-true _ _ (sym found.0)) ∙ ap (λ (n : ViewNode). Some n) (sym found.1))
    (sym c.eq.ensures ∙ c.if-eq.true)

pub returns-else-eq : goal.returns-else-eq
returns-else-eq c =
    let found = c.in_ok-node.ensures.lookup in
    node-none c.args.nodes.now c.args.system c.place_from.result c.requires c.place_from.ensures.first
    (λ d less. subst (λ (n : ViewNode). same_system n.system c.args.system ≡ false) (found.1 ∙ same-node c.args.nodes.now c.place_from.result c.in_ok-node.node.now d less) (sym c.eq.ensures ∙ c.if-eq.false))
