use Rattle.std.proofs.Common.{ℕ, Option, None, false, List, All, ◌≡◌, length, slice_index_or, arith, ap, sym, ◌∙◌, subst}
use Rattle.std.proofs.lemmas.List.{take_all}
use Rattle.wire_base.specs.declared.view.ViewEdge.{ViewEdge}
use Rattle.wire_base.specs.model.Graph.{IsEdge, edges_of}
use Rattle.laws_route.proofs.WalkLemmas.{edges-good}
use Rattle.path_tree.specs.Forward.{Search, cost_before, is_forward, look_along}
use Rattle.path_tree.proofs.CostLemmas.{along-none, steps-none}
use Rattle.path_tree.proofs.forward.look_around.Goals as goal

pub returns-clause-done : goal.returns-clause-done
returns-clause-done c =
    let s : Search = record { seen = c.args.seen.now.items; work = c.args.work.now.items } in
    c.loop-edge.invariant.1
    ∙ ap (λ (es : List ViewEdge). look_along (λ x. slice_index_or c.args.stops.now x false) (is_forward c.args.nodes.now c.args.u (λ x. slice_index_or c.args.dist.now x None) c.args.node) s es)
    (take_all c.loop-edge.edge-index c.edges_of-edge-items.result.now c.loop-edge-test.false ∙ c.edges_of-edge-items.ensures)

pub returns-in_default-clause-done : goal.returns-in_default-clause-done
returns-in_default-clause-done c =
    let s : Search = record { seen = c.args.seen.now.items; work = c.args.work.now.items } in
    let f : ℕ → Option ℕ = λ x. slice_index_or c.args.dist.now x None in
    let none : cost_before c.args.nodes.now c.args.u f c.args.node ≡ None = sym c.cost_before.ensures ∙ c.in_default.is in
    sym (along-none (λ x. slice_index_or c.args.stops.now x false) (is_forward c.args.nodes.now c.args.u f c.args.node) s (edges_of c.args.nodes.now c.args.node) (steps-none c.args.nodes.now c.args.u f c.args.node none))

pub bounds-dist-edge : goal.bounds-dist-edge
bounds-dist-edge c =
    let g = c.args.nodes.now in
    let good = subst (λ (es : List ViewEdge). All (λ e. IsEdge (length g) e) es) (sym c.edges_of-edge-items.ensures) (edges-good g c.requires.graph c.args.node) in
    omega (arith, (good c.loop-edge.edge-index (record { to = 0; metric = 0 }) c.loop-edge-test.true).names, c.requires.rows)
