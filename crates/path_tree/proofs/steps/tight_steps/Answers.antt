use Rattle.std.proofs.Common.{ℕ, None, Option, List, All, AllPairs, Contains, ◌≡◌, ◌<◌, ◌↔◌, length, slice_index_or, ap, sym, ◌∙◌, subst}
use Rattle.std.proofs.lemmas.List.{take_all}
use Rattle.wire_base.specs.declared.view.ViewEdge.{ViewEdge}
use Rattle.wire_base.specs.model.Graph.{IsEdge}
use Rattle.wire_base.specs.model.Tight.{IsTight, tight_from, tight_list}
use Rattle.laws_route.proofs.WalkLemmas.{edges-good}
use Rattle.laws_route.proofs.TightLemmas.{tight_list-from, tight_from-ordered, tight_from-IsTight}
use Rattle.path_tree.proofs.steps.tight_steps.Goals as goal

pub is_tight-requires-clause-to : goal.is_tight-requires-clause-to
is_tight-requires-clause-to c =
    let g = c.as_slice-nodes.result.now in
    let good = subst (λ (es : List ViewEdge). All (λ e. IsEdge (length g) e) es) (sym c.edges_of-edge-items.ensures) (edges-good g c.as_slice-nodes.ensures.graph c.args.u) in
    (good c.loop-edge.edge-index (record { to = 0; metric = 0 }) c.loop-edge-test.true).names

whole : (c : goal.After-loop-edge) → c.loop-edge.steps ≡ tight_from c.as_slice-nodes.result.now c.args.d c.args.u
whole c =
    let g = c.as_slice-nodes.result.now in
    let f : ℕ → Option ℕ = λ x. slice_index_or c.args.dist.now x None in
    c.loop-edge.invariant
    ∙ ap (λ (es : List ViewEdge). tight_list g c.args.d f c.args.u es) (take_all c.loop-edge.edge-index c.edges_of-edge-items.result.now c.loop-edge-test.false ∙ c.edges_of-edge-items.ensures)
    ∙ tight_list-from g c.as_slice-nodes.ensures.graph c.args.d c.args.u f (rw c.as_slice-nodes.ensures.nodes c.requires.dists.each)

pub returns-clause-value : goal.returns-clause-value
returns-clause-value c = rw (← c.as_slice-nodes.ensures.nodes) (whole c)

pub returns-clause-ordered : goal.returns-clause-ordered
returns-clause-ordered c =
    subst (λ (xs : List ℕ). AllPairs (λ a b. a < b) xs) (sym (whole c)) (tight_from-ordered c.as_slice-nodes.result.now c.as_slice-nodes.ensures.graph c.args.d c.args.u)

pub returns-clause-each : goal.returns-clause-each
returns-clause-each c =
    rw (← c.as_slice-nodes.ensures.nodes)
    (λ x node. subst (λ (xs : List ℕ). Contains xs x ↔ IsTight c.as_slice-nodes.result.now c.args.d c.args.u x) (sym (whole c)) (tight_from-IsTight c.as_slice-nodes.result.now c.as_slice-nodes.ensures.graph c.args.d c.args.u x node))
