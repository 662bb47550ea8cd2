use Rattle.std.proofs.Common.{ℕ, ◌<◌, All, length, arith, sym, ◌∙◌, subst}
use Rattle.wire_base.specs.model.Graph.{IsEdge, edges_of}
use Rattle.wire_base.specs.model.Walk.{AreDists, dist, may_enter}
use Rattle.path_tree.specs.Search.{IsReach}
use Rattle.path_tree.specs.Ways.{IsTurned}
use Rattle.path_tree.proofs.ReachLemmas.{reach-to, dists-to, walks-to}
use Rattle.path_tree.proofs.distances.distances_to.Goals as goal

pub search-requires : goal.search-requires
search-requires c =
    let g = c.as_slice-nodes.result.now in
    let t = c.in_ok-turned.turned.items in
    let i : IsTurned g t = c.in_ok-turned.ensures.turned in
    let node : c.args.d < length g = rw c.as_slice-nodes.ensures.nodes c.requires.node in
    rw c.as_slice.ensures.value
    (record {
      few = omega (arith, i.rows, c.as_slice-nodes.ensures.graph.few);
      within = omega (arith, i.rows, node);
      edges = subst (λ n. (x : ℕ) → All (λ e. IsEdge n e) (edges_of t x)) (sym i.rows) c.in_ok-turned.ensures.edges;
      reach = (λ x. dist g x c.args.d, subst (λ n. IsReach n (edges_of t) (may_enter t c.args.d) c.args.d (λ x. dist g x c.args.d)) (sym i.rows) (reach-to g c.as_slice-nodes.ensures.graph t i c.args.d node));
    })

pub returns-clause-walks : goal.returns-clause-walks
returns-clause-walks c =
    let g = c.as_slice-nodes.result.now in
    let t = c.in_ok-turned.turned.items in
    let i : IsTurned g t = c.in_ok-turned.ensures.turned in
    let node : c.args.d < length g = rw c.as_slice-nodes.ensures.nodes c.requires.node in
    let rows = rw c.as_slice.ensures.value at c.in_ok-found.ensures.rows in
    let found = rw (c.as_slice.ensures.value, i.rows) at c.in_ok-found.ensures.found in
    let dists = dists-to g c.as_slice-nodes.ensures.graph t i c.args.d node c.in_ok-found.found.items (rows ∙ i.rows) found in
    rw (← c.as_slice-nodes.ensures.nodes) (λ u within. walks-to g c.args.d c.from_vec.result (subst (AreDists g c.args.d) (sym c.from_vec.ensures) dists) u within)

pub returns-clause-dists : goal.returns-clause-dists
returns-clause-dists c =
    let g = c.as_slice-nodes.result.now in
    let t = c.in_ok-turned.turned.items in
    let i : IsTurned g t = c.in_ok-turned.ensures.turned in
    let node : c.args.d < length g = rw c.as_slice-nodes.ensures.nodes c.requires.node in
    let rows = rw c.as_slice.ensures.value at c.in_ok-found.ensures.rows in
    let found = rw (c.as_slice.ensures.value, i.rows) at c.in_ok-found.ensures.found in
    let dists = dists-to g c.as_slice-nodes.ensures.graph t i c.args.d node c.in_ok-found.found.items (rows ∙ i.rows) found in
    rw (← c.as_slice-nodes.ensures.nodes) (subst (AreDists g c.args.d) (sym c.from_vec.ensures) dists)
