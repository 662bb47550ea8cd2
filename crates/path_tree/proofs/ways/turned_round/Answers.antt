use Rattle.std.proofs.Common.{◌≡◌, ℕ, All, map, length, Ok, Err, IfOk, Result}
use Rattle.std.proofs.lemmas.Result.{IfOk-weaker}
use Rattle.wire_base.specs.model.Graph.{IsEdge, edges_of}
use Rattle.path_tree.specs.Ways.{IsTurned}
use Rattle.path_tree.proofs.WaysLemmas.{is-turned, turned-edges}
use Rattle.path_tree.proofs.ways.turned_round.Goals as goal

both : {X E : Type 0} (r : Result X E) (P Q : X → Type 0) → IfOk r P → IfOk r Q → IfOk r (λ x. P x × Q x)
both (Ok x) P Q p q = (p, q)
both (Err e) P Q p q = tt

pub returns-clause-turned : goal.returns-clause-turned
returns-clause-turned c =
    let g = c.args.nodes.now in
    let ways = c.in_ok-ways.ways.items in
    IfOk-weaker c.with_edges.result (λ t. (map (λ n. n.edges) t.items ≡ ways) × (map (λ n. n.overload) t.items ≡ map (λ n. n.overload) g)) (λ t. IsTurned g t.items)
    (λ t q. is-turned g c.requires.graph ways c.in_ok-ways.ensures.ways t.items q.0 q.1)
    (both c.with_edges.result (λ t. map (λ n. n.edges) t.items ≡ ways) (λ t. map (λ n. n.overload) t.items ≡ map (λ n. n.overload) g) c.with_edges.ensures.edges c.with_edges.ensures.overload)

pub returns-clause-edges : goal.returns-clause-edges
returns-clause-edges c =
    let g = c.args.nodes.now in
    let ways = c.in_ok-ways.ways.items in
    IfOk-weaker c.with_edges.result (λ t. map (λ n. n.edges) t.items ≡ ways) (λ t. (x : ℕ) → All (λ e. IsEdge (length g) e) (edges_of t.items x))
    (λ t q. turned-edges g c.requires.graph ways c.in_ok-ways.ensures.ways t.items q c.in_ok-ways.ensures.edges) c.with_edges.ensures.edges
