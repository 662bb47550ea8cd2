-- A graph without one of its nodes is a graph.
use Rattle.std.proofs.Common.{◌≡◌, ◌≢◌, ℕ, suc, ◌+◌, ◌<◌, ◌==◌, nat_lt, not, Bool, true, false, List, [], ◌∷◌, length, get_or, map, filter, take, drop, All, AllPairs, refl, sym, subst, arith}
use Rattle.std.specs.List.{remove}
use Rattle.std.proofs.lemmas.Bool.{eqb-false, ltb-true, ltb-false}
use Rattle.std.proofs.lemmas.List.{get_or-map, length-map}
use Rattle.std.proofs.lemmas.List.Edits.{length-remove}
use Rattle.std.proofs.lemmas.List.Elements.{All-append, All-take, All-drop, All-filter, All-map, filter_passes}
use Rattle.std.proofs.lemmas.List.Kept.{AllPairs-filter}
use Rattle.std.proofs.lemmas.List.Quantifiers.{all_pairs_remove}
use Rattle.wire_base.specs.declared.view.ViewEdge.{ViewEdge}
use Rattle.wire_base.specs.declared.view.ViewNode.{ViewNode}
use Rattle.wire_base.specs.model.Graph.{IsBefore, IsEdge, IsGraph, IsNode, ShareNoPrefix}
use Rattle.view_graph.proofs.GraphLaws.{no_pairs, not_true}
use Rattle.topo_mt.specs.Topology.{edges_without, moved, node_without, nodes_without}

pairs_map : {X Y : Type 0} (R : Y → Y → Type 0) (f : X → Y) (xs : List X) → AllPairs (λ a b. R (f a) (f b)) xs → AllPairs R (map f xs)
pairs_map R f [] h = no_pairs R
pairs_map R f (x ∷ xs) h = λ i j d lt within.
    let same = length-map (x ∷ xs) f in
    let last : j < length (x ∷ xs) = omega (arith, within, same) in
    let first : i < length (x ∷ xs) = omega (arith, lt, last) in
    rw (get_or-map f (x ∷ xs) i x d first, get_or-map f (x ∷ xs) j x d last) (h i j x lt last)

all_remove : {X : Type 0} (P : X → Type 0) (xs : List X) (n : ℕ) → All P xs → All P (remove xs n)
all_remove P xs n all = All-append P (take n xs) (drop (suc n) xs) (All-take P n xs all) (All-drop P (suc n) xs all)

-- ---- edges

one_edge : (n p : ℕ) (e : ViewEdge) → p < n + 1 → IsEdge (n + 1) e → e.to ≢ p → IsEdge n (moved p e)
one_edge n p e lt is ne = by (nat_lt p e.to) refl
  where
    by : (b : Bool) → nat_lt p e.to ≡ b → IsEdge n (moved p e)
    by true h = rw h (let above = ltb-true p e.to h in record { names = omega (arith, above, is.names); positive = is.positive; small = is.small })
    by false h = rw h (let below = ltb-false p e.to h in record { names = omega (arith, below, ne, lt); positive = is.positive; small = is.small })

rise_on : (p : ℕ) (a b : ViewEdge) → a.to < b.to → a.to ≢ p → b.to ≢ p → (moved p a).to < (moved p b).to
rise_on p a b lt na nb = by (nat_lt p a.to) refl (nat_lt p b.to) refl
  where
    by : (x : Bool) → nat_lt p a.to ≡ x → (y : Bool) → nat_lt p b.to ≡ y → (moved p a).to < (moved p b).to
    by true h true k = rw (h, k) (let c = ltb-true p a.to h in omega (arith, c, lt))
    by true h false k = absurd (let c = ltb-true p a.to h in let d = ltb-false p b.to k in omega (arith, c, d, lt))
    by false h true k = rw (h, k) (let c = ltb-false p a.to h in let d = ltb-true p b.to k in omega (arith, c, d, na))
    by false h false k = rw (h, k) lt

kept_apart : (p : ℕ) (es : List ViewEdge) (i : ℕ) (d : ViewEdge) → i < length (filter (λ e. not (e.to == p)) es) → (get_or (filter (λ e. not (e.to == p)) es) i d).to ≢ p
kept_apart p es i d lt = eqb-false _ p (not_true _ (filter_passes (λ (e : ViewEdge). not (e.to == p)) es i d lt))

edges_good : (n p : ℕ) (es : List ViewEdge) → p < n + 1 → All (λ e. IsEdge (n + 1) e) es → All (λ e. IsEdge n e) (edges_without p es)
edges_good n p es lt all =
    let q : ViewEdge → Bool = λ e. not (e.to == p) in
    All-map (λ (e : ViewEdge). IsEdge n e) (moved p) (filter q es)
    (λ i d within. one_edge n p (get_or (filter q es) i d) lt (All-filter q (λ (e : ViewEdge). IsEdge (n + 1) e) es all i d within) (kept_apart p es i d within))

edges_rise : (p : ℕ) (es : List ViewEdge) → AllPairs (λ (a b : ViewEdge). a.to < b.to) es → AllPairs (λ (a b : ViewEdge). a.to < b.to) (edges_without p es)
edges_rise p es all =
    let q : ViewEdge → Bool = λ e. not (e.to == p) in
    pairs_map (λ (a b : ViewEdge). a.to < b.to) (moved p) (filter q es)
    (λ i j d lt within. rise_on p (get_or (filter q es) i d) (get_or (filter q es) j d) (AllPairs-filter (λ (a b : ViewEdge). a.to < b.to) q es all i j d lt within) (kept_apart p es i d (omega (arith, lt, within))) (kept_apart p es j d within))

-- ---- nodes

node_good : (n p : ℕ) (x : ViewNode) → p < n + 1 → IsNode (n + 1) x → IsNode n (node_without p x)
node_good n p x lt is =
    record {
      edges = edges_good n p x.edges lt is.edges;
      edges_in_order = edges_rise p x.edges is.edges_in_order;
      subs_differ = is.subs_differ;
      ranges_differ = is.ranges_differ;
    }

pub without_graph : (p : ℕ) (g new : List ViewNode) → p < length g → IsGraph g → new ≡ nodes_without p g → IsGraph new
unfolding nodes_without
without_graph p g new lt is same = subst IsGraph (sym same) (
    let n = length (map (node_without p) (remove g p)) in
    let mapped : n ≡ length (remove g p) = length-map (remove g p) (node_without p) in
    let one : length (remove g p) + 1 ≡ length g = length-remove g p lt in
    let all : n + 1 ≡ length g = omega (arith, mapped, one) in
    let nodes : All (λ (x : ViewNode). IsNode (n + 1) x) g = subst (λ (k : ℕ). All (λ (x : ViewNode). IsNode k x) g) (sym all) is.nodes in
    record {
      few = omega (arith, all, is.few);
      in_order = pairs_map (λ (a b : ViewNode). IsBefore a.system b.system) (node_without p) (remove g p) (all_pairs_remove (λ (a b : ViewNode). IsBefore a.system b.system) g p lt is.in_order);
      nodes = All-map (λ (x : ViewNode). IsNode n x) (node_without p) (remove g p) (λ i d within. node_good n p (get_or (remove g p) i d) (omega (arith, lt, all)) (all_remove (λ (x : ViewNode). IsNode (n + 1) x) g p nodes i d within));
      prefixes_differ = pairs_map ShareNoPrefix (node_without p) (remove g p) (all_pairs_remove ShareNoPrefix g p lt is.prefixes_differ);
    })
