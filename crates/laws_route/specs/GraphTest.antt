-- The invariant of a view, as a computable test.
use Rattle.std.specs.Prelude.{ℕ, ◌==◌, ◌&&◌, ◌||◌, ◌^◌, not, nat_lt, nat_le, Bool, true, List, [], ◌∷◌, length}
use Rattle.std.specs.List.{list_all}
use Rattle.wire_base.specs.declared.view.ViewEdge.{ViewEdge}
use Rattle.wire_base.specs.declared.view.ViewNode.{ViewNode}
use Rattle.wire_base.specs.model.Graph.{octets_before}
use Rattle.wire_base.specs.model.Place.{bits_of}

abbrev pub all_pairs : {X : Type 0} → (X → X → Bool) → List X → Bool
all_pairs p [] = true
all_pairs p (x ∷ xs) = list_all (p x) xs && all_pairs p xs

abbrev pub is_edge : ℕ → ViewEdge → Bool
is_edge count e = nat_lt e.to count && (nat_lt 0 e.metric && nat_lt e.metric (2 ^ 32))

abbrev pub is_node : ℕ → ViewNode → Bool
is_node count n =
    (list_all (is_edge count) n.edges && all_pairs (λ a b. nat_lt a.to b.to) n.edges)
    && (all_pairs (λ a b. not (a.sd == b.sd)) n.subs && list_all (λ s. all_pairs (λ a b. not (bits_of a.bsl == bits_of b.bsl)) s.ranges) n.subs)

abbrev pub differ : List ℕ → List ℕ → Bool
differ xs ys = octets_before xs ys || octets_before ys xs

abbrev pub share_no_prefix : ViewNode → ViewNode → Bool
share_no_prefix a b = list_all (λ s. list_all (λ r. differ s.prefix.0 r.prefix.0) b.subs) a.subs

abbrev pub is_graph : List ViewNode → Bool
is_graph g =
    (nat_le (length g) 65536 && all_pairs (λ a b. octets_before a.system.0 b.system.0) g)
    && (list_all (is_node (length g)) g && all_pairs share_no_prefix g)
