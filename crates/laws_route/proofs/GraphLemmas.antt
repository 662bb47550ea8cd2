-- What passes the test is a graph.
use mathlib.Core.Bool.{false≢true}
use Rattle.std.proofs.Common.{◌≡◌, ℕ, ◌<◌, ◌≤◌, ◌^◌, ◌==◌, ◌&&◌, ◌||◌, not, nat_lt, nat_le, Bool, true, false, List, [], ◌∷◌, length, All, AllPairs, refl, ap, arith, sym, subst, ◌∙◌}
use Rattle.std.specs.List.{list_all}
use Rattle.std.proofs.lemmas.Bool.{leb-true, le-ltb, ltb-true, eq-eqb}
use Rattle.std.proofs.lemmas.List.Elements.{All-nil, All-cons}
use Rattle.std.proofs.lemmas.List.Kept.{AllPairs-cons}
use Rattle.std.proofs.lemmas.Slice.Eq.{bytes_eq-Decides}
use Rattle.wire_base.specs.declared.addresses.SystemId.{SystemId}
use Rattle.wire_base.specs.declared.conf.LabelRange.{LabelRange}
use Rattle.wire_base.specs.declared.view.ViewEdge.{ViewEdge}
use Rattle.wire_base.specs.declared.view.ViewNode.{ViewNode}
use Rattle.wire_base.specs.declared.view.ViewSub.{ViewSub}
use Rattle.wire_base.specs.model.Control.{same_system}
use Rattle.wire_base.specs.model.Graph.{octets_before, IsBefore, IsEdge, IsNode, IsGraph, ShareNoPrefix}
use Rattle.wire_base.specs.model.Place.{bits_of}
use Rattle.laws_route.proofs.TightLemmas.{both}
use Rattle.laws_route.specs.GraphTest.{all_pairs, is_edge, is_node, differ, share_no_prefix, is_graph}

-- a system before another is not that one
pub before-differs : (a b : SystemId) → IsBefore a b → same_system a b ≡ false
before-differs a b before = by (same_system a b) refl
  where
    itself : (xs : List ℕ) → octets_before xs xs ≡ true → ⊥
    itself [] h = false≢true h
    itself (x ∷ xs) h = less (nat_lt x x) refl (x == x) h (itself xs)
      where
        less : (s : Bool) → nat_lt x x ≡ s → (t : Bool) → (s || (t && octets_before xs xs)) ≡ true → (octets_before xs xs ≡ true → ⊥) → ⊥
        less true e t h more = (let l : x < x = ltb-true x x e in omega (arith, l))
        less false e true h more = more h
        less false e false h more = false≢true h

    by : (t : Bool) → same_system a b ≡ t → t ≡ false
    by true e = absurd (itself a.0 (subst (λ (xs : List ℕ). octets_before a.0 xs ≡ true) (sym ((bytes_eq-Decides a.0 b.0).0 e)) before))
    by false e = refl

all-from : {X : Type 0} (P : X → Type 0) (p : X → Bool) → ((x : X) → p x ≡ true → P x) → (xs : List X) → list_all p xs ≡ true → All P xs
all-from P p h [] q = All-nil P
all-from P p h (x ∷ xs) q =
    let b = both (p x) (list_all p xs) q in
    All-cons P x xs (h x b.0) (all-from P p h xs b.1)

pairs-from : {X : Type 0} (R : X → X → Type 0) (p : X → X → Bool) → ((x y : X) → p x y ≡ true → R x y) → (xs : List X) → all_pairs p xs ≡ true → AllPairs R xs
pairs-from R p h [] q = λ i j d less within. absurd (omega arith)
pairs-from R p h (x ∷ xs) q =
    let b = both (list_all (p x) xs) (all_pairs p xs) q in
    AllPairs-cons R x xs (all-from (R x) (p x) (h x) xs b.0) (pairs-from R p h xs b.1)

le-from : (a b : ℕ) → nat_le a b ≡ true → a ≤ b
le-from a b q = leb-true a b q

not-itself : (xs : List ℕ) → octets_before xs xs ≡ false
not-itself [] = refl
not-itself (x ∷ xs) = rw (le-ltb x x (omega arith), eq-eqb x x refl, not-itself xs) refl

differ-itself : (xs : List ℕ) → differ xs xs ≡ false
differ-itself xs = rw (not-itself xs) refl

apart : (a b : ℕ) → not (a == b) ≡ true → a ≡ b → ⊥
apart a b q e = let h = eq-eqb a b e in let w : not true ≡ true = rw h at q in cc

pub graph-from : (g : List ViewNode) → is_graph g ≡ true → IsGraph g
graph-from g q =
    let a = both (nat_le (length g) 65536 && all_pairs (λ a b. octets_before a.system.0 b.system.0) g) (list_all (is_node (length g)) g && all_pairs share_no_prefix g) q in
    let b = both (nat_le (length g) 65536) (all_pairs (λ a b. octets_before a.system.0 b.system.0) g) a.0 in
    let c = both (list_all (is_node (length g)) g) (all_pairs share_no_prefix g) a.1 in
    record {
      few = le-from (length g) 65536 b.0;
      in_order = pairs-from (λ a b. IsBefore a.system b.system) (λ a b. octets_before a.system.0 b.system.0) (λ x y h. h) g b.1;
      nodes = all-from (λ n. IsNode (length g) n) (is_node (length g)) (node-from (length g)) g c.0;
      prefixes_differ = pairs-from ShareNoPrefix share_no_prefix prefix-from g c.1;
    }
  where
    edge-from : (count : ℕ) (e : ViewEdge) → is_edge count e ≡ true → IsEdge count e
    edge-from count e h =
        let a = both (nat_lt e.to count) (nat_lt 0 e.metric && nat_lt e.metric (2 ^ 32)) h in
        let b = both (nat_lt 0 e.metric) (nat_lt e.metric (2 ^ 32)) a.1 in
        record { names = ltb-true e.to count a.0; positive = ltb-true 0 e.metric b.0; small = ltb-true e.metric (2 ^ 32) b.1 }

    node-from : (count : ℕ) (n : ViewNode) → is_node count n ≡ true → IsNode count n
    node-from count n h =
        let a = both (list_all (is_edge count) n.edges && all_pairs (λ a b. nat_lt a.to b.to) n.edges) (all_pairs (λ a b. not (a.sd == b.sd)) n.subs && list_all (λ s. all_pairs (λ a b. not (bits_of a.bsl == bits_of b.bsl)) s.ranges) n.subs) h in
        let b = both (list_all (is_edge count) n.edges) (all_pairs (λ a b. nat_lt a.to b.to) n.edges) a.0 in
        let c = both (all_pairs (λ a b. not (a.sd == b.sd)) n.subs) (list_all (λ s. all_pairs (λ a b. not (bits_of a.bsl == bits_of b.bsl)) s.ranges) n.subs) a.1 in
        record {
          edges = all-from (λ e. IsEdge count e) (is_edge count) (edge-from count) n.edges b.0;
          edges_in_order = pairs-from (λ (a b : ViewEdge). a.to < b.to) (λ a b. nat_lt a.to b.to) (λ x y h. ltb-true x.to y.to h) n.edges b.1;
          subs_differ = pairs-from (λ (a b : ViewSub). a.sd ≡ b.sd → ⊥) (λ a b. not (a.sd == b.sd)) (λ x y h. apart x.sd y.sd h) n.subs c.0;
          ranges_differ =
              all-from (λ (s : ViewSub). AllPairs (λ a b. a.bsl ≡ b.bsl → ⊥) s.ranges) (λ s. all_pairs (λ a b. not (bits_of a.bsl == bits_of b.bsl)) s.ranges)
              (λ s h. pairs-from (λ (a b : LabelRange). a.bsl ≡ b.bsl → ⊥) (λ a b. not (bits_of a.bsl == bits_of b.bsl)) (λ x y h e. apart (bits_of x.bsl) (bits_of y.bsl) h (ap bits_of e)) s.ranges h) n.subs c.1;
        }

    prefix-from : (a b : ViewNode) → share_no_prefix a b ≡ true → ShareNoPrefix a b
    prefix-from a b h =
        all-from (λ (s : ViewSub). All (λ r. s.prefix ≡ r.prefix → ⊥) b.subs) (λ s. list_all (λ r. differ s.prefix.0 r.prefix.0) b.subs)
        (λ s h. all-from (λ (r : ViewSub). s.prefix ≡ r.prefix → ⊥) (λ r. differ s.prefix.0 r.prefix.0) (λ r h e. (
        let w : differ s.prefix.0 r.prefix.0 ≡ false = ap (λ z. differ z.0 r.prefix.0) e ∙ differ-itself r.prefix.0 in
        let z : true ≡ false = sym h ∙ w in
        cc)) b.subs h) a.subs h
