-- The node of a system, in nodes in the order of their systems.
use Rattle.std.proofs.Common.{◌≡◌, ℕ, zero, suc, ◌+◌, ◌==◌, ◌&&◌, ◌||◌, ◌<◌, ◌≤◌, Bool, true, false, List, [], ◌∷◌, length, nat_lt, slice_get, slice_index_or, Some, None, refl, sym, ap, subst, ◌∙◌, inl, inr, arith, ltb-true, lt-ltb, le-ltb, eqb-true, eq-eqb}
use mathlib.Core.Bool.{false≢true}
use Rattle.std.proofs.lemmas.Bool.{cases_lt}
use Rattle.std.proofs.lemmas.Option.{slice_get-get_or}
use Rattle.std.proofs.lemmas.Slice.Eq.{bytes_eq-Decides}
use Rattle.std.specs.declared.cmp.Ordering.{Ordering}
use Rattle.std.specs.declared.cmp.Ordering.TheVariants.{Less, Equal, Greater}
use Rattle.std.specs.Ordering.{MatchOrdering, nat_cmp, is_lt}
use Rattle.std.specs.Cmp.{ranks}
use Rattle.std.specs.Cmp.Lexicographic.{slice_cmp}
use Rattle.wire_base.specs.declared.addresses.SystemId.{SystemId}
use Rattle.wire_base.specs.declared.view.ViewNode.{ViewNode}
use Rattle.wire_base.specs.model.Control.{same_system}
use Rattle.wire_base.specs.model.Graph.{octets_before, IsBefore}
use Rattle.lsp_store.specs.Keys.{AreOctets, octets_from}
use Rattle.lsp_store.proofs.KeyLaws.{system_key_order}
use Rattle.laws_route.proofs.GraphLemmas.{before-differs}
use Rattle.bier_forward.specs.Hops.{AreInOrder, IsFirstFrom, node_in}

-- ---- the order of systems

before-trans : (xs ys zs : List ℕ) → octets_before xs ys ≡ true → octets_before ys zs ≡ true → octets_before xs zs ≡ true
before-trans xs ys [] a b = absurd (false≢true b)
before-trans xs [] (z ∷ zs) a b = absurd (false≢true a)
before-trans [] (y ∷ ys) (z ∷ zs) a b = refl
before-trans (x ∷ xs) (y ∷ ys) (z ∷ zs) a b = by (nat_lt x y) refl (x == y) refl (nat_lt y z) refl (y == z) refl (before-trans xs ys zs) a b
  where
    by : (p : Bool) → nat_lt x y ≡ p → (q : Bool) → (x == y) ≡ q → (r : Bool) → nat_lt y z ≡ r → (s : Bool) → (y == z) ≡ s
        → (octets_before xs ys ≡ true → octets_before ys zs ≡ true → octets_before xs zs ≡ true) → (p || (q && octets_before xs ys)) ≡ true → (r || (s && octets_before ys zs)) ≡ true → octets_before (x ∷ xs) (z ∷ zs) ≡ true
    by true e q f true g s h more a b = rw (lt-ltb x z (omega (arith, ltb-true x y e, ltb-true y z g))) refl
    by true e q f false g true h more a b = rw (lt-ltb x z (omega (arith, ltb-true x y e, eqb-true y z h))) refl
    by true e q f false g false h more a b = absurd (false≢true b)
    by false e true f true g s h more a b = rw (lt-ltb x z (omega (arith, eqb-true x y f, ltb-true y z g))) refl
    by false e true f false g true h more a b =
        let same : x ≡ z = eqb-true x y f ∙ eqb-true y z h in
        rw (le-ltb x z (omega (arith, same)), eq-eqb x z same, more a b) refl
    by false e true f false g false h more a b = absurd (false≢true b)
    by false e false f r g s h more a b = absurd (false≢true a)

octets-is : (xs ys : List ℕ) → octets_before xs ys ≡ is_lt (slice_cmp nat_cmp xs ys)
octets-is [] [] = refl
octets-is (x ∷ xs) [] = refl
octets-is [] (y ∷ ys) = refl
octets-is (x ∷ xs) (y ∷ ys) = by (nat_lt x y) refl (x == y) refl (octets-is xs ys)
  where
    by : (a : Bool) → nat_lt x y ≡ a → (b : Bool) → (x == y) ≡ b → octets_before xs ys ≡ is_lt (slice_cmp nat_cmp xs ys) → octets_before (x ∷ xs) (y ∷ ys) ≡ is_lt (slice_cmp nat_cmp (x ∷ xs) (y ∷ ys))
    by true a b e more = rw a refl
    by false a true e more = rw (a, e) more
    by false a false e more = rw (a, e) refl

below-is : (x y : ℕ) (o : Ordering) → MatchOrdering o (x < y) (x ≡ y) (y < x) → is_lt o ≡ nat_lt x y
below-is x y Less h = sym (lt-ltb x y h)
below-is x y Equal h = sym (le-ltb x y (omega (arith, h)))
below-is x y Greater h = sym (le-ltb x y (omega (arith, h)))

-- it is that of their numbers
pub before-by-key : (a b : SystemId) → AreOctets a.0 → AreOctets b.0 → octets_before a.0 b.0 ≡ nat_lt (octets_from 0 a.0) (octets_from 0 b.0)
before-by-key a b h k =
    octets-is a.0 b.0 ∙ ap is_lt (system_key_order a b h k)
    ∙ below-is (octets_from 0 a.0) (octets_from 0 b.0) (nat_cmp (octets_from 0 a.0) (octets_from 0 b.0)) (ranks (octets_from 0 a.0) (octets_from 0 b.0))

-- ---- halves

-- what a search has ruled out
pub record IsBetween (g : List ViewNode) (s : SystemId) (from to : ℕ) : Type 0 where
  pub ends : from ≤ to
  pub within : to ≤ length g
  pub low : (i : ℕ) (d : ViewNode) → i < from → IsBefore (slice_index_or g i d).system s
  pub high : (i : ℕ) (d : ViewNode) → to ≤ i → i < length g → IsBefore (slice_index_or g i d).system s → ⊥

pub same-node : (g : List ViewNode) (k : ℕ) (d e : ViewNode) → k < length g → slice_index_or g k d ≡ slice_index_or g k e
same-node g k d e less = some-is (slice_index_or g k d) (slice_index_or g k e) (sym (slice_get-get_or g k d less) ∙ slice_get-get_or g k e less)
  where
    some-is : (a b : ViewNode) → Some a ≡ Some b → a ≡ b
    some-is a b e = cc

-- the order of the node at an index does not depend on what stands past the end
before-any : (g : List ViewNode) (s : SystemId) (k : ℕ) (d e : ViewNode) → k < length g → IsBefore (slice_index_or g k e).system s → IsBefore (slice_index_or g k d).system s
before-any g s k d e less before = subst (λ (n : ViewNode). IsBefore n.system s) (same-node g k e d less) before

pub between-all : (g : List ViewNode) (s : SystemId) → IsBetween g s 0 (length g)
between-all g s = record { ends = omega arith; within = omega arith; low = λ i d less. absurd (omega (arith, less)); high = λ i d from to before. omega (arith, from, to) }

pub upper-half : (g : List ViewNode) (s : SystemId) (from to middle : ℕ) → AreInOrder g → IsBetween g s from to → from ≤ middle → middle < to
    → (e : ViewNode) → IsBefore (slice_index_or g middle e).system s → IsBetween g s (middle + 1) to
upper-half g s from to middle order is low high e before = record {
  ends = omega (arith, high);
  within = is.within;
  low = λ i d less. elim (cases_lt i middle) [
    | inl l ↦ before-trans (slice_index_or g i d).system.0 (slice_index_or g middle d).system.0 s.0 (order i middle d l (omega (arith, high, is.within))) (before-any g s middle d e (omega (arith, high, is.within)) before)
    | inr r ↦ (let same : middle ≡ i = omega (arith, r, less) in subst (λ (k : ℕ). IsBefore (slice_index_or g k d).system s) same (before-any g s middle d e (omega (arith, high, is.within)) before))
  ];
  high = is.high;
}

pub lower-half : (g : List ViewNode) (s : SystemId) (from to middle : ℕ) → AreInOrder g → IsBetween g s from to → from ≤ middle → middle < to
    → (e : ViewNode) → (IsBefore (slice_index_or g middle e).system s → ⊥) → IsBetween g s from middle
lower-half g s from to middle order is low high e not_before = record {
  ends = low;
  within = omega (arith, high, is.within);
  low = is.low;
  high = λ i d least most before. elim (cases_lt middle i) [
    | inl l ↦ not_before (before-any g s middle e d (omega (arith, high, is.within)) (before-trans (slice_index_or g middle d).system.0 (slice_index_or g i d).system.0 s.0 (order middle i d l most) before))
    | inr r ↦ (let same : i ≡ middle = omega (arith, r, least) in not_before (before-any g s middle e d (omega (arith, high, is.within)) (subst (λ (k : ℕ). IsBefore (slice_index_or g k d).system s) same before)))
  ];
}

pub first-between : (g : List ViewNode) (s : SystemId) (from to : ℕ) → IsBetween g s from to → to ≤ from → IsFirstFrom g s from
first-between g s from to is past = record { low = is.low; high = λ i d least most before. is.high i d (omega (arith, is.ends, past, least)) most before }

-- ---- the node

-- a node that no other of its system precedes
at-first : (g : List ViewNode) (s : SystemId) (place : ℕ) (n : ViewNode) → ((i : ℕ) → i < place → same_system (slice_index_or g i n).system s ≡ false) → slice_get g place ≡ Some n → same_system n.system s ≡ true
    → node_in g s ≡ Some n
at-first [] s place n apart at same = cc
at-first (m ∷ g) s zero n apart at same =
    let is : m ≡ n = some-is m n at in
    rw (ap (λ (k : ViewNode). same_system k.system s) is ∙ same) (ap (λ (k : ViewNode). Some k) is)
  where
    some-is : (a b : ViewNode) → Some a ≡ Some b → a ≡ b
    some-is a b e = cc
at-first (m ∷ g) s (suc place) n apart at same = rw (apart 0 (omega arith)) (at-first g s place n (λ i less. apart (suc i) (omega (arith, less))) at same)

pub node-at : (g : List ViewNode) (s : SystemId) (place : ℕ) (n : ViewNode) → IsFirstFrom g s place → slice_get g place ≡ Some n → same_system n.system s ≡ true → Some n ≡ node_in g s
node-at g s place n is at same = sym (at-first g s place n (λ i less. before-differs (slice_index_or g i n).system s (is.low i n less)) at same)

-- there is none if no node has that system
in-none : (g : List ViewNode) (s : SystemId) → ((i : ℕ) (d : ViewNode) → i < length g → same_system (slice_index_or g i d).system s ≡ false) → node_in g s ≡ None
in-none [] s apart = refl
in-none (m ∷ g) s apart = rw (apart 0 m (omega arith)) (in-none g s (λ i d less. apart (suc i) d (omega (arith, less))))

pub node-none : (g : List ViewNode) (s : SystemId) (place : ℕ) → AreInOrder g → IsFirstFrom g s place → ((d : ViewNode) → place < length g → same_system (slice_index_or g place d).system s ≡ false) → None ≡ node_in g s
node-none g s place order is other = sym (in-none g s (λ i d most. elim (cases_lt i place) [
  | inl low ↦ before-differs (slice_index_or g i d).system s (is.low i d low)
  | inr least ↦ elim (cases_lt place i) [
    | inl above ↦ apart i d most above (same_system (slice_index_or g i d).system s) refl
    | inr low ↦ (let same : place ≡ i = omega (arith, least, low) in subst (λ (k : ℕ). same_system (slice_index_or g k d).system s ≡ false) same (other d (omega (arith, same, most))))
  ]
]))
  where
    apart : (i : ℕ) (d : ViewNode) → i < length g → place < i → (b : Bool) → same_system (slice_index_or g i d).system s ≡ b → same_system (slice_index_or g i d).system s ≡ false
    apart i d most above true e =
        let same : (slice_index_or g i d).system.0 ≡ s.0 = (bytes_eq-Decides (slice_index_or g i d).system.0 s.0).0 e in
        absurd (is.high place d (omega arith) (omega (arith, above, most)) (subst (λ (octets : List ℕ). octets_before (slice_index_or g place d).system.0 octets ≡ true) same (order place i d above most)))
    apart i d most above false e = e
