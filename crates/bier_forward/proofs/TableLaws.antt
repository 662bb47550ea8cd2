-- A packet's table: at each position the router that its BFR-id has by the definition.
use mathlib.Core.Bool.{true≢false, false≢true}
use Rattle.std.proofs.Common.{◌≡◌, ℕ, zero, suc, ◌+◌, ◌-◌, ◌%◌, ◌==◌, ◌&&◌, ◌||◌, ◌≤◌, ◌<◌, not, Bool, true, false, List, [], ◌∷◌, length, filter, get_or, replicate, Option, Some, None, is_some, option_and_then, option_map, slice_get, AllPairs, refl, sym, ap, subst, ◌∙◌, inl, inr, arith, if◌then◌else◌}
use Rattle.std.specs.List.{AllByRecursion, filter_map, list_any, range_with_len}
use Rattle.std.proofs.lemmas.Bool.{cases_lt, eqb-true}
use Rattle.std.proofs.lemmas.List.{get_or_past}
use Rattle.std.proofs.lemmas.Option.{slice_get_cases, slice_get_past, slice_get_within}
use Rattle.std.proofs.lemmas.Slice.Eq.{bytes_eq-Decides}
use Rattle.wire_base.specs.declared.conf.End.{End}
use Rattle.wire_base.specs.declared.conf.RouterConf.{RouterConf}
use Rattle.wire_base.specs.declared.triple.Triple.{Triple}
use Rattle.wire_base.specs.declared.view.First.{First}
use Rattle.wire_base.specs.declared.view.ViewEdge.{ViewEdge}
use Rattle.wire_base.specs.declared.view.ViewNode.{ViewNode}
use Rattle.wire_base.specs.model.Choice.{candidates, choice, choose, end_toward, first_at, is_direct, is_length, member, toward}
use Rattle.wire_base.specs.model.Control.{same_system}
use Rattle.wire_base.specs.model.Graph.{IsBefore, IsGraph, covers_at, edges_at, edges_of, owner}
use Rattle.wire_base.specs.model.OnFrame.{link_to, node_place}
use Rattle.wire_base.specs.model.Place.{bits_of, id_at}
use Rattle.wire_base.specs.model.Supporting.{firsts, meets}
use Rattle.wire_base.specs.model.Tight.{tight_from, tight_list}
use Rattle.wire_base.specs.model.Walk.{dist}
use Rattle.bift_table.specs.Bift.{member_at, router_at}
use Rattle.bier_forward.specs.Hops.{AreNext, AreRows, IsNext, place_of}
use Rattle.bier_forward.specs.Packets.{LeadsToEnds}
use Rattle.laws_route.proofs.GraphLemmas.{before-differs}
use Rattle.bier_forward.proofs.DueLaws.{all-filter}

-- ---- the place of a node

-- where the nodes stand in the order of their systems, each is the first of its system
pub place-of-node : (g : List ViewNode) → AllPairs (λ a b. IsBefore a.system b.system) g → (x : ℕ) (n : ViewNode) → slice_get g x ≡ Some n → node_place g n.system ≡ x
place-of-node [] order x n at = cc
place-of-node (m ∷ g) order zero n at =
    let same : m ≡ n = some_same m n at in
    let b : same_system m.system n.system ≡ true = (bytes_eq-Decides m.system.0 n.system.0).1 (ap (λ (k : ViewNode). k.system.0) same) in
    rw b refl
  where
    some_same : (a b : ViewNode) → Some a ≡ Some b → a ≡ b
    some_same a b e = cc
place-of-node (m ∷ g) order (suc x) n at =
    let within : x < length g = slice_get_within g x n at in
    let first : IsBefore m.system n.system = subst (λ (k : ViewNode). IsBefore m.system k.system) (read g x n at) (order 0 (suc x) n (omega arith) (omega (arith, within))) in
    let b : same_system m.system n.system ≡ false = before-differs m.system n.system first in
    let more = place-of-node g (λ i j d less high. order (suc i) (suc j) d (omega (arith, less)) (omega (arith, high))) x n at in
    rw b (let e : 1 + node_place g n.system ≡ suc x = omega (arith, more) in e)
  where
    read : (g : List ViewNode) (x : ℕ) (n : ViewNode) → slice_get g x ≡ Some n → get_or g x n ≡ n
    read [] x n at = refl
    read (k ∷ g) zero n at = cc
    read (k ∷ g) (suc x) n at = read g x n at

-- ---- candidates

range-all : (a n high : ℕ) → a + n ≤ high → AllByRecursion (λ x. x < high) (range_with_len a n)
range-all a zero high le = tt
range-all a (suc n) high le = (omega (arith, le), range-all (a + 1) n high (omega (arith, le)))

firsts-within : (g : List ViewNode) (c : ℕ → Bool) (d u : ℕ) → AllByRecursion (λ x. x < length g) (firsts g c d u)
unfolding firsts
firsts-within g c d u = all-filter (λ x. x < length g) (meets g c d (length g) u) (range_with_len 0 (length g)) (range-all 0 (length g) (length g) (omega arith))

candidates-within : (g : List ViewNode) (c : ℕ → Bool) (d u : ℕ) → AllByRecursion (λ x. x < length g) (candidates g c d u)
unfolding candidates
candidates-within g c d u = by ((u == d) || not (c d))
  where
    by : (b : Bool) → AllByRecursion (λ x. x < length g) (if b then [] else firsts g c d u)
    by true = tt
    by false = firsts-within g c d u

toward-within : (g : List ViewNode) (c : ℕ → Bool) (u : ℕ) (o : Option ℕ) → AllByRecursion (λ x. x < length g) (toward g c u o)
toward-within g c u None = tt
toward-within g c u (Some d) = candidates-within g c d u

-- the choice, over the candidates
choose-is : (r : RouterConf) (g : List ViewNode) (t : Triple) (class u k : ℕ)
    → choose g r.kinds r.table t class u k ≡ member (toward g (covers_at r.kinds r.table t g) u (owner g t.sd k)) class
unfolding choice
choose-is r g t class u k = by (owner g t.sd k)
  where
    by : (o : Option ℕ) → option_and_then (λ d. choice g (covers_at r.kinds r.table t g) d class u) o ≡ member (toward g (covers_at r.kinds r.table t g) u o) class
    by None = refl
    by (Some d) = refl

-- ---- the member of a class

-- each candidate is named
AreNamed : List End → List ViewNode → ℕ → List ℕ → Type 0
AreNamed ends g u xs = AllByRecursion (λ x. is_some (first_at ends g u x) ≡ true) xs

named : (ends : List End) (g : List ViewNode) (u : ℕ) (xs : List ℕ) → AllByRecursion (λ x. x < length g) xs → AreNamed ends g u xs
unfolding AreNamed
named ends g u [] all = tt
named ends g u (x ∷ xs) all = (at, named ends g u xs all.1)
  where
    at : is_some (first_at ends g u x) ≡ true
    at = elim ((slice_get_cases g x).1) [
      | inl some ↦ rw some.2 refl
      | inr past ↦ absurd (omega (arith, past.0, all.0))
    ]

named-length : (ends : List End) (g : List ViewNode) (u : ℕ) (xs : List ℕ) → AreNamed ends g u xs → length (filter_map (first_at ends g u) xs) ≡ length xs
unfolding AreNamed
named-length ends g u [] all = refl
named-length ends g u (x ∷ xs) all = by (first_at ends g u x) refl all.0 (named-length ends g u xs all.1)
  where
    by : (o : Option First) → first_at ends g u x ≡ o → is_some (first_at ends g u x) ≡ true → length (filter_map (first_at ends g u) xs) ≡ length xs → length (filter_map (first_at ends g u) (x ∷ xs)) ≡ length (x ∷ xs)
    by None e some more = absurd (true≢false (sym some ∙ ap is_some e))
    by (Some f) e some more = rw e (ap (λ (n : ℕ). suc n) more)

named-get : (ends : List End) (g : List ViewNode) (u : ℕ) (xs : List ℕ) (i : ℕ) → AreNamed ends g u xs → slice_get (filter_map (first_at ends g u) xs) i ≡ option_and_then (first_at ends g u) (slice_get xs i)
unfolding AreNamed
named-get ends g u [] i all = refl
named-get ends g u (x ∷ xs) i all = by i (first_at ends g u x) refl all.0 (λ j. named-get ends g u xs j all.1)
  where
    by : (i : ℕ) (o : Option First) → first_at ends g u x ≡ o → is_some (first_at ends g u x) ≡ true
        → ((j : ℕ) → slice_get (filter_map (first_at ends g u) xs) j ≡ option_and_then (first_at ends g u) (slice_get xs j))
        → slice_get (filter_map (first_at ends g u) (x ∷ xs)) i ≡ option_and_then (first_at ends g u) (slice_get (x ∷ xs) i)
    by i None e some more = absurd (true≢false (sym some ∙ ap is_some e))
    by zero (Some f) e some more = rw e refl
    by (suc j) (Some f) e some more = rw e (more j)

-- the member of a class is the named member
named-member : (ends : List End) (g : List ViewNode) (u class : ℕ) (xs : List ℕ) → AreNamed ends g u xs → member_at class (filter_map (first_at ends g u) xs) ≡ option_and_then (first_at ends g u) (member xs class)
named-member ends g u class [] all = refl
named-member ends g u class (x ∷ xs) all = by (filter_map (first_at ends g u) (x ∷ xs)) (named-length ends g u (x ∷ xs) all) (λ i. named-get ends g u (x ∷ xs) i all)
  where
    by : (fs : List First) → length fs ≡ length (x ∷ xs) → ((i : ℕ) → slice_get fs i ≡ option_and_then (first_at ends g u) (slice_get (x ∷ xs) i)) → member_at class fs ≡ option_and_then (first_at ends g u) (slice_get (x ∷ xs) (class % length (x ∷ xs)))
    by [] long each = absurd (omega (arith, long))
    by (f ∷ fs) long each = ap (λ (n : ℕ). slice_get (f ∷ fs) (class % n)) long ∙ each (class % length (x ∷ xs))

member-all : (P : ℕ → Type 0) (xs : List ℕ) (class x : ℕ) → AllByRecursion P xs → member xs class ≡ Some x → P x
member-all P [] class x all e = cc
member-all P (y ∷ ys) class x all e = get (y ∷ ys) (class % length (y ∷ ys)) all e
  where
    same : (a b : ℕ) → Some a ≡ Some b → a ≡ b
    same a b e = cc

    get : (xs : List ℕ) (i : ℕ) → AllByRecursion P xs → slice_get xs i ≡ Some x → P x
    get [] i all e = cc
    get (z ∷ zs) zero all e = subst P (same z x e) all.0
    get (z ∷ zs) (suc i) all e = get zs i all.1 e

-- ---- a position

-- the choice of a position's BFR-id is the router of the position
IsRouter : RouterConf → List ViewNode → Option First → Option ℕ → Type 0
IsRouter r g None chosen = chosen ≡ None
IsRouter r g (Some f) chosen = IsNext r g f × (chosen ≡ Some (place_of g f))

leads : (r : RouterConf) (g : List ViewNode) (x : ℕ) → LeadsToEnds r g → is_direct g (node_place g r.system) x ≡ true → is_some (link_to r g x) ≡ true
unfolding is_direct
leads r g x ends direct = any (edges_of g (node_place g r.system)) ends direct
  where
    left : (a b : Bool) → (a && b) ≡ true → a ≡ true
    left true b h = refl
    left false b h = absurd (false≢true h)

    any : (es : List ViewEdge) → AllByRecursion (λ e. is_some (link_to r g e.to) ≡ true) es → list_any (λ e. (e.to == x) && is_length (dist g (node_place g r.system) x) e.metric) es ≡ true → is_some (link_to r g x) ≡ true
    any [] all h = absurd (false≢true h)
    any (e ∷ es) all h = by ((e.to == x) && is_length (dist g (node_place g r.system) x) e.metric) refl h (any es all.1)
      where
        by : (b : Bool) → ((e.to == x) && is_length (dist g (node_place g r.system) x) e.metric) ≡ b → (b || list_any (λ e. (e.to == x) && is_length (dist g (node_place g r.system) x) e.metric) es) ≡ true
            → (list_any (λ e. (e.to == x) && is_length (dist g (node_place g r.system) x) e.metric) es ≡ true → is_some (link_to r g x) ≡ true) → is_some (link_to r g x) ≡ true
        by true q h more = ap (λ (y : ℕ). is_some (link_to r g y)) (sym (eqb-true e.to x (left (e.to == x) (is_length (dist g (node_place g r.system) x) e.metric) q))) ∙ all.0
        by false q h more = more h

router-is : (r : RouterConf) (g : List ViewNode) (m : Option ℕ) → IsGraph g → LeadsToEnds r g → ((x : ℕ) → m ≡ Some x → x < length g)
    → IsRouter r g (option_and_then (first_at r.ends g (node_place g r.system)) m) m
unfolding IsRouter
router-is r g None graph ends within = refl
router-is r g (Some x) graph ends within = elim ((slice_get_cases g x).1) [
  | inl some ↦ found some.0 some.2
  | inr past ↦ absurd (let lt = within x refl in omega (arith, past.0, lt))
]
  where
    u : ℕ
    u = node_place g r.system

    router : ViewNode → Bool → First
    router n b = record { system = n.system; direct = if b then end_toward r.ends n.system else None }

    found : (n : ViewNode) → slice_get g x ≡ Some n → IsRouter r g (first_at r.ends g u x) (Some x)
    found n at = subst (λ (o : Option First). IsRouter r g o (Some x)) (sym first) (
      record {
        named = ap (first_at r.ends g u) place ∙ first;
        direct = ap (is_direct g u) place ∙ by (is_direct g u x) refl;
      },
      ap (λ (y : ℕ). Some y) (sym place),
    )
      where
        first : first_at r.ends g u x ≡ Some (router n (is_direct g u x))
        first = rw at refl

        place : node_place g n.system ≡ x
        place = place-of-node g graph.in_order x n at

        by : (b : Bool) → is_direct g u x ≡ b → b ≡ is_some (if b then end_toward r.ends n.system else None)
        by false e = refl
        by true e = sym (ap (λ (o : Option ViewNode). is_some (option_and_then (λ n. end_toward r.ends n.system) o)) (sym at) ∙ leads r g x ends e)

-- ---- the table

at-place : (r : RouterConf) (g : List ViewNode) (t : Triple) (class : ℕ) (rows : List (List First)) (table : List (Option First)) → IsGraph g → LeadsToEnds r g
    → AreRows r g t rows → ((p : ℕ) → 1 ≤ p → router_at table p ≡ member_at class (get_or rows (p - 1) []))
    → (p : ℕ) → 1 ≤ p → p ≤ bits_of t.bsl → IsRouter r g (router_at table p) (choose g r.kinds r.table t class (node_place g r.system) (id_at t p))
at-place r g t class rows table graph ends are at p low high =
    let u = node_place g r.system in
    let xs = toward g (covers_at r.kinds r.table t g) u (owner g t.sd (id_at t p)) in
    let within = toward-within g (covers_at r.kinds r.table t g) u (owner g t.sd (id_at t p)) in
    let router : router_at table p ≡ option_and_then (first_at r.ends g u) (member xs class) =
    at p low ∙ ap (member_at class) (are p low high) ∙ named-member r.ends g u class xs (named r.ends g u xs within) in
    subst (λ (o : Option First). IsRouter r g o (choose g r.kinds r.table t class u (id_at t p))) (sym router)
    (subst (IsRouter r g (option_and_then (first_at r.ends g u) (member xs class))) (sym (choose-is r g t class u (id_at t p)))
    (router-is r g (member xs class) graph ends (λ x e. member-all (λ y. y < length g) xs class x within e)))

pub table-next : (r : RouterConf) (g : List ViewNode) (t : Triple) (class : ℕ) (rows : List (List First)) (table : List (Option First)) → IsGraph g → LeadsToEnds r g → length rows ≡ bits_of t.bsl
    → AreRows r g t rows → ((p : ℕ) → 1 ≤ p → router_at table p ≡ member_at class (get_or rows (p - 1) [])) → AreNext r g table
unfolding IsRouter
table-next r g t class rows table graph ends long are at zero f e = cc
table-next r g t class rows table graph ends long are at (suc i) f e = elim (cases_lt (bits_of t.bsl) (suc i)) [
  | inl past ↦ (let none : router_at table (suc i) ≡ None = at (suc i) (omega arith) ∙ ap (member_at class) (get_or_past rows (suc i - 1) [] (omega (arith, past, long))) in cc)
  | inr high ↦ (subst (λ (o : Option First). IsRouter r g o (choose g r.kinds r.table t class (node_place g r.system) (id_at t (suc i)))) e (at-place r g t class rows table graph ends are at (suc i) (omega arith) high)).0
]

pub table-chosen : (r : RouterConf) (g : List ViewNode) (t : Triple) (class : ℕ) (rows : List (List First)) (table : List (Option First)) → IsGraph g → LeadsToEnds r g
    → AreRows r g t rows → ((p : ℕ) → 1 ≤ p → router_at table p ≡ member_at class (get_or rows (p - 1) []))
    → (p : ℕ) → 1 ≤ p → p ≤ bits_of t.bsl → choose g r.kinds r.table t class (node_place g r.system) (id_at t p) ≡ option_map (place_of g) (router_at table p)
unfolding IsRouter
table-chosen r g t class rows table graph ends are at p low high = by (router_at table p) (at-place r g t class rows table graph ends are at p low high)
  where
    by : (o : Option First) → IsRouter r g o (choose g r.kinds r.table t class (node_place g r.system) (id_at t p)) → choose g r.kinds r.table t class (node_place g r.system) (id_at t p) ≡ option_map (place_of g) o
    by None is = is
    by (Some f) is = is.1

-- ---- where the router has no node

-- no step leaves a place without a node
pub steps-without-node : (g : List ViewNode) (d u : ℕ) → length g ≤ u → tight_from g d u ≡ []
unfolding tight_from
steps-without-node g d u past = ap (λ (o : Option ViewNode). tight_list g d (λ x. dist g x d) u (edges_at o)) (slice_get_past g u past)

meets-none : (g : List ViewNode) (c : ℕ → Bool) (d k u x : ℕ) → length g ≤ u → meets g c d k u x ≡ false
meets-none g c d zero u x past = refl
meets-none g c d (suc k) u x past = ap (list_any (λ y. if c y then y == x else meets g c d k y x)) (steps-without-node g d u past)

filter-none : (f : ℕ → Bool) → ((x : ℕ) → f x ≡ false) → (xs : List ℕ) → filter f xs ≡ []
filter-none f none [] = refl
filter-none f none (x ∷ xs) = rw (none x) (filter-none f none xs)

firsts-none : (g : List ViewNode) (c : ℕ → Bool) (d u : ℕ) → length g ≤ u → firsts g c d u ≡ []
unfolding firsts
firsts-none g c d u past = filter-none (meets g c d (length g) u) (λ x. meets-none g c d (length g) u x past) (range_with_len 0 (length g))

toward-none : (g : List ViewNode) (c : ℕ → Bool) (u : ℕ) (o : Option ℕ) → length g ≤ u → toward g c u o ≡ []
unfolding candidates
toward-none g c u None past = refl
toward-none g c u (Some d) past = by ((u == d) || not (c d))
  where
    by : (b : Bool) → (if b then [] else firsts g c d u) ≡ []
    by true = refl
    by false = firsts-none g c d u past

empty-read : (n i : ℕ) → (let none : List First = [] in get_or (replicate n none) i none ≡ none)
empty-read zero i = refl
empty-read (suc n) zero = refl
empty-read (suc n) (suc i) = empty-read n i

pub rows-without-node : (r : RouterConf) (g : List ViewNode) (t : Triple) (count : ℕ) (rows : List (List First)) → node_place g r.system ≡ length g → rows ≡ replicate count [] → AreRows r g t rows
rows-without-node r g t count rows none empty p low high =
    let u = node_place g r.system in
    ap (λ (l : List (List First)). get_or l (p - 1) []) empty ∙ empty-read count (p - 1)
    ∙ sym (ap (filter_map (first_at r.ends g u)) (toward-none g (covers_at r.kinds r.table t g) u (owner g t.sd (id_at t p)) (omega (arith, none))))
