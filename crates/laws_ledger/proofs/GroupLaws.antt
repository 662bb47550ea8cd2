-- Two measures of BFR-ids that add up over the outcomes of a hop and over the packets of an injection: whether one id is
-- among them, and how many they are.
use Rattle.std.proofs.Common.{◌≡◌, inl, inr, ℕ, zero, suc, ◌+◌, ◌<◌, ◌≤◌, ◌^◌, ◌==◌, ◌&&◌, ◌||◌, nat_lt, not, Bool, true, false, if◌then◌else◌, List, [], ◌∷◌, ◌++◌, length, map, filter, sum_by, is_some, Option, Some, None, refl, sym, ap, subst, ◌∙◌, arith}
use mathlib.Core.Bool.{false≢true}
use Rattle.std.specs.List.{AllByRecursion, filter_map}
use Rattle.std.proofs.Math.Bool.{or-true}
use Rattle.std.proofs.lemmas.Bool.{cond_both, eqb-true, eqb-false, eq-eqb, ne_eqb, ltb-true}
use Rattle.std.proofs.lemmas.Bool.Decides.{eqb_tells}
use Rattle.std.proofs.lemmas.List.Sums.{sum_by-cons, sum_by-append}
use Rattle.wire_base.specs.declared.bsl.Bsl.{Bsl}
use Rattle.wire_base.specs.model.BitSet.{IsWithin, with_member}
use Rattle.wire_base.specs.model.Hop.{Outcome, Local, Copy, Expired, NoRow, has, ids_of, distinct, is_this, copies, unless_empty, forward, local, hop, one_if, tally}
use Rattle.wire_base.specs.model.Ingress.{IngressPacket, id_set, sets_of, packet_for, packets_for}
use Rattle.wire_base.specs.model.Place.{bits_of, set_identifier}
use Rattle.wire_base.proofs.SetLaws.{within-with}
use Rattle.laws_route.proofs.HopLemmas.{tally-same, tally-none, tally-filter, has-filter, has-filter_map, distinct-once, hop-partition}
use Rattle.domain_model.proofs.EachLaws.{each_from, each_weaker}
use Rattle.laws_ledger.proofs.SumLaws.{sum-map, sum-same, sum-none, sum-both, tally-sum, length-kept}
use Rattle.laws_ledger.proofs.MeasureLaws.{AreIdsInOrder, IsMeasure}

same_turned : (a b : ℕ) → (a == b) ≡ (b == a)
same_turned a b = elim (eqb_tells a b) [
  | inl t ↦ t.0 ∙ sym (eq-eqb b a (sym t.1))
  | inr t ↦ t.0 ∙ sym (ne_eqb b a (λ e. t.1 (sym e)))
]

-- ---- whether one id is among them

has-with : (j k : ℕ) (xs : List ℕ) → has (with_member j xs) k ≡ ((j == k) || has xs k)
has-with j k [] = refl
has-with j k (x ∷ xs) =
    cond_both (nat_lt j x) (j ∷ x ∷ xs) (if j == x then x ∷ xs else x ∷ with_member j xs) (λ l. has l k ≡ ((j == k) || has (x ∷ xs) k)) (λ t. refl)
    (λ t. cond_both (j == x) (x ∷ xs) (x ∷ with_member j xs) (λ l. has l k ≡ ((j == k) || has (x ∷ xs) k)) (λ e. here (eqb-true j x e)) (λ e. later (has-with j k xs)))
  where
    twice : (a b : Bool) → (a || b) ≡ (a || (a || b))
    twice true b = refl
    twice false b = refl

    here : j ≡ x → has (x ∷ xs) k ≡ ((j == k) || has (x ∷ xs) k)
    here e = subst (λ (n : ℕ). has (x ∷ xs) k ≡ ((n == k) || has (x ∷ xs) k)) (sym e) (twice (x == k) (has xs k))

    turned : (a b c : Bool) → (a || (b || c)) ≡ (b || (a || c))
    turned true true c = refl
    turned true false c = refl
    turned false b c = refl

    later : has (with_member j xs) k ≡ ((j == k) || has xs k) → has (x ∷ with_member j xs) k ≡ ((j == k) || has (x ∷ xs) k)
    later more = ap (λ b. (x == k) || b) more ∙ turned (x == k) (j == k) (has xs k)

-- the set of a list has what the list has
pub has-set : (ks : List ℕ) (k : ℕ) → has (id_set ks) k ≡ has ks k
has-set [] k = refl
has-set (j ∷ ks) k = has-with j k (id_set ks) ∙ ap (λ b. (j == k) || b) (has-set ks k)

has-mapped : (f : ℕ → ℕ) (ks : List ℕ) (k : ℕ) → has ks k ≡ true → has (map f ks) (f k) ≡ true
has-mapped f [] k h = absurd (false≢true h)
has-mapped f (j ∷ ks) k h = by (j == k) refl h (λ q. has-mapped f ks k q)
  where
    by : (b : Bool) → (j == k) ≡ b → ((j == k) || has ks k) ≡ true → (has ks k ≡ true → has (map f ks) (f k) ≡ true) → ((f j == f k) || has (map f ks) (f k)) ≡ true
    by true e h more = rw (eq-eqb (f j) (f k) (ap f (eqb-true j k e))) refl
    by false e h more = let q : has ks k ≡ true = rw e at h in rw (more q) (or-true (f j == f k))

-- each id of a list has its set among the sets once
set-once : (f : ℕ → ℕ) (ks : List ℕ) (k : ℕ) → has ks k ≡ true → tally (λ y. f k == y) (distinct (map f ks)) ≡ 1
set-once f ks k h =
    tally-same (λ y. f k == y) (λ y. y == f k) (distinct (map f ks)) (λ y. same_turned (f k) y)
    ∙ distinct-once (map f ks) (f k) ∙ ap one_if (has-mapped f ks k h)

has_in_sets : (f : ℕ → ℕ) (set : List ℕ) (k : ℕ) (b : Bool) → has set k ≡ b → tally (λ si. b && (f k == si)) (distinct (map f set)) ≡ one_if b
has_in_sets f set k true e = set-once f set k e
has_in_sets f set k false e = tally-none (λ si. false) (distinct (map f set)) (λ si. refl)

-- one packet has each id that is named
has_in_packets : (k sd : ℕ) (bsl : Bsl) (ks : List ℕ) → sum_by (λ (p : IngressPacket). one_if (has p.ids k)) (packets_for sd bsl ks) ≡ one_if (has (id_set ks) k)
unfolding packets_for
has_in_packets k sd bsl ks =
    let f : ℕ → ℕ = set_identifier (bits_of bsl) in
    let set = id_set ks in
    let sets = sets_of bsl ks in
    sum-map (λ (p : IngressPacket). one_if (has p.ids k)) (packet_for sd bsl ks) sets
    ∙ sym (tally-sum (λ si. has (filter (λ j. f j == si) set) k) sets)
    ∙ tally-same (λ si. has (filter (λ j. f j == si) set) k) (λ si. has set k && (f k == si)) sets (λ si. has-filter (λ j. f j == si) set k)
    ∙ has_in_sets f set k (has set k) refl

pub one_id : (k : ℕ) → IsMeasure (λ ids. one_if (has ids k))
one_id k = record { none = refl; parts = parts; packets = λ sd bsl ks h. has_in_packets k sd bsl ks }
  where
    parts : (own : Option ℕ) (choose : ℕ → Option ℕ) (ids : List ℕ) (ttl : ℕ) → AreIdsInOrder ids → sum_by (λ o. one_if (has (ids_of o) k)) (hop own choose ids ttl) ≡ one_if (has ids k)
    parts own choose ids ttl h = sym (tally-sum (λ o. has (ids_of o) k) (hop own choose ids ttl)) ∙ hop-partition own choose ids ttl k

-- ---- how many they are

-- two sums may change places
sums-turned : (test : ℕ → ℕ → Bool) (ks ys : List ℕ) → sum_by (λ y. tally (λ k. test k y) ks) ys ≡ sum_by (λ k. tally (test k) ys) ks
sums-turned test [] ys = sum-none (λ y. 0) ys (λ y. refl)
sums-turned test (k ∷ ks) ys =
    sum-both (λ y. one_if (test k y)) (λ y. tally (λ j. test j y) ks) ys
    ∙ omega (arith, tally-sum (test k) ys, sums-turned test ks ys, sum_by-cons (λ k. tally (test k) ys) k ks)

-- where each id has one group among ys, the groups make up the list
pub groups-length : (test : ℕ → ℕ → Bool) (count : ℕ → ℕ) (ks ys : List ℕ) → AllByRecursion (λ k. tally (test k) ys ≡ count k) ks → sum_by (λ y. length (filter (λ k. test k y) ks)) ys ≡ sum_by count ks
groups-length test count ks ys all =
    sum-same (λ y. length (filter (λ k. test k y) ks)) (λ y. tally (λ k. test k y) ks) ys (each_from (λ y. length (filter (λ k. test k y) ks) ≡ tally (λ k. test k y) ks) (λ y. length-kept (λ k. test k y) ks) ys)
    ∙ sums-turned test ks ys ∙ sum-same (λ k. tally (test k) ys) count ks all

each_had : (ks : List ℕ) → AllByRecursion (λ k. has ks k ≡ true) ks
each_had [] = tt
each_had (k ∷ ks) = (ap (λ (b : Bool). b || has ks k) (eq-eqb k k refl), each_weaker (λ j. has ks j ≡ true) (λ j. has (k ∷ ks) j ≡ true) (λ j h. rw h (or-true (k == j))) ks (each_had ks))

-- all that have a choice are in the copies
pub copies-length : (choose : ℕ → Option ℕ) (ks : List ℕ) (ttl : ℕ) → sum_by (λ o. length (ids_of o)) (copies choose ks ttl) ≡ tally (λ k. is_some (choose k)) ks
copies-length choose ks ttl =
    let ys = distinct (filter_map choose ks) in
    sum-map (λ o. length (ids_of o)) (λ y. Copy y (filter (λ k. is_this (choose k) y) ks) ttl) ys
    ∙ groups-length (λ k. is_this (choose k)) (λ k. one_if (is_some (choose k))) ks ys (each_weaker (λ k. has ks k ≡ true) (λ k. tally (is_this (choose k)) ys ≡ one_if (is_some (choose k))) (λ k h. one k (choose k) refl h) ks (each_had ks))
    ∙ sym (tally-sum (λ k. is_some (choose k)) ks)
  where
    one : (k : ℕ) (o : Option ℕ) → choose k ≡ o → has ks k ≡ true → tally (is_this o) (distinct (filter_map choose ks)) ≡ one_if (is_some o)
    one k None e h = tally-none (λ y. false) (distinct (filter_map choose ks)) (λ y. refl)
    one k (Some y) e h = distinct-once (filter_map choose ks) y ∙ ap one_if (has-filter_map choose ks k y e h)

unless-length : (f : List ℕ → Outcome) → ((ks : List ℕ) → ids_of (f ks) ≡ ks) → (ks : List ℕ) → sum_by (λ o. length (ids_of o)) (unless_empty f ks) ≡ length ks
unless-length f same [] = refl
unless-length f same (k ∷ ks) = omega (arith, sum_by-cons (λ o. length (ids_of o)) (f (k ∷ ks)) [], ap (λ (l : List ℕ). length l) (same (k ∷ ks)))

forward-length : (choose : ℕ → Option ℕ) (ks : List ℕ) (ttl : ℕ) → sum_by (λ o. length (ids_of o)) (forward choose ks ttl) ≡ tally (λ k. is_some (choose k)) ks
forward-length choose ks zero = unless-length Expired (λ ks. refl) (filter (λ k. is_some (choose k)) ks) ∙ length-kept (λ k. is_some (choose k)) ks
forward-length choose ks (suc ttl) = copies-length choose ks (suc ttl)

-- an ascending list has an id at most once
none_above : (low high k : ℕ) (ks : List ℕ) → IsWithin low high ks → k ≤ low → tally (λ j. j == k) ks ≡ 0
none_above low high k [] h le = refl
none_above low high k (j ∷ ks) h le = rw (ne_eqb j k (λ e. omega (arith, e, h.0, le))) (omega (arith, none_above j high k ks h.2 (omega (arith, h.0, le))))

pub once_in : (low high k : ℕ) (ks : List ℕ) → IsWithin low high ks → tally (λ j. j == k) ks ≡ one_if (has ks k)
once_in low high k [] h = refl
once_in low high k (j ∷ ks) h = elim (eqb_tells j k) [
  | inl t ↦ rw t.0 (omega (arith, none_above j high k ks h.2 (omega (arith, t.1))))
  | inr t ↦ rw t.0 (omega (arith, once_in j high k ks h.2))
]

local-length : (low high : ℕ) (own : Option ℕ) (ks : List ℕ) → IsWithin low high ks → sum_by (λ o. length (ids_of o)) (local own ks) ≡ tally (is_this own) ks
local-length low high None ks h = sym (tally-none (λ k. false) ks (λ k. refl))
local-length low high (Some o) ks h = by (has ks o) refl ∙ sym (once_in low high o ks h)
  where
    by : (b : Bool) → has ks o ≡ b → sum_by (λ o. length (ids_of o)) (if b then Local o ∷ [] else []) ≡ one_if (has ks o)
    by true e = rw e refl
    by false e = rw e refl

-- each id is the router's own, has a choice, or has none
three-parts : (own some : ℕ → Bool) (ks : List ℕ) → (tally own ks + tally (λ k. some k && not (own k)) ks) + tally (λ k. not (some k) && not (own k)) ks ≡ length ks
three-parts own some [] = omega arith
three-parts own some (k ∷ ks) = omega (arith, by (own k) (some k), three-parts own some ks)
  where
    by : (a b : Bool) → (one_if a + one_if (b && not a)) + one_if (not b && not a) ≡ 1
    by true true = refl
    by true false = refl
    by false true = refl
    by false false = refl

hop-length : (low high : ℕ) (own : Option ℕ) (choose : ℕ → Option ℕ) (ids : List ℕ) (ttl : ℕ) → IsWithin low high ids → sum_by (λ o. length (ids_of o)) (hop own choose ids ttl) ≡ length ids
unfolding hop
hop-length low high own choose ids zero h = unless-length Expired (λ ks. refl) ids
hop-length low high own choose ids (suc ttl) h =
    let size : Outcome → ℕ = λ o. length (ids_of o) in
    let rest = filter (λ k. not (is_this own k)) ids in
    let lost = filter (λ k. not (is_some (choose k)) && not (is_this own k)) ids in
    let a = sum_by-append size (local own ids ++ forward choose rest ttl) (unless_empty NoRow lost) in
    let b = sum_by-append size (local own ids) (forward choose rest ttl) in
    let c = local-length low high own ids h in
    let d = forward-length choose rest ttl ∙ tally-filter (λ k. is_some (choose k)) (λ k. not (is_this own k)) ids in
    let e = unless-length NoRow (λ ks. refl) lost ∙ length-kept (λ k. not (is_some (choose k)) && not (is_this own k)) ids in
    omega (arith, a, b, c, d, e, three-parts (is_this own) (λ k. is_some (choose k)) ids)

ones : (ks : List ℕ) → sum_by (λ k. 1) ks ≡ length ks
ones [] = refl
ones (k ∷ ks) = omega (arith, sum_by-cons (λ (k : ℕ). 1) k ks, ones ks)

packets-length : (sd : ℕ) (bsl : Bsl) (ks : List ℕ) → sum_by (λ (p : IngressPacket). length p.ids) (packets_for sd bsl ks) ≡ length (id_set ks)
unfolding packets_for
packets-length sd bsl ks =
    let f : ℕ → ℕ = set_identifier (bits_of bsl) in
    let set = id_set ks in
    let sets = sets_of bsl ks in
    sum-map (λ (p : IngressPacket). length p.ids) (packet_for sd bsl ks) sets
    ∙ groups-length (λ k si. f k == si) (λ k. 1) set sets (each_weaker (λ k. has set k ≡ true) (λ k. tally (λ si. f k == si) sets ≡ 1) (λ k h. set-once f set k h) set (each_had set))
    ∙ ones set

pub how_many : IsMeasure (λ ids. length ids)
how_many = record { none = refl; parts = λ own choose ids ttl h. hop-length 0 65535 own choose ids ttl h; packets = λ sd bsl ks h. packets-length sd bsl ks }

-- ---- how many are named

with-length : (low high k : ℕ) (xs : List ℕ) → IsWithin low high xs → length (with_member k xs) + one_if (has xs k) ≡ length xs + 1
with-length low high k [] h = refl
with-length low high k (x ∷ xs) h =
    cond_both (nat_lt k x) (k ∷ x ∷ xs) (if k == x then x ∷ xs else x ∷ with_member k xs) (λ l. length l + one_if (has (x ∷ xs) k) ≡ length (x ∷ xs) + 1)
    (λ t. (let less = ltb-true k x t in omega (arith, sym (once_in low high k (x ∷ xs) h), none_above k high k (x ∷ xs) (less, h.1, h.2) (omega arith))))
    (λ t. cond_both (k == x) (x ∷ xs) (x ∷ with_member k xs) (λ l. length l + one_if (has (x ∷ xs) k) ≡ length (x ∷ xs) + 1)
    (λ e. (let here : (x == k) ≡ true = eq-eqb x k (sym (eqb-true k x e)) in rw here (omega arith)))
    (λ e. (let other : (x == k) ≡ false = ne_eqb x k (λ z. eqb-false k x e (sym z)) in rw other (omega (arith, with-length x high k xs h.2)))))

distinct-length : (x : ℕ) (xs : List ℕ) → length (distinct (x ∷ xs)) + one_if (has xs x) ≡ length (distinct xs) + 1
distinct-length x xs = omega (arith, length-kept (λ y. not (y == x)) (distinct xs), two-parts (distinct xs), distinct-once xs x)
  where
    two-parts : (ys : List ℕ) → tally (λ y. not (y == x)) ys + tally (λ y. y == x) ys ≡ length ys
    two-parts [] = omega arith
    two-parts (y ∷ ys) = omega (arith, by (y == x), two-parts ys)
      where
        by : (b : Bool) → one_if (not b) + one_if b ≡ 1
        by true = refl
        by false = refl

pub set_order : (ks : List ℕ) → AllByRecursion (λ k. 1 ≤ k) ks → AllByRecursion (λ k. k < 2 ^ 16) ks → AreIdsInOrder (id_set ks)
set_order [] some small = tt
set_order (k ∷ ks) some small = within-with 0 65535 k (id_set ks) (omega (arith, some.0)) (omega (arith, small.0)) (set_order ks some.1 small.1)

-- the set of a list has as many as it names
pub set-length : (ks : List ℕ) → AllByRecursion (λ k. 1 ≤ k) ks → AllByRecursion (λ k. k < 2 ^ 16) ks → length (id_set ks) ≡ length (distinct ks)
set-length [] some small = refl
set-length (k ∷ ks) some small =
    omega (
      arith,
      with-length 0 65535 k (id_set ks) (set_order ks some.1 small.1),
      ap one_if (has-set ks k),
      distinct-length k ks,
      set-length ks some.1 small.1,
    )
