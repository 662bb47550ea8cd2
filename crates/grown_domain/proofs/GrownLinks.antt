-- The links of a grown domain: each joins two routers of it, no two join the same two, and few end at one router.
use Rattle.std.proofs.Common.{◌≡◌, ℕ, ◌+◌, ◌-◌, ◌/◌, ◌%◌, ◌<◌, ◌≤◌, Bool, true, false, ◌&&◌, ◌||◌, ◌⊎◌, inl, inr, cond, eqb, List, [], ◌∷◌, ◌++◌, length, map, filter, filter_map, fold, Option, is_some, refl, ap, subst, ◌∙◌, arith, length-append, append-nil}
use Rattle.std.proofs.lemmas.Bool.{and_parts, and_from, or_cases, or_left, or_right, eqb-true, eq-eqb, ne_eqb, eqb-false, false_from_ne_true, cases_lt}
use Rattle.std.proofs.Math.Nat.{mod-eq_of_lt, add-mod_right}
use Rattle.std.proofs.lemmas.List.{map-append}
use Rattle.std.proofs.lemmas.List.Sums.{fold-append}
use Rattle.std.proofs.lemmas.List.Elements.{filter_map-append, filter-append}
use Rattle.std.specs.List.{AllByRecursion, list_any, range_with_len}
use Rattle.wire_base.specs.declared.conf.End.{End}
use Rattle.wire_base.specs.model.Lists.{AreApart}
use Rattle.domain_conf.proofs.ValidAmong.{IsIn, in_filter, apart_filter, all_map, apart_map, in_map, as_many}
use Rattle.domain_conf.proofs.ValidArrays.{eqb_turned}
use Rattle.domain_conf.proofs.ValidLists.{all_snoc, apart_snoc}
use Rattle.grown_domain.specs.declared.links.Link.{Link}
use Rattle.grown_domain.specs.Links.{joins_same, ring_link, ring, chord, is_fifth, with_link, grown_links}
use Rattle.grown_domain.proofs.Ranged.{in_range, range_apart, range_more, some_kept}

-- ---- two links

-- two links join the same routers in one of two ways
pub joins_ways : (l m : Link) → joins_same l m ≡ true → ((l.a ≡ m.a) × (l.b ≡ m.b)) ⊎ ((l.a ≡ m.b) × (l.b ≡ m.a))
joins_ways l m same = elim (or_cases (eqb l.a m.a && eqb l.b m.b) (eqb l.a m.b && eqb l.b m.a) same) [
  | inl e ↦ let p = and_parts (eqb l.a m.a) (eqb l.b m.b) e in inl (eqb-true l.a m.a p.0, eqb-true l.b m.b p.1)
  | inr e ↦ let p = and_parts (eqb l.a m.b) (eqb l.b m.a) e in inr (eqb-true l.a m.b p.0, eqb-true l.b m.a p.1)
]

pub joins_straight : (l m : Link) → l.a ≡ m.a → l.b ≡ m.b → joins_same l m ≡ true
joins_straight l m p q = or_left (eqb l.a m.a && eqb l.b m.b) (eqb l.a m.b && eqb l.b m.a) (and_from (eqb l.a m.a) (eqb l.b m.b) (eq-eqb l.a m.a p) (eq-eqb l.b m.b q))

pub joins_crossed : (l m : Link) → l.a ≡ m.b → l.b ≡ m.a → joins_same l m ≡ true
joins_crossed l m p q = or_right (eqb l.a m.a && eqb l.b m.b) (eqb l.a m.b && eqb l.b m.a) (and_from (eqb l.a m.b) (eqb l.b m.a) (eq-eqb l.a m.b p) (eq-eqb l.b m.a q))

joins_turned : (l m : Link) → joins_same l m ≡ joins_same m l
joins_turned l m = rw (eqb_turned m.a l.a, eqb_turned m.b l.b, eqb_turned m.a l.b, eqb_turned m.b l.a) (by (eqb l.a m.a && eqb l.b m.b) (eqb l.a m.b) (eqb l.b m.a))
  where
    by : (p q r : Bool) → (p || (q && r)) ≡ (p || (r && q))
    by p true true = refl
    by p true false = refl
    by p false true = refl
    by p false false = refl

-- ---- each link

pub record IsGrownLink (n : ℕ) (l : Link) : Type 0 where
  pub a : l.a < n
  pub b : l.b < n
  pub differ : eqb l.a l.b ≡ false
  pub some : 1 ≤ l.metric
  pub last : l.metric ≤ 16777214

pub record AreGrown (n : ℕ) (links : List Link) : Type 0 where
  pub each : AllByRecursion (IsGrownLink n) links
  pub once : AreApart joins_same links

-- a place counted round a ring of n stays, or comes round once
abbrev Wraps : ℕ → ℕ → Type 0
Wraps n k = ((k % n ≡ k) × (k < n)) ⊎ ((k % n + n ≡ k) × (n ≤ k))

wraps : (n k : ℕ) → k < n + n → Wraps n k
wraps n k twice = elim (cases_lt k n) [
  | inl below ↦ inl (mod-eq_of_lt below, below)
  | inr from ↦
      let r : k ≡ k - n + n = omega (arith, from) in
      let same : (k - n + n) % n ≡ k - n = add-mod_right (k - n) n ∙ mod-eq_of_lt (omega (arith, from)) in
      inr (omega (arith, ap (λ j. j % n) r ∙ same, from), from)
]

ring_link_is : (n i : ℕ) → 3 ≤ n → i < n → IsGrownLink n (ring_link n i)
ring_link_is n i some within = by (wraps n (i + 1) (omega arith))
  where
    by : Wraps n (i + 1) → IsGrownLink n (ring_link n i)
    by (inl e) = record { a = within; b = omega (arith, e); differ = ne_eqb i ((i + 1) % n) (omega (arith, e)); some = omega arith; last = omega arith }
    by (inr e) = record { a = within; b = omega (arith, e); differ = ne_eqb i ((i + 1) % n) (omega (arith, e)); some = omega arith; last = omega arith }

chord_is : (n i : ℕ) → 3 ≤ n → i < n → IsGrownLink n (chord n i)
chord_is n i some within = by (wraps n (i + n / 2) (omega arith))
  where
    by : Wraps n (i + n / 2) → IsGrownLink n (chord n i)
    by (inl e) = record { a = within; b = omega (arith, e); differ = ne_eqb i ((i + n / 2) % n) (omega (arith, e)); some = omega arith; last = omega arith }
    by (inr e) = record { a = within; b = omega (arith, e); differ = ne_eqb i ((i + n / 2) % n) (omega (arith, e)); some = omega arith; last = omega arith }

-- ---- the ring

ring_once : (n i j : ℕ) → 3 ≤ n → i < n → j < n → eqb i j ≡ false → joins_same (ring_link n i) (ring_link n j) ≡ false
ring_once n i j some p q differ = false_from_ne_true (joins_same (ring_link n i) (ring_link n j)) (λ same. by (joins_ways (ring_link n i) (ring_link n j) same) (wraps n (i + 1) (omega arith)) (wraps n (j + 1) (omega arith)))
  where
    by : ((i ≡ j) × ((i + 1) % n ≡ (j + 1) % n)) ⊎ ((i ≡ (j + 1) % n) × ((i + 1) % n ≡ j))
        → Wraps n (i + 1)
        → Wraps n (j + 1) → ⊥
    by (inl e) s t = eqb-false i j differ e.0
    by (inr e) (inl s) (inl t) = omega (arith, e, s, t)
    by (inr e) (inl s) (inr t) = omega (arith, e, s, t)
    by (inr e) (inr s) (inl t) = omega (arith, e, s, t)
    by (inr e) (inr s) (inr t) = omega (arith, e, s, t)

ring_are : (n : ℕ) → 3 ≤ n → AreGrown n (ring n)
unfolding ring
ring_are n some = record {
  each = all_map (IsGrownLink n) (ring_link n) (range_with_len 0 n) (λ i there. let h = in_range 0 n i there in ring_link_is n i some (omega (arith, h)));
  once = apart_map eqb joins_same (ring_link n) (range_with_len 0 n) (λ i j here there differ. let h = in_range 0 n i here in let k = in_range 0 n j there in ring_once n i j some (omega (arith, h)) (omega (arith, k)) differ) (range_apart 0 n);
}

-- ---- and chords

with_link_are : (n : ℕ) (links : List Link) (l : Link) → AreGrown n links → IsGrownLink n l → AreGrown n (with_link links l)
unfolding with_link
with_link_are n links l are is = by (list_any (joins_same l) links) refl
  where
    by : (b : Bool) → list_any (joins_same l) links ≡ b → AreGrown n (cond b links (links ++ l ∷ []))
    by true joined = are
    by false new = record { each = all_snoc (IsGrownLink n) links l are.each is; once = apart_snoc joins_same joins_turned links l are.once new }

with_links_are : (n : ℕ) (links more : List Link) → AreGrown n links → AllByRecursion (IsGrownLink n) more → AreGrown n (fold with_link links more)
with_links_are n links [] are all = are
with_links_are n links (l ∷ more) are all = with_links_are n (with_link links l) more (with_link_are n links l are all.0) all.1

pub grown_links_are : (n : ℕ) → 3 ≤ n → AreGrown n (grown_links n)
unfolding grown_links
grown_links_are n some =
    with_links_are n (ring n) (map (chord n) (filter is_fifth (range_with_len 0 n))) (ring_are n some)
    (all_map (IsGrownLink n) (chord n) (filter is_fifth (range_with_len 0 n)) (λ i there. let h = in_range 0 n i (in_filter is_fifth (range_with_len 0 n) i there).0 in chord_is n i some (omega (arith, h))))

-- the links with the chords from the first i routers
abbrev pub linked : ℕ → ℕ → List Link
linked n i = fold with_link (ring n) (map (chord n) (filter is_fifth (range_with_len 0 i)))

pub linked_more : (n i : ℕ) (b : Bool) → is_fifth i ≡ b → linked n (i + 1) ≡ cond b (with_link (linked n i) (chord n i)) (linked n i)
linked_more n i b is =
    ap (λ (places : List ℕ). fold with_link (ring n) (map (chord n) (filter is_fifth places))) (range_more 0 i i (omega arith))
    ∙ ap (λ (places : List ℕ). fold with_link (ring n) (map (chord n) places)) (filter-append is_fifth (range_with_len 0 i) (i ∷ []))
    ∙ by b is
  where
    by : (b : Bool) → is_fifth i ≡ b → fold with_link (ring n) (map (chord n) (filter is_fifth (range_with_len 0 i) ++ cond (is_fifth i) (i ∷ []) [])) ≡ cond b (with_link (linked n i) (chord n i)) (linked n i)
    by true e = rw e (ap (fold with_link (ring n)) (map-append (chord n) (filter is_fifth (range_with_len 0 i)) (i ∷ [])) ∙ fold-append with_link (ring n) (map (chord n) (filter is_fifth (range_with_len 0 i))) (chord n i ∷ []))
    by false e = rw e (ap (λ (places : List ℕ). fold with_link (ring n) (map (chord n) places)) (append-nil (filter is_fifth (range_with_len 0 i))))

-- ---- the links of one router

module _ (f : Link → Option End) where
  some_more : (links : List Link) (l : Link) → length (filter_map f (with_link links l)) ≤ length (filter_map f links) + length (filter_map f (l ∷ []))
  unfolding with_link
  some_more links l = by (list_any (joins_same l) links)
    where
      by : (b : Bool) → length (filter_map f (cond b links (links ++ l ∷ []))) ≤ length (filter_map f links) + length (filter_map f (l ∷ []))
      by true = omega arith
      by false = rw (filter_map-append f links (l ∷ [])) (omega (arith, length-append (filter_map f links) (filter_map f (l ∷ []))))

  pub few_more : (links more : List Link) → length (filter_map f (fold with_link links more)) ≤ length (filter_map f links) + length (filter_map f more)
  few_more links [] = omega arith
  few_more links (l ∷ more) =
      let both = ap (λ (ends : List End). length ends) (filter_map-append f (l ∷ []) more) in
      omega (arith, some_more links l, few_more (with_link links l) more, both, length-append (filter_map f (l ∷ [])) (filter_map f more))

-- Of links from different routers, only those from three routers end at a router.
module _ (n i x y : ℕ) (f : Link → Option End) (ends : (l : Link) → is_some (f l) ≡ true → (l.a ≡ i) ⊎ (l.b ≡ i)) where
  three_at : (make : ℕ → Link) (places : List ℕ) → ((j : ℕ) → (make j).a ≡ j) → AreApart eqb places → ((j : ℕ) → IsIn j places → (make j).b ≡ i → (j ≡ x) ⊎ (j ≡ y)) → length (filter_map f (map make places)) ≤ 3
  three_at make places from differ crosses = rw (some_kept f (map make places)) (as_many (λ (l : Link). l.a) (filter (λ l. is_some (f l)) (map make places)) (i ∷ x ∷ y ∷ []) apart among)
    where
      apart : AreApart (λ (k l : Link). eqb k.a l.a) (filter (λ l. is_some (f l)) (map make places))
      apart = apart_filter (λ (k l : Link). eqb k.a l.a) (λ l. is_some (f l)) (map make places) (apart_map eqb (λ (k l : Link). eqb k.a l.a) make places (λ j k here there differ. rw (from j, from k) differ) differ)

      among : (l : Link) → IsIn l (filter (λ l. is_some (f l)) (map make places)) → IsIn l.a (i ∷ x ∷ y ∷ [])
      among l there =
          let h = in_filter (λ l. is_some (f l)) (map make places) l there in
          let m = in_map make places l h.0 in
          subst (λ (l : Link). IsIn l.a (i ∷ x ∷ y ∷ [])) m.2 (by m.0 m.1 (ends (make m.0) (ap (λ l. is_some (f l)) m.2 ∙ h.1)))
        where
          by : (j : ℕ) → IsIn j places → ((make j).a ≡ i) ⊎ ((make j).b ≡ i) → IsIn (make j).a (i ∷ x ∷ y ∷ [])
          by j there (inl e) = inl e
          by j there (inr e) = elim (crosses j there e) [ inl p ↦ inr (inl (from j ∙ p)) | inr p ↦ inr (inr (inl (from j ∙ p))) ]

-- at most three links of the ring end at one router: those that begin there, before it or at the last one
few_of_ring : (n i : ℕ) (f : Link → Option End) → ((l : Link) → is_some (f l) ≡ true → (l.a ≡ i) ⊎ (l.b ≡ i)) → length (filter_map f (ring n)) ≤ 3
unfolding ring
few_of_ring n i f ends = three_at n i (i - 1) (n - 1) f ends (ring_link n) (range_with_len 0 n) (λ j. refl) (range_apart 0 n) (λ j there e. let k = in_range 0 n j there in by j (omega (arith, k)) e (wraps n (j + 1) (omega (arith, k))))
  where
    by : (j : ℕ) → j < n → (j + 1) % n ≡ i → Wraps n (j + 1) → (j ≡ i - 1) ⊎ (j ≡ n - 1)
    by j within e (inl s) = inl (omega (arith, e, s))
    by j within e (inr s) = inr (omega (arith, within, s))

-- and at most three chords: those that begin there, or halfway around the ring before or after it
few_of_chords : (n i : ℕ) (f : Link → Option End) → ((l : Link) → is_some (f l) ≡ true → (l.a ≡ i) ⊎ (l.b ≡ i)) → length (filter_map f (map (chord n) (filter is_fifth (range_with_len 0 n)))) ≤ 3
few_of_chords n i f ends =
    three_at n i (i - n / 2) (i + n - n / 2) f ends (chord n) (filter is_fifth (range_with_len 0 n)) (λ j. refl) (apart_filter eqb is_fifth (range_with_len 0 n) (range_apart 0 n))
    (λ j there e. let k = in_range 0 n j (in_filter is_fifth (range_with_len 0 n) j there).0 in by j (omega (arith, k)) e (wraps n (j + n / 2) (omega (arith, k))))
  where
    by : (j : ℕ) → j < n → (j + n / 2) % n ≡ i → Wraps n (j + n / 2) → (j ≡ i - n / 2) ⊎ (j ≡ i + n - n / 2)
    by j within e (inl s) = inl (omega (arith, e, s))
    by j within e (inr s) = inr (omega (arith, e, s))

pub few_ends : (n i : ℕ) (f : Link → Option End) → ((l : Link) → is_some (f l) ≡ true → (l.a ≡ i) ⊎ (l.b ≡ i)) → length (filter_map f (grown_links n)) ≤ 6
unfolding grown_links
few_ends n i f ends =
    omega (arith, few_more f (ring n) (map (chord n) (filter is_fifth (range_with_len 0 n))), few_of_ring n i f ends, few_of_chords n i f ends)
