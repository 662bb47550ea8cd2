-- The BFR-ids that the packets of an injection reach, packet by packet, are those of its list, ascending.
use Rattle.std.proofs.Common.{◌≡◌, ◌⊎◌, ℕ, suc, ◌+◌, ◌-◌, ◌*◌, ◌/◌, ◌%◌, ◌^◌, ◌<◌, ◌≤◌, ◌==◌, ◌||◌, nat_le, nat_lt, not, Bool, true, false, if◌then◌else◌, List, [], ◌∷◌, ◌++◌, length, map, filter, slice_get, slice_index_or, Fits, w16, Option, Some, None, Ok, Err, inl, inr, refl, sym, ap, subst, ◌∙◌, arith}
use mathlib.Core.Bool.{false≢true, true≢false}
use Rattle.std.specs.List.{AllByRecursion, flat_map, list_any}
use Rattle.std.proofs.Math.Bool.{or-true}
use Rattle.std.proofs.Math.Nat.{div-add-mod}
use Rattle.std.proofs.lemmas.Bool.{cases_order, eq-eqb, eqb-true, le-leb, ne_eqb}
use Rattle.std.proofs.lemmas.Bool.Decides.{eqb_tells}
use Rattle.std.proofs.lemmas.List.Concat.{flat_map-cons}
use Rattle.std.proofs.lemmas.List.Elements.{filter-append}
use Rattle.wire_base.specs.declared.bsl.Bsl.{Bsl}
use Rattle.wire_base.specs.declared.faults.EdgeFault.{EdgeFault}
use Rattle.wire_base.specs.declared.faults.EdgeFault.TheVariants as edge
use Rattle.wire_base.specs.declared.triple.Triple.{Triple}
use Rattle.wire_base.specs.model.BitSet.{IsWithin, has_member, up_to, with_member}
use Rattle.wire_base.specs.model.Control.{Control}
use Rattle.wire_base.specs.model.Hop.{has}
use Rattle.wire_base.specs.model.Ingress.{edge_fault, id_set, ids_of_set, packet_for, packets_for, sets_of}
use Rattle.wire_base.specs.model.Item.{positions_of}
use Rattle.wire_base.specs.model.Place.{bit_position, bits_of, id_at, set_identifier}
use Rattle.wire_base.proofs.SetLaws.{has_head}
use Rattle.bfr_edge.specs.Entry.{Refuses, placed}
use Rattle.bfr_edge.proofs.GroupLaws.{Climbs, Rises, has-distinct, none-early, rises-id_set, sets-rise, some-bits, div-le}
use Rattle.domain_model.specs.Moves.{listed}
use Rattle.domain_model.proofs.IdLaws.{ids_all}
use Rattle.domain_model.specs.World.{WorldState}
use Rattle.domain_model.proofs.EachLaws.{each_both, each_got, each_kept, each_passing, each_weaker}
use Rattle.domain_model.specs.Truth.{IsTrueControl, IsTruthful, confs_now, domain_now}
use Rattle.wire_base.specs.model.View.{control_view}
use Rattle.laws_course.specs.Course.{own_node}
use Rattle.laws_course.proofs.KnownLaws.{known_of}
use Rattle.laws_quiet.specs.Cover.{covers_id, reaches_in}
use Rattle.domain_core.specs.Cover.{EntryPoint, Rejects, cover_of, covered_ids, entry_at, reached_at, reached_by, reaches_from, unless_refused}

-- ---- numbers in groups

climbs_lower : (a low : ℕ) (xs : List ℕ) → a ≤ low → Climbs low xs → Climbs a xs
climbs_lower a low [] le is = tt
climbs_lower a low (x ∷ xs) le is = (omega (arith, is.0, le), is.1)

-- numbers above s are none of its group
none_of : (f : ℕ → ℕ) (s low : ℕ) (xs : List ℕ) → s < low → Climbs low (map f xs) → filter (λ x. f x == s) xs ≡ []
none_of f s low [] lt is = refl
none_of f s low (x ∷ xs) lt is = rw (ne_eqb (f x) s (λ e. omega (arith, is.0, lt, e))) (none_of f s (f x) xs (omega (arith, is.0, lt)) is.1)

all_others : (f : ℕ → ℕ) (s low : ℕ) (xs : List ℕ) → s < low → Climbs low (map f xs) → filter (λ x. not (f x == s)) xs ≡ xs
all_others f s low [] lt is = refl
all_others f s low (x ∷ xs) lt is = rw (ne_eqb (f x) s (λ e. omega (arith, is.0, lt, e))) (ap (λ (l : List ℕ). x ∷ l) (all_others f s (f x) xs (omega (arith, is.0, lt)) is.1))

-- the least group, and the others after it
apart : (f : ℕ → ℕ) (s : ℕ) (xs : List ℕ) → Climbs s (map f xs) → filter (λ x. f x == s) xs ++ filter (λ x. not (f x == s)) xs ≡ xs
apart f s [] is = refl
apart f s (x ∷ xs) is = elim (eqb_tells (f x) s) [
  | inl same ↦ rw same.0 (ap (λ (l : List ℕ). x ∷ l) (apart f s xs (climbs_lower s (f x) (map f xs) (omega (arith, same.1)) is.1)))
  | inr differs ↦ (let above : s < f x = elim (cases_order s (f x)) [
    | inl e ↦ absurd (differs.1 (sym e))
    | inr other ↦ elim other [ inl lt ↦ lt | inr gt ↦ absurd (omega (arith, gt, is.0)) ]
  ] in rw (differs.0, none_of f s (f x) xs above is.1) (ap (λ (l : List ℕ). x ∷ l) (all_others f s (f x) xs above is.1)))
]

others_climb : (f : ℕ → ℕ) (s : ℕ) (xs : List ℕ) → Climbs s (map f xs) → Climbs (suc s) (map f (filter (λ x. not (f x == s)) xs))
others_climb f s [] is = tt
others_climb f s (x ∷ xs) is = elim (eqb_tells (f x) s) [
  | inl same ↦ rw same.0 (others_climb f s xs (climbs_lower s (f x) (map f xs) (omega (arith, same.1)) is.1))
  | inr differs ↦ (let above : s < f x = elim (cases_order s (f x)) [
    | inl e ↦ absurd (differs.1 (sym e))
    | inr other ↦ elim other [ inl lt ↦ lt | inr gt ↦ absurd (omega (arith, gt, is.0)) ]
  ] in rw (differs.0, all_others f s (f x) xs above is.1) (omega (arith, above), is.1))
]

abbrev pub group : (ℕ → ℕ) → List ℕ → ℕ → List ℕ
group f xs s = filter (λ x. f x == s) xs

-- the groups above s are those of the others
same_group : (f : ℕ → ℕ) (s t : ℕ) (xs : List ℕ) → s < t → group f xs t ≡ group f (filter (λ x. not (f x == s)) xs) t
same_group f s t [] lt = refl
same_group f s t (x ∷ xs) lt = elim (eqb_tells (f x) s) [
  | inl same ↦ rw (same.0, ne_eqb (f x) t (λ e. omega (arith, same.1, e, lt))) (same_group f s t xs lt)
  | inr differs ↦ rw differs.0 (by (f x == t) (same_group f s t xs lt))
]
  where
    by : (b : Bool) → group f xs t ≡ group f (filter (λ y. not (f y == s)) xs) t → (if b then x ∷ group f xs t else group f xs t) ≡ (if b then x ∷ group f (filter (λ y. not (f y == s)) xs) t else group f (filter (λ y. not (f y == s)) xs) t)
    by true more = ap (λ (l : List ℕ). x ∷ l) more
    by false more = more

same_groups : (f : ℕ → ℕ) (s low : ℕ) (ss xs : List ℕ) → s < low → Rises low ss → flat_map (group f xs) ss ≡ flat_map (group f (filter (λ x. not (f x == s)) xs)) ss
same_groups f s low [] xs lt is = refl
same_groups f s low (t ∷ ss) xs lt is =
    rw (flat_map-cons (group f xs) t ss, flat_map-cons (group f (filter (λ x. not (f x == s)) xs)) t ss, same_group f s t xs (omega (arith, lt, is.0)), same_groups f s (suc t) ss xs (omega (arith, lt, is.0)) is.1) refl

abbrev pub AreIn : (ℕ → ℕ) → List ℕ → List ℕ → Type 0
AreIn f ss xs = AllByRecursion (λ x. has_member (f x) ss ≡ true) xs

-- what is in a list that rises is not below its bound
not_early : (n low : ℕ) (ss : List ℕ) → Rises low ss → has_member n ss ≡ true → low ≤ n
not_early n low ss is has = elim (cases_order low n) [
  | inl e ↦ omega (arith, e)
  | inr other ↦ elim other [ inl lt ↦ omega (arith, lt) | inr gt ↦ absurd (true≢false (sym has ∙ none-early n low ss gt is)) ]
]

-- the groups of numbers that climb, one after the other, are the numbers
grouped : (f : ℕ → ℕ) (ss xs : List ℕ) (low : ℕ) → Rises low ss → Climbs low (map f xs) → AreIn f ss xs → flat_map (group f xs) ss ≡ xs
grouped f [] [] low is climbs there = refl
grouped f [] (x ∷ xs) low is climbs there = absurd (false≢true there.0)
grouped f (s ∷ ss) xs low is climbs there =
    flat_map-cons (group f xs) s ss
    ∙ ap (λ (l : List ℕ). group f xs s ++ l) (same_groups f s (suc s) ss xs (omega arith) is.1 ∙ grouped f ss (filter (λ x. not (f x == s)) xs) (suc s) is.1 (others_climb f s xs (from xs climbs there)) others_in)
    ∙ apart f s xs (from xs climbs there)
  where
    from : (ys : List ℕ) → Climbs low (map f ys) → AreIn f (s ∷ ss) ys → Climbs s (map f ys)
    from [] h k = tt
    from (y ∷ ys) h k = (not_early (f y) s (s ∷ ss) (omega arith, is.1) k.0, h.1)

    left : (a b : Bool) → (a || b) ≡ true → not a ≡ true → b ≡ true
    left true b h k = absurd (false≢true k)
    left false b h k = h

    others_in : AreIn f ss (filter (λ x. not (f x == s)) xs)
    others_in =
        each_weaker (λ x. (has_member (f x) (s ∷ ss) ≡ true) × (not (f x == s) ≡ true)) (λ x. has_member (f x) ss ≡ true) (λ x h. left (f x == s) (has_member (f x) ss) h.0 h.1) (filter (λ x. not (f x == s)) xs)
        (each_both (λ x. has_member (f x) (s ∷ ss) ≡ true) (λ x. not (f x == s) ≡ true) (filter (λ x. not (f x == s)) xs)
        (each_kept (λ x. has_member (f x) (s ∷ ss) ≡ true) (λ x. not (f x == s)) xs there)
        (each_passing (λ x. not (f x == s)) xs))

-- ---- the sets of BFR-ids

rises_lower : (a low : ℕ) (xs : List ℕ) → a ≤ low → Rises low xs → Rises a xs
rises_lower a low [] le is = tt
rises_lower a low (x ∷ xs) le is = (omega (arith, is.0, le), is.1)

sets_climb : (bits low : ℕ) (ids : List ℕ) → 0 < bits → Rises low ids → Climbs (set_identifier bits low) (map (set_identifier bits) ids)
sets_climb bits low [] some is = tt
sets_climb bits low (k ∷ ks) some is =
    (div-le (low - 1) (k - 1) bits some (omega (arith, is.0)), sets_climb bits k ks some (rises_lower k (suc k) ks (omega arith) is.1))

mapped_in : (f : ℕ → ℕ) (xs : List ℕ) → AreIn f (map f xs) xs
mapped_in f [] = tt
mapped_in f (x ∷ xs) =
    (has_head (f x) (map f xs), each_weaker (λ y. has_member (f y) (map f xs) ≡ true) (λ y. has_member (f y) (f x ∷ map f xs) ≡ true) (λ y h. rw h (or-true (f y == f x))) xs (mapped_in f xs))

module _ (bsl : Bsl) (ids : List ℕ) (none : list_any (λ j. j == 0) ids ≡ false) where
  abbrev si_of : ℕ → ℕ
  si_of = set_identifier (bits_of bsl)

  sets_cover : AreIn si_of (sets_of bsl ids) (id_set ids)
  sets_cover =
      each_weaker (λ y. has_member (si_of y) (map si_of (id_set ids)) ≡ true) (λ y. has_member (si_of y) (sets_of bsl ids) ≡ true) (λ y h. has-distinct (si_of y) (map si_of (id_set ids)) ∙ h) (id_set ids)
      (mapped_in si_of (id_set ids))

  pub sets_whole : flat_map (ids_of_set bsl ids) (sets_of bsl ids) ≡ id_set ids
  sets_whole =
      grouped si_of (sets_of bsl ids) (id_set ids) 0 (sets-rise bsl ids none)
      (climbs_lower 0 (si_of 1) (map si_of (id_set ids)) (omega arith) (sets_climb (bits_of bsl) 1 (id_set ids) (some-bits bsl) (rises-id_set ids none)))
      sets_cover

-- ---- the BFR-ids of one set

-- a BFR-id of the set s
pub record IsIdOf (bits s k : ℕ) : Type 0 where
  pub some : 1 ≤ k
  pub fits : k < 2 ^ 16
  pub set : set_identifier bits k ≡ s

id_back : (bits s k : ℕ) → IsIdOf bits s k → s * bits + bit_position bits k ≡ k
id_back bits s k h = by ((k - 1) / bits) ((k - 1) % bits) h.set (div-add-mod (k - 1) bits)
  where
    by : (q r : ℕ) → q ≡ s → bits * q + r ≡ k - 1 → s * bits + (r + 1) ≡ k
    by q r e whole = subst (λ (x : ℕ). x * bits + (r + 1) ≡ k) e (summed (q * bits) r (rw (comm q bits) whole))
      where
        comm : (a b : ℕ) → a * b ≡ b * a
        comm a b = omega arith

        summed : (m r : ℕ) → m + r ≡ k - 1 → m + (r + 1) ≡ k
        summed m r e = omega (arith, e, h.some)

ids_back : (t : Triple) (ks : List ℕ) → AllByRecursion (IsIdOf (bits_of t.bsl) t.si) ks → listed (map (id_at t) (positions_of t ks)) ≡ ks
ids_back t [] all = refl
ids_back t (k ∷ ks) all =
    let back : id_at t (bit_position (bits_of t.bsl) k) ≡ k = id_back (bits_of t.bsl) t.si k all.0 in
    let h = all.0 in
    let small : nat_le k 65535 ≡ true = le-leb k 65535 (omega (arith, h.fits)) in
    rw (back, small) (ap (λ (l : List ℕ). k ∷ l) (ids_back t ks all.1))

each_with : (P : ℕ → Type 0) (k : ℕ) (xs : List ℕ) → P k → AllByRecursion P xs → AllByRecursion P (with_member k xs)
each_with P k [] p all = (p, tt)
each_with P k (x ∷ xs) p all = by (nat_lt k x) (k == x) (each_with P k xs p all.1)
  where
    by : (a b : Bool) → AllByRecursion P (with_member k xs) → AllByRecursion P (if a then k ∷ x ∷ xs else if b then x ∷ xs else x ∷ with_member k xs)
    by true b more = (p, all)
    by false true more = all
    by false false more = (all.0, more)

each_of_set : (P : ℕ → Type 0) (ids : List ℕ) → AllByRecursion P ids → AllByRecursion P (id_set ids)
each_of_set P [] all = tt
each_of_set P (k ∷ ks) all = each_with P k (id_set ks) all.0 (each_of_set P ks all.1)

each_above : (low a : ℕ) (xs : List ℕ) → a ≤ low → Rises low xs → AllByRecursion (λ k. a ≤ k) xs
each_above low a [] le is = tt
each_above low a (x ∷ xs) le is = (omega (arith, is.0, le), each_above (suc x) a xs (omega (arith, is.0, le)) is.1)

filter_flat : (p : ℕ → Bool) (g : ℕ → List ℕ) (ss : List ℕ) → flat_map (λ s. filter p (g s)) ss ≡ filter p (flat_map g ss)
filter_flat p g [] = refl
filter_flat p g (s ∷ ss) =
    flat_map-cons (λ t. filter p (g t)) s ss
    ∙ ap (λ (l : List ℕ). filter p (g s) ++ l) (filter_flat p g ss)
    ∙ sym (filter-append p (g s) (flat_map g ss))
    ∙ ap (filter p) (sym (flat_map-cons g s ss))

-- ---- what packets reach

module _ (c : Control) (sd : ℕ) (bsl : Bsl) (ids : List ℕ) (ttl entropy : ℕ) (none : list_any (λ j. j == 0) ids ≡ false) (fit : AllByRecursion (λ k. k < 2 ^ 16) ids) where
  abbrev bits : ℕ
  bits = bits_of bsl

  abbrev triple : ℕ → Triple
  triple s = record { sd = sd; bsl = bsl; si = s }

  are_ids : (s : ℕ) → AllByRecursion (IsIdOf bits s) (ids_of_set bsl ids s)
  are_ids s =
      each_weaker (λ k. ((1 ≤ k) × (k < 2 ^ 16)) × ((set_identifier bits k == s) ≡ true)) (IsIdOf bits s) (λ k h. record { some = h.0.0; fits = h.0.1; set = eqb-true (set_identifier bits k) s h.1 }) (ids_of_set bsl ids s)
      (each_both (λ k. (1 ≤ k) × (k < 2 ^ 16)) (λ k. (set_identifier bits k == s) ≡ true) (ids_of_set bsl ids s)
      (each_kept (λ k. (1 ≤ k) × (k < 2 ^ 16)) (λ k. set_identifier bits k == s) (id_set ids)
      (each_both (λ k. 1 ≤ k) (λ k. k < 2 ^ 16) (id_set ids) (each_above 1 1 (id_set ids) (omega arith) (rises-id_set ids none)) (each_of_set (λ k. k < 2 ^ 16) ids fit)))
      (each_passing (λ k. set_identifier bits k == s) (id_set ids)))

  same_test : (s : ℕ) (ks : List ℕ) → AllByRecursion (IsIdOf bits s) ks → filter (reaches_from (entry_at c ttl entropy) (triple s)) ks ≡ filter (covers_id c sd bsl ttl entropy) ks
  same_test s [] all = refl
  same_test s (k ∷ ks) all =
      let h = all.0 in
      let same : reaches_in c (triple s) ttl (entropy % 16) k ≡ covers_id c sd bsl ttl entropy k = ap (λ (n : ℕ). reaches_in c (triple n) ttl (entropy % 16) k) (sym h.set) in
      by (reaches_in c (triple s) ttl (entropy % 16) k) refl (covers_id c sd bsl ttl entropy k) refl same (same_test s ks all.1)
    where
      by : (a : Bool) → reaches_in c (triple s) ttl (entropy % 16) k ≡ a → (b : Bool) → covers_id c sd bsl ttl entropy k ≡ b → reaches_in c (triple s) ttl (entropy % 16) k ≡ covers_id c sd bsl ttl entropy k
          → filter (reaches_from (entry_at c ttl entropy) (triple s)) ks ≡ filter (covers_id c sd bsl ttl entropy) ks
          → filter (reaches_from (entry_at c ttl entropy) (triple s)) (k ∷ ks) ≡ filter (covers_id c sd bsl ttl entropy) (k ∷ ks)
      by true p true q same more = rw (p, q) (ap (λ (l : List ℕ). k ∷ l) more)
      by false p false q same more = rw (p, q) more
      by true p false q same more = absurd (true≢false (sym p ∙ same ∙ q))
      by false p true q same more = absurd (false≢true (sym p ∙ same ∙ q))

  one_packet : (s : ℕ) → reached_at (entry_at c ttl entropy) (triple s) (positions_of (triple s) (ids_of_set bsl ids s)) ≡ filter (covers_id c sd bsl ttl entropy) (ids_of_set bsl ids s)
  one_packet s =
      ap (filter (reaches_from (entry_at c ttl entropy) (triple s))) (ids_back (triple s) (ids_of_set bsl ids s) (are_ids s))
      ∙ same_test s (ids_of_set bsl ids s) (are_ids s)

  packets_from : (ss : List ℕ) → reached_by (entry_at c ttl entropy) (map placed (map (packet_for sd bsl ids) ss)) ≡ flat_map (λ s. filter (covers_id c sd bsl ttl entropy) (ids_of_set bsl ids s)) ss
  packets_from [] = refl
  packets_from (s ∷ ss) =
      flat_map-cons (λ p. reached_at (entry_at c ttl entropy) p.triple p.positions) (placed (packet_for sd bsl ids s)) (map placed (map (packet_for sd bsl ids) ss))
      ∙ ap (λ (l : List ℕ). l ++ reached_by (entry_at c ttl entropy) (map placed (map (packet_for sd bsl ids) ss))) (one_packet s)
      ∙ ap (λ (l : List ℕ). filter (covers_id c sd bsl ttl entropy) (ids_of_set bsl ids s) ++ l) (packets_from ss)
      ∙ sym (flat_map-cons (λ t. filter (covers_id c sd bsl ttl entropy) (ids_of_set bsl ids t)) s ss)

  pub packets_reach : reached_by (entry_at c ttl entropy) (map placed (packets_for sd bsl ids)) ≡ covered_ids c sd bsl ids ttl entropy
  unfolding packets_for
  packets_reach =
      packets_from (sets_of bsl ids)
      ∙ filter_flat (covers_id c sd bsl ttl entropy) (ids_of_set bsl ids) (sets_of bsl ids)
      ∙ ap (filter (covers_id c sd bsl ttl entropy)) (sets_whole bsl ids none)

-- ---- positions

-- all positions
pub reached_all : (e : EntryPoint) (t : Triple) (set : List ℕ) (n : ℕ) → IsWithin 0 n set → reached_at e t (filter (λ p. has_member p set) (up_to n)) ≡ reached_at e t set
reached_all e t set n within = ap (filter (reaches_from e t)) (ids_all t set n within)

-- ---- the answer

module _ (w : WorldState) (a : ℕ) (c : Control) (at : slice_get w.routers a ≡ Some c) (sd : ℕ) (bsl : Bsl) (ids : List ℕ) (ttl entropy : ℕ) where
  pub cover_is : cover_of w a sd bsl ids ttl entropy ≡ unless_refused (edge_fault c.conf sd bsl ids) (covered_ids c sd bsl ids ttl entropy)
  unfolding cover_of
  cover_is = rw at refl

  pub cover_found : edge_fault c.conf sd bsl ids ≡ None → cover_of w a sd bsl ids ttl entropy ≡ Ok (covered_ids c sd bsl ids ttl entropy)
  cover_found none = cover_is ∙ ap (λ (o : Option EdgeFault). unless_refused o (covered_ids c sd bsl ids ttl entropy)) none

  refused_by : (e : EdgeFault) → edge_fault c.conf sd bsl ids ≡ Some e → cover_of w a sd bsl ids ttl entropy ≡ Err e
  refused_by e is = cover_is ∙ ap (λ (o : Option EdgeFault). unless_refused o (covered_ids c sd bsl ids ttl entropy)) is

  pub cover_refused : (e : EdgeFault) → Refuses (edge_fault c.conf sd bsl ids) e → Rejects (cover_of w a sd bsl ids ttl entropy) e
  cover_refused edge.NoEgress h = refused_by edge.NoEgress h
  cover_refused edge.IdZero h = refused_by edge.IdZero h
  cover_refused (edge.SiLarge k) h = refused_by (edge.SiLarge k) h
  cover_refused edge.NotBfr h = refused_by edge.NotBfr h
  cover_refused edge.BslUnknown h = refused_by edge.BslUnknown h
  cover_refused edge.Memory h = tt

-- numbers of 16 bits, each by its index
pub each_fits : (ks : List ℕ) → ((i : ℕ) → Fits w16 (slice_index_or ks i 0)) → AllByRecursion (λ k. k < 2 ^ 16) ks
each_fits [] fits = tt
each_fits (k ∷ ks) fits = (let first = fits 0 in omega (arith, first), each_fits ks (λ i. fits (suc i)))

-- a router has a node in its own topology
pub own_there : (w : WorldState) → IsTruthful w → (a : ℕ) (c : Control) → slice_get w.routers a ≡ Some c → own_node c < length (control_view c)
own_there w truth a c at = (known_of (domain_now w) truth.now c (each_got (IsTrueControl (confs_now w)) w.routers a c truth.controls at)).own

-- what is covered was named, and packets reach it
covered_parts : (p : ℕ → Bool) (xs : List ℕ) (k : ℕ) → has (filter p xs) k ≡ true → (has xs k ≡ true) × (p k ≡ true)
covered_parts p [] k h = absurd (false≢true h)
covered_parts p (x ∷ xs) k h = by (p x) refl h (λ later. covered_parts p xs k later)
  where
    by : (b : Bool) → p x ≡ b → has (filter p (x ∷ xs)) k ≡ true → (has (filter p xs) k ≡ true → (has xs k ≡ true) × (p k ≡ true)) → (has (x ∷ xs) k ≡ true) × (p k ≡ true)
    by false e h later = let more = later (subst (λ (b : Bool). has (if b then x ∷ filter p xs else filter p xs) k ≡ true) e h) in (rw more.0 (or-true (x == k)), more.1)
    by true e h later = elim (eqb_tells x k) [
      | inl same ↦ (rw same.0 refl, ap p (sym same.1) ∙ e)
      | inr differs ↦ (let there : ((x == k) || has (filter p xs) k) ≡ true = subst (λ (b : Bool). has (if b then x ∷ filter p xs else filter p xs) k ≡ true) e h in
          let more = later (subst (λ (b : Bool). (b || has (filter p xs) k) ≡ true) differs.0 there) in
          (rw differs.0 more.0, more.1))
    ]

has_with : (k j : ℕ) (xs : List ℕ) → has (with_member j xs) k ≡ true → (has xs k ≡ true) ⊎ (j ≡ k)
has_with k j [] h = elim (eqb_tells j k) [ inl same ↦ inr same.1 | inr differs ↦ absurd (false≢true (subst (λ (b : Bool). (b || false) ≡ true) differs.0 h)) ]
has_with k j (x ∷ xs) h = by (nat_lt j x) (j == x) h (λ later. has_with k j xs later)
  where
    head : (b : Bool) (ys : List ℕ) → (x == k) ≡ b → has (x ∷ ys) k ≡ true → (has ys k ≡ true → (has xs k ≡ true) ⊎ (j ≡ k)) → (has (x ∷ xs) k ≡ true) ⊎ (j ≡ k)
    head true ys e h more = inl (rw e refl)
    head false ys e h more = elim (more (subst (λ (b : Bool). (b || has ys k) ≡ true) e h)) [ inl p ↦ inl (rw e p) | inr q ↦ inr q ]

    by : (a b : Bool) → has (if a then j ∷ x ∷ xs else if b then x ∷ xs else x ∷ with_member j xs) k ≡ true → (has (with_member j xs) k ≡ true → (has xs k ≡ true) ⊎ (j ≡ k)) → (has (x ∷ xs) k ≡ true) ⊎ (j ≡ k)
    by true b h later = elim (eqb_tells j k) [ inl same ↦ inr same.1 | inr differs ↦ inl (subst (λ (b : Bool). (b || has (x ∷ xs) k) ≡ true) differs.0 h) ]
    by false true h later = inl h
    by false false h later = head (x == k) (with_member j xs) refl h later

-- what is in the set was named
pub set_names : (ids : List ℕ) (k : ℕ) → has (id_set ids) k ≡ true → has ids k ≡ true
set_names [] k h = absurd (false≢true h)
set_names (j ∷ ids) k h = elim (has_with k j (id_set ids) h) [
  | inl more ↦ rw (set_names ids k more) (or-true (j == k))
  | inr same ↦ rw (eq-eqb j k same) refl
]

pub covered_named : (c : Control) (sd : ℕ) (bsl : Bsl) (ids : List ℕ) (ttl entropy k : ℕ) → has (covered_ids c sd bsl ids ttl entropy) k ≡ true → (has ids k ≡ true) × (covers_id c sd bsl ttl entropy k ≡ true)
covered_named c sd bsl ids ttl entropy k h =
    let parts = covered_parts (covers_id c sd bsl ttl entropy) (id_set ids) k h in
    (set_names ids k parts.0, parts.1)
