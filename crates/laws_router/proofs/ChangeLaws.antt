-- The three changes of a configuration keep it sound, and keep BFR-ids and label ranges.
use Rattle.std.proofs.Common.{◌≡◌, ℕ, zero, suc, ◌+◌, ◌*◌, ◌<◌, ◌≤◌, ◌==◌, nat_le, Bool, true, false, ◌||◌, List, [], ◌∷◌, ◌++◌, length, Option, Some, None, is_some, option_map, option_and_then, refl, ap, sym, ◌∙◌, subst, inl, inr, arith, append_assoc}
use Rattle.std.specs.List.{AllByRecursion, Contains, find, list_any, range_with_len}
use Rattle.std.proofs.lemmas.Bool.{true≢false, false≢true, leb-true, le-leb, and_parts, and_from, cases_Bool, cases_lt, cond-true, cond-false, false_from_ne_true, eq-eqb, or_left}
use Rattle.std.proofs.lemmas.List.{append-nil, length-append, map-append}
use Rattle.std.proofs.lemmas.List.Concat.{flat_map-append}
use Rattle.std.proofs.lemmas.Option.{same_Some}
use Rattle.wire_base.specs.declared.limits.TheConstants.{MOST_RELABELS, MOST_SUB_OCTETS, MOST_SUBDOMAINS}
use Rattle.wire_base.specs.declared.bsl.Bsl.{Bsl}
use Rattle.wire_base.specs.declared.conf.Kind.{Kind}
use Rattle.wire_base.specs.declared.conf.Kind.TheVariants.{Mpls, Configured}
use Rattle.wire_base.specs.declared.conf.LabelRange.{LabelRange}
use Rattle.wire_base.specs.declared.conf.OwnSub.{OwnSub}
use Rattle.wire_base.specs.declared.conf.PastRange.{PastRange}
use Rattle.wire_base.specs.declared.conf.RouterConf.{RouterConf}
use Rattle.wire_base.specs.model.Lists.{AreApart}
use Rattle.wire_base.specs.model.Configuration.{same_length, same_sub, share_label, share_range, sub_octets, IsLabelRange, IsOwnSub, IsPastRange, IsSound, MayStand, KeepsKinds}
use Rattle.wire_base.specs.model.Membership.{range_for, own_range, moved, ranges_moved, subs_moved, past_with, relabelled, subs_without, subs_with, left, rejoined, is_used, used_label, CanRelabel}
use Rattle.wire_base.specs.model.Place.{code_of, kind_of, sub_in, known_subs, placed, ranges_of, known_ranges, is_label_of}
use Rattle.laws_router.specs.Becoming.{IsLater}
use Rattle.laws_router.proofs.ListLaws.{no_None, each_contained, each_itself, all_without, all_at, all_replaced, sum_replaced, length_replaced, apart_with, apart_replaced, IsSwapped, turned_swap, all_swapped, apart_swapped, sum_swapped, length_swapped, contains_swapped, flat_swapped}
use Rattle.laws_router.proofs.SubLaws.{same_sub_turned, sub_named, none_after, sub_swapped, IsSplit, sub_split}
use Rattle.wire_base.proofs.SoundLemmas.{all_both, apart_left, apart_right}

-- ---- label ranges by their sub-domains

share_turned : (x y : PastRange) → share_range x y ≡ false → share_range y x ≡ false
share_turned x y e = false_from_ne_true _ (λ h. let p = and_parts (nat_le y.range.label (x.range.label + x.range.max_si)) (nat_le x.range.label (y.range.label + y.range.max_si)) h in false≢true (sym e ∙ and_from (nat_le x.range.label (y.range.label + y.range.max_si)) (nat_le y.range.label (x.range.label + x.range.max_si)) p.1 p.0))

ranges_both : (xs ys : List OwnSub) (past : List PastRange) → ranges_of (xs ++ ys) ++ past ≡ ranges_of xs ++ (ranges_of ys ++ past)
ranges_both xs ys past = ap (λ l. l ++ past) (flat_map-append (λ (s : OwnSub). placed s.sd s.ranges) xs ys) ∙ append_assoc (ranges_of xs) (ranges_of ys) past

-- ---- a configuration with other sub-domains and ranges

-- what soundness says of sub-domains and ranges
record AreMembers (subs away : List OwnSub) (past : List PastRange) : Type 0 where
  few_subs : length (subs ++ away) ≤ MOST_SUBDOMAINS
  each : AllByRecursion IsOwnSub (subs ++ away)
  apart : AreApart same_sub (subs ++ away)
  few_past : length past ≤ MOST_RELABELS
  each_past : AllByRecursion IsPastRange past
  labels : AreApart share_range (ranges_of subs ++ (ranges_of away ++ past))
  room : sub_octets (subs ++ away) ≤ MOST_SUB_OCTETS

sound_with : (r : RouterConf) (subs away : List OwnSub) (past : List PastRange) → IsSound r → AreMembers subs away past → IsSound (record r { subs = subs; away = away; past = past })
sound_with r subs away past s m =
    record {
      area = s.area;
      name = s.name;
      system = s.system;
      prefix = s.prefix;
      few_subs = m.few_subs;
      subs = m.each;
      subdomains = m.apart;
      few_past = m.few_past;
      past = m.each_past;
      labels = m.labels;
      room = m.room;
      kinds = s.kinds;
      kinds_once = s.kinds_once;
      rows = s.rows;
      triples = s.triples;
      bifts = s.bifts;
      few_ends = s.few_ends;
      ends = s.ends;
      peers = s.peers;
      peer_macs = s.peer_macs;
    }

-- ---- the same sub-domains in another order

octets_swapped : (xs ys : List OwnSub) → IsSwapped xs ys → sub_octets ys ≡ sub_octets xs
unfolding sub_octets
octets_swapped xs ys s = sum_swapped (λ (s : OwnSub). 7 + 6 * length s.ranges) xs ys s

module _ (r : RouterConf) (subs away : List OwnSub) (s : IsSwapped (known_subs r) (subs ++ away)) (sound : IsSound r) where
  other_ranges : List PastRange
  other_ranges = ranges_of subs ++ (ranges_of away ++ r.past)

  ranges_swapped : IsSwapped (known_ranges r) other_ranges
  unfolding other_ranges
  ranges_swapped =
      subst (λ l. IsSwapped l (ranges_of subs ++ (ranges_of away ++ r.past))) (ranges_both r.subs r.away r.past)
      (subst (λ l. IsSwapped (ranges_of (known_subs r) ++ r.past) l) (ranges_both subs away r.past) (flat_swapped (λ (x : OwnSub). placed x.sd x.ranges) (known_subs r) (subs ++ away) r.past s))

  sound_reordered : IsSound (record r { subs = subs; away = away })
  unfolding other_ranges
  sound_reordered =
      sound_with r subs away r.past sound (record {
        few_subs = subst (λ n. n ≤ MOST_SUBDOMAINS) (sym (length_swapped (known_subs r) (subs ++ away) s)) sound.few_subs;
        each = all_swapped IsOwnSub (known_subs r) (subs ++ away) s sound.subs;
        apart = apart_swapped same_sub same_sub_turned (known_subs r) (subs ++ away) s sound.subdomains;
        few_past = sound.few_past;
        each_past = sound.past;
        labels = apart_swapped share_range share_turned (known_ranges r) other_ranges ranges_swapped sound.labels;
        room = subst (λ n. n ≤ MOST_SUB_OCTETS) (sym (octets_swapped (known_subs r) (subs ++ away) s)) sound.room;
      })

  reordered : KeepsKinds r → IsLater r (record r { subs = subs; away = away })
  unfolding other_ranges
  reordered kinds =
      record {
        one = refl;
        sound = sound_reordered;
        kinds = record { subs = all_swapped (λ (x : OwnSub). MayStand (kind_of r.kinds x.sd) x.ranges) (known_subs r) (subs ++ away) s kinds.subs; rows = kinds.rows };
        ids = λ sd. ap (option_map (λ (x : OwnSub). x.id)) (sub_swapped (known_subs r) (subs ++ away) sd s sound.subdomains);
        ranges = λ x c. each_contained (Contains other_ranges) (known_ranges r) x c.0 (contains_swapped (known_ranges r) other_ranges ranges_swapped) c.1 c.2;
      }

-- ---- a sub-domain that is left or joined

some_is : {X : Type 0} (o : Option X) → is_some o ≡ true → (x : X) × (o ≡ Some x)
some_is None e = absurd (false≢true e)
some_is (Some x) e = (x, refl)

left_swap : (subs away : List OwnSub) (sd : ℕ) (s : OwnSub) → IsSplit subs sd s → IsSwapped (subs ++ away) (subs_without sd subs ++ (away ++ s ∷ []))
left_swap subs away sd s p =
    record {
      before = p.before;
      first = s ∷ [];
      second = p.after ++ away;
      after = [];
      was = ap (λ l. l ++ away) p.is ∙ append_assoc p.before (s ∷ p.after) away ∙ ap (λ l. p.before ++ s ∷ l) (sym (append-nil (p.after ++ away)));
      is = ap (λ l. l ++ (away ++ s ∷ [])) p.without ∙ append_assoc p.before p.after (away ++ s ∷ []) ∙ ap (λ l. p.before ++ l) (sym (append_assoc p.after away (s ∷ [])));
    }

joined_swap : (subs away : List OwnSub) (sd : ℕ) (s : OwnSub) → IsSplit away sd s → IsSwapped (subs ++ away) ((subs ++ s ∷ []) ++ subs_without sd away)
joined_swap subs away sd s p =
    record {
      before = subs;
      first = p.before;
      second = s ∷ [];
      after = p.after;
      was = ap (λ l. subs ++ l) p.is;
      is = append_assoc subs (s ∷ []) (subs_without sd away) ∙ ap (λ l. subs ++ s ∷ l) p.without;
    }

module _ (r : RouterConf) (sd : ℕ) (sound : IsSound r) where
  module _ (some : is_some (sub_in r.subs sd) ≡ true) where
    left_sub : (s : OwnSub) × (sub_in r.subs sd ≡ Some s)
    left_sub = some_is (sub_in r.subs sd) some

    left_to : (P : RouterConf → Type 0) → ((s : OwnSub) → IsSwapped (known_subs r) (subs_without sd r.subs ++ (r.away ++ s ∷ [])) → P (record r { subs = subs_without sd r.subs; away = r.away ++ s ∷ [] })) → P (left r sd)
    unfolding left left_sub
    left_to P f =
        subst (λ o. P (record r { subs = subs_without sd r.subs; away = subs_with r.away o })) (sym left_sub.1)
        (f left_sub.0 (left_swap r.subs r.away sd left_sub.0 (sub_split r.subs sd left_sub.0 (apart_left same_sub r.subs r.away sound.subdomains) left_sub.1)))

    pub leave_sound : IsSound (left r sd)
    leave_sound = left_to IsSound (λ s swap. sound_reordered r (subs_without sd r.subs) (r.away ++ s ∷ []) swap sound)

    leave_kept : KeepsKinds r → IsLater r (left r sd)
    leave_kept kinds = left_to (IsLater r) (λ s swap. reordered r (subs_without sd r.subs) (r.away ++ s ∷ []) swap sound kinds)

  module _ (some : is_some (sub_in r.away sd) ≡ true) where
    joined_sub : (s : OwnSub) × (sub_in r.away sd ≡ Some s)
    joined_sub = some_is (sub_in r.away sd) some

    joined_to : (P : RouterConf → Type 0) → ((s : OwnSub) → IsSwapped (known_subs r) ((r.subs ++ s ∷ []) ++ subs_without sd r.away) → P (record r { subs = r.subs ++ s ∷ []; away = subs_without sd r.away })) → P (rejoined r sd)
    unfolding rejoined joined_sub
    joined_to P f =
        subst (λ o. P (record r { subs = subs_with r.subs o; away = subs_without sd r.away })) (sym joined_sub.1)
        (f joined_sub.0 (joined_swap r.subs r.away sd joined_sub.0 (sub_split r.away sd joined_sub.0 (apart_right same_sub r.subs r.away sound.subdomains) joined_sub.1)))

    pub join_sound : IsSound (rejoined r sd)
    join_sound = joined_to IsSound (λ s swap. sound_reordered r (r.subs ++ s ∷ []) (subs_without sd r.away) swap sound)

    join_kept : KeepsKinds r → IsLater r (rejoined r sd)
    join_kept kinds = joined_to (IsLater r) (λ s swap. reordered r (r.subs ++ s ∷ []) (subs_without sd r.away) swap sound kinds)

pub leave_later : (r : RouterConf) (sd : ℕ) → IsSound r → KeepsKinds r → is_some (sub_in r.subs sd) ≡ true → IsLater r (left r sd)
leave_later r sd sound kinds some = leave_kept r sd sound some kinds

pub join_later : (r : RouterConf) (sd : ℕ) → IsSound r → KeepsKinds r → is_some (sub_in r.away sd) ≡ true → IsLater r (rejoined r sd)
join_later r sd sound kinds some = join_kept r sd sound some kinds

-- ---- a range that is moved

-- where the range of a BSL stands among others
record IsRangeSplit (xs : List LabelRange) (bsl : Bsl) (label : ℕ) (x : LabelRange) : Type 0 where
  before : List LabelRange
  after : List LabelRange
  is : xs ≡ before ++ x ∷ after
  next : ranges_moved bsl label xs ≡ before ++ moved x label ∷ after

range_split : (xs : List LabelRange) (bsl : Bsl) (label : ℕ) (x : LabelRange) → range_for xs bsl ≡ Some x → IsRangeSplit xs bsl label x
range_split [] bsl label x e = absurd (no_None x e)
range_split (y ∷ xs) bsl label x e =
    elim (cases_Bool (code_of y.bsl == code_of bsl)) [
      | inl h ↦
          let is : y ≡ x = same_Some y x (sym (cond-true _ _ _ h) ∙ e) in
          record { before = []; after = xs; is = ap (λ z. z ∷ xs) is; next = cond-true _ _ _ h ∙ ap (λ z. moved z label ∷ xs) is }
      | inr h ↦
          let r = range_split xs bsl label x (sym (cond-false _ _ _ h) ∙ e) in
          record { before = y ∷ r.before; after = r.after; is = ap (λ l. y ∷ l) r.is; next = cond-false _ _ _ h ∙ ap (λ l. y ∷ l) r.next }
    ]

-- a sub-domain with the range moved
abbrev sub_moved : OwnSub → Bsl → ℕ → OwnSub
sub_moved s bsl label = record s { ranges = ranges_moved bsl label s.ranges }

moved_none : (subs : List OwnSub) (sd : ℕ) (bsl : Bsl) (label : ℕ) → sub_in subs sd ≡ None → subs_moved sd bsl label subs ≡ subs
moved_none [] sd bsl label e = refl
moved_none (x ∷ subs) sd bsl label e =
    elim (cases_Bool (x.sd == sd)) [
      | inl h ↦ absurd (no_None x (sym e ∙ cond-true _ _ _ h))
      | inr h ↦ cond-false _ _ _ h ∙ ap (λ l. x ∷ l) (moved_none subs sd bsl label (sym (cond-false _ _ _ h) ∙ e))
    ]

-- of two lists, the one that has the sub-domain changes
moved_both : (xs ys : List OwnSub) (sd : ℕ) (bsl : Bsl) (label : ℕ) → AreApart same_sub (xs ++ ys) → subs_moved sd bsl label xs ++ subs_moved sd bsl label ys ≡ subs_moved sd bsl label (xs ++ ys)
moved_both [] ys sd bsl label apart = refl
moved_both (x ∷ xs) ys sd bsl label apart =
    elim (cases_Bool (x.sd == sd)) [
      | inl h ↦
          let none : sub_in ys sd ≡ None = none_after (x ∷ xs) ys sd x apart (cond-true _ _ _ h) in
          ap (λ l. l ++ subs_moved sd bsl label ys) (cond-true _ _ _ h) ∙ ap (λ l. sub_moved x bsl label ∷ (xs ++ l)) (moved_none ys sd bsl label none) ∙ sym (cond-true _ _ _ h)
      | inr h ↦ ap (λ l. l ++ subs_moved sd bsl label ys) (cond-false _ _ _ h) ∙ ap (λ l. x ∷ l) (moved_both xs ys sd bsl label apart.1) ∙ sym (cond-false _ _ _ h)
    ]

-- the sub-domain changes where it stands
moved_split : (before : List OwnSub) (s : OwnSub) (after : List OwnSub) (sd : ℕ) (bsl : Bsl) (label : ℕ) → s.sd ≡ sd → sub_in before sd ≡ None → subs_moved sd bsl label (before ++ s ∷ after) ≡ before ++ sub_moved s bsl label ∷ after
moved_split [] s after sd bsl label e none = cond-true _ _ _ (eq-eqb s.sd sd e)
moved_split (x ∷ before) s after sd bsl label e none =
    elim (cases_Bool (x.sd == sd)) [
      | inl h ↦ absurd (no_None x (sym none ∙ cond-true _ _ _ h))
      | inr h ↦ cond-false _ _ _ h ∙ ap (λ l. x ∷ l) (moved_split before s after sd bsl label e (sym (cond-false _ _ _ h) ∙ none))
    ]

-- BFR-ids stay
id_moved : (subs : List OwnSub) (sd : ℕ) (bsl : Bsl) (label n : ℕ) → option_map (λ (s : OwnSub). s.id) (sub_in (subs_moved sd bsl label subs) n) ≡ option_map (λ (s : OwnSub). s.id) (sub_in subs n)
id_moved [] sd bsl label n = refl
id_moved (x ∷ subs) sd bsl label n =
    elim (cases_Bool (x.sd == sd)) [
      | inl h ↦ ap (λ l. option_map (λ (s : OwnSub). s.id) (sub_in l n)) (cond-true _ (sub_moved x bsl label ∷ subs) (x ∷ subs_moved sd bsl label subs) h) ∙ same_head
      | inr h ↦ ap (λ l. option_map (λ (s : OwnSub). s.id) (sub_in l n)) (cond-false _ (sub_moved x bsl label ∷ subs) (x ∷ subs_moved sd bsl label subs) h) ∙ same_tail (id_moved subs sd bsl label n)
    ]
  where
    same_head : option_map (λ (s : OwnSub). s.id) (sub_in (sub_moved x bsl label ∷ subs) n) ≡ option_map (λ (s : OwnSub). s.id) (sub_in (x ∷ subs) n)
    same_head =
        elim (cases_Bool (x.sd == n)) [
          | inl k ↦ ap (option_map (λ (s : OwnSub). s.id)) (cond-true _ _ _ k) ∙ sym (ap (option_map (λ (s : OwnSub). s.id)) (cond-true _ _ _ k))
          | inr k ↦ ap (option_map (λ (s : OwnSub). s.id)) (cond-false _ _ _ k) ∙ sym (ap (option_map (λ (s : OwnSub). s.id)) (cond-false _ _ _ k))
        ]

    same_tail : option_map (λ (s : OwnSub). s.id) (sub_in (subs_moved sd bsl label subs) n) ≡ option_map (λ (s : OwnSub). s.id) (sub_in subs n) → option_map (λ (s : OwnSub). s.id) (sub_in (x ∷ subs_moved sd bsl label subs) n) ≡ option_map (λ (s : OwnSub). s.id) (sub_in (x ∷ subs) n)
    same_tail rest =
        elim (cases_Bool (x.sd == n)) [
          | inl k ↦ ap (option_map (λ (s : OwnSub). s.id)) (cond-true _ _ _ k) ∙ sym (ap (option_map (λ (s : OwnSub). s.id)) (cond-true _ _ _ k))
          | inr k ↦ ap (option_map (λ (s : OwnSub). s.id)) (cond-false _ _ _ k) ∙ rest ∙ sym (ap (option_map (λ (s : OwnSub). s.id)) (cond-false _ _ _ k))
        ]

-- ---- no label of the range was used

any_none : {X : Type 0} (test : X → Bool) (xs : List X) → list_any test xs ≡ false → AllByRecursion (λ x. test x ≡ false) xs
any_none test [] e = tt
any_none test (x ∷ xs) e =
    elim (cases_Bool (test x)) [
      | inl h ↦ absurd (true≢false (sym (or_left _ _ h) ∙ e))
      | inr h ↦ (h, any_none test xs (sym (ap (λ b. b || list_any test xs) h) ∙ e))
    ]

find_none : (test : ℕ → Bool) (first n k : ℕ) → find test (range_with_len first n) ≡ None → first ≤ k → k < first + n → test k ≡ false
find_none test first zero k e low high = absurd (omega (arith, low, high))
find_none test first (suc n) k e low high =
    elim (cases_Bool (test first)) [
      | inl h ↦ absurd (no_None first (sym e ∙ cond-true _ _ _ h))
      | inr h ↦
          elim (cases_lt first k) [
            | inl l ↦ find_none test (first + 1) n k (sym (cond-false _ _ _ h) ∙ e) (omega (arith, l)) (omega (arith, high))
            | inr l ↦ let same : first ≡ k = omega (arith, l, low) in subst (λ m. test m ≡ false) same h
          ]
    ]

-- the greater of the first labels of two ranges that share one is in both
free_range : (known : List PastRange) (x y : LabelRange) → ((n : ℕ) → x.label ≤ n → n ≤ x.label + x.max_si → is_label_of n y ≡ false) → share_label x y ≡ false
free_range known x y free =
    false_from_ne_true _ (λ h.
    let p = and_parts _ _ h in
    let a : x.label ≤ y.label + y.max_si = leb-true _ _ p.0 in
    let b : y.label ≤ x.label + x.max_si = leb-true _ _ p.1 in
    elim (cases_lt x.label y.label) [
      | inl l ↦
          let low : x.label ≤ y.label = omega (arith, l) in
          let top : y.label ≤ y.label + y.max_si = omega arith in
          false≢true (sym (free y.label low b) ∙ and_from _ _ (le-leb y.label y.label (omega arith)) (le-leb y.label (y.label + y.max_si) top))
      | inr l ↦
          let top : x.label ≤ x.label + x.max_si = omega arith in
          let self : x.label ≤ x.label = omega arith in
          false≢true (sym (free x.label self top) ∙ and_from _ _ (le-leb y.label x.label l) (le-leb x.label (y.label + y.max_si) a))
    ])

unshared : (r : RouterConf) (x : LabelRange) (sd : ℕ) → used_label r x ≡ None → AllByRecursion (λ y. share_range (record { sd = sd; range = x }) y ≡ false) (known_ranges r)
unshared r x sd e = by (known_ranges r) (λ n low high. any_none (λ y. is_label_of n y.range) (known_ranges r) (find_none (is_used (known_ranges r)) x.label (x.max_si + 1) n e low (omega (arith, high))))
  where
    by : (ys : List PastRange) → ((n : ℕ) → x.label ≤ n → n ≤ x.label + x.max_si → AllByRecursion (λ (y : PastRange). is_label_of n y.range ≡ false) ys) → AllByRecursion (λ y. share_range (record { sd = sd; range = x }) y ≡ false) ys
    by [] free = tt
    by (y ∷ ys) free = (free_range ys x y.range (λ n low high. (free n low high).0), by ys (λ n low high. (free n low high).1))

-- ---- other labels

in_order : {X : Type 0} (a b : List X) (x : X) (c d e : List X) → (a ++ ((b ++ x ∷ c) ++ d)) ++ e ≡ (a ++ b) ++ x ∷ ((c ++ d) ++ e)
in_order a b x c d e = simp append_assoc

-- the label ranges, one of which stands between others of its sub-domain
ranges_at : (before after : List OwnSub) (s : OwnSub) (sd : ℕ) (first : List LabelRange) (x : LabelRange) (last : List LabelRange) (past : List PastRange) → s.sd ≡ sd → s.ranges ≡ first ++ x ∷ last → ranges_of (before ++ s ∷ after) ++ past ≡ (ranges_of before ++ placed sd first) ++ record { sd = sd; range = x } ∷ ((placed sd last ++ ranges_of after) ++ past)
ranges_at before after s sd first x last past named e =
    ap (λ l. l ++ past) (flat_map-append (λ (t : OwnSub). placed t.sd t.ranges) before (s ∷ after) ∙ ap (λ l. ranges_of before ++ (l ++ ranges_of after)) here)
    ∙ in_order (ranges_of before) (placed sd first) (record { sd = sd; range = x }) (placed sd last) (ranges_of after) past
  where
    here : placed s.sd s.ranges ≡ placed sd first ++ record { sd = sd; range = x } ∷ placed sd last
    here = ap (λ n. placed n s.ranges) named ∙ ap (placed sd) e ∙ map-append (λ (y : LabelRange). record { sd = sd; range = y }) first (x ∷ last)

-- where the range stands that begins at another label
record IsMoving (r : RouterConf) (sd : ℕ) (bsl : Bsl) (label : ℕ) (x : LabelRange) : Type 0 where
  sub : OwnSub
  before : List OwnSub
  after : List OwnSub
  first : List LabelRange
  last : List LabelRange
  named : sub.sd ≡ sd
  known : known_subs r ≡ before ++ sub ∷ after
  next : subs_moved sd bsl label r.subs ++ subs_moved sd bsl label r.away ≡ before ++ sub_moved sub bsl label ∷ after
  ranges : sub.ranges ≡ first ++ x ∷ last
  next_ranges : ranges_moved bsl label sub.ranges ≡ first ++ moved x label ∷ last

moving : (r : RouterConf) (sd : ℕ) (bsl : Bsl) (label : ℕ) (x : LabelRange) → IsSound r → own_range r sd bsl ≡ Some x → IsMoving r sd bsl label x
moving r sd bsl label x sound e = by (sub_in (known_subs r) sd) refl e
  where
    by : (o : Option OwnSub) → sub_in (known_subs r) sd ≡ o → option_and_then (λ (s : OwnSub). range_for s.ranges bsl) o ≡ Some x → IsMoving r sd bsl label x
    by None is f = absurd (no_None x f)
    by (Some s) is f =
        let p = sub_split (known_subs r) sd s sound.subdomains is in
        let q = range_split s.ranges bsl label x f in
        let named : s.sd ≡ sd = sub_named (known_subs r) sd s is in
        record {
          sub = s;
          before = p.before;
          after = p.after;
          first = q.before;
          last = q.after;
          named = named;
          known = p.is;
          next = moved_both r.subs r.away sd bsl label sound.subdomains ∙ ap (subs_moved sd bsl label) p.is ∙ moved_split p.before s p.after sd bsl label named p.none;
          ranges = q.is;
          next_ranges = q.next;
        }

kinds_moved : (k : Option Kind) (bsl : Bsl) (label : ℕ) (xs : List LabelRange) → MayStand k xs → MayStand k (ranges_moved bsl label xs)
kinds_moved None bsl label xs h = h
kinds_moved (Some Mpls) bsl label xs h = tt
kinds_moved (Some Configured) bsl label xs h = ap (ranges_moved bsl label) h

octets_replaced : (before after : List OwnSub) (s t : OwnSub) → length t.ranges ≡ length s.ranges → sub_octets (before ++ t ∷ after) ≡ sub_octets (before ++ s ∷ after)
unfolding sub_octets
octets_replaced before after s t e = sum_replaced (λ (x : OwnSub). 7 + 6 * length x.ranges) before s t after (ap (λ n. 7 + 6 * n) e)

module _ (r : RouterConf) (sd : ℕ) (bsl : Bsl) (label : ℕ) (sound : IsSound r) (can : CanRelabel r sd bsl label) (m : IsMoving r sd bsl label can.range) where
  next_range : LabelRange
  next_range = moved can.range label

  next_sub : OwnSub
  next_sub = sub_moved m.sub bsl label

  old : PastRange
  old = record { sd = sd; range = can.range }

  new : PastRange
  new = record { sd = sd; range = next_range }

  next_past : List PastRange
  next_past = r.past ++ old ∷ []

  next_known : List PastRange
  next_known = ranges_of (subs_moved sd bsl label r.subs) ++ (ranges_of (subs_moved sd bsl label r.away) ++ next_past)

  front : List PastRange
  front = ranges_of m.before ++ placed sd m.first

  back : List PastRange
  back = placed sd m.last ++ ranges_of m.after

  ranges_now : known_ranges r ≡ front ++ old ∷ (back ++ r.past)
  unfolding front back old
  ranges_now = sym (ranges_both r.subs r.away r.past) ∙ ap (λ l. ranges_of l ++ r.past) m.known ∙ ranges_at m.before m.after m.sub sd m.first can.range m.last r.past m.named m.ranges

  ranges_next : next_known ≡ front ++ new ∷ (back ++ next_past)
  unfolding next_known front back new next_range
  ranges_next =
      sym (ranges_both (subs_moved sd bsl label r.subs) (subs_moved sd bsl label r.away) next_past)
      ∙ ap (λ l. ranges_of l ++ next_past) m.next
      ∙ ranges_at m.before m.after (sub_moved m.sub bsl label) sd m.first (moved can.range label) m.last next_past m.named m.next_ranges

  -- the earlier range goes to the end
  swap : IsSwapped (front ++ old ∷ (back ++ r.past)) (front ++ (back ++ next_past))
  unfolding next_past
  swap =
      record {
        before = front;
        first = old ∷ [];
        second = back ++ r.past;
        after = [];
        was = ap (λ l. front ++ old ∷ l) (sym (append-nil (back ++ r.past)));
        is = ap (λ l. front ++ l) (sym (append_assoc back r.past (old ∷ [])));
      }

  next_apart : AreApart share_range next_known
  unfolding new next_range
  next_apart =
      subst (AreApart share_range) (sym ranges_next)
      (apart_with share_range share_turned front new (back ++ next_past)
      (all_swapped (λ y. share_range new y ≡ false) _ _ swap (subst (AllByRecursion (λ y. share_range new y ≡ false)) ranges_now (unshared r next_range sd can.free)))
      (apart_swapped share_range share_turned _ _ swap (subst (AreApart share_range) ranges_now sound.labels)))

  ranges_kept : AllByRecursion (Contains next_known) (known_ranges r)
  ranges_kept =
      subst (AllByRecursion (Contains next_known)) (sym ranges_now)
      (all_swapped (Contains next_known) _ _ (turned_swap _ _ swap)
      (all_without (Contains next_known) front new (back ++ next_past) (subst (AllByRecursion (Contains next_known)) ranges_next (each_itself next_known))))

  own_sub : IsOwnSub m.sub
  own_sub = all_at IsOwnSub m.before m.sub m.after (subst (AllByRecursion IsOwnSub) m.known sound.subs)

  own_label_range : IsLabelRange can.range
  own_label_range = all_at IsLabelRange m.first can.range m.last (subst (AllByRecursion IsLabelRange) m.ranges own_sub.each)

  next_label_range : IsLabelRange next_range
  unfolding next_range
  next_label_range = record { max_si = own_label_range.max_si; first = can.first; last = can.last }

  same_count : length next_sub.ranges ≡ length m.sub.ranges
  unfolding next_sub
  same_count = ap length m.next_ranges ∙ length_replaced m.first can.range (moved can.range label) m.last ∙ ap length (sym m.ranges)

  next_own_sub : IsOwnSub next_sub
  unfolding next_sub next_range
  next_own_sub =
      record {
        sd = own_sub.sd;
        id = own_sub.id;
        few = subst (λ n. n ≤ 7) (sym same_count) own_sub.few;
        each = subst (AllByRecursion IsLabelRange) (sym m.next_ranges) (all_replaced IsLabelRange m.first can.range next_range m.last next_label_range (subst (AllByRecursion IsLabelRange) m.ranges own_sub.each));
        lengths = subst (AreApart same_length) (sym m.next_ranges) (apart_replaced same_length m.first can.range next_range m.last (λ z e. e) (λ z e. e) (subst (AreApart same_length) m.ranges own_sub.lengths));
      }

  -- the sub-domains of now, without their ranges
  to_next : (P : List OwnSub → Type 0) → P (m.before ++ next_sub ∷ m.after) → P (subs_moved sd bsl label r.subs ++ subs_moved sd bsl label r.away)
  unfolding next_sub
  to_next P h = subst P (sym m.next) h

  from_now : (P : List OwnSub → Type 0) → P (known_subs r) → P (m.before ++ m.sub ∷ m.after)
  from_now P h = subst P m.known h

  changed_sound : IsSound (record r { subs = subs_moved sd bsl label r.subs; away = subs_moved sd bsl label r.away; past = next_past })
  unfolding next_past next_sub next_known old
  changed_sound =
      sound_with r (subs_moved sd bsl label r.subs) (subs_moved sd bsl label r.away) next_past sound (record {
        few_subs = to_next (λ l. length l ≤ MOST_SUBDOMAINS) (subst (λ n. n ≤ MOST_SUBDOMAINS) (sym (length_replaced m.before m.sub next_sub m.after)) (from_now (λ l. length l ≤ MOST_SUBDOMAINS) sound.few_subs));
        each = to_next (AllByRecursion IsOwnSub) (all_replaced IsOwnSub m.before m.sub next_sub m.after next_own_sub (from_now (AllByRecursion IsOwnSub) sound.subs));
        apart = to_next (AreApart same_sub) (apart_replaced same_sub m.before m.sub next_sub m.after (λ z e. e) (λ z e. e) (from_now (AreApart same_sub) sound.subdomains));
        few_past = let long = length-append r.past (old ∷ []) in omega (arith, long, can.room);
        each_past = all_both IsPastRange r.past (old ∷ []) sound.past (record { sd = subst (λ n. n < 256) m.named own_sub.sd; range = own_label_range }, tt);
        labels = next_apart;
        room = to_next (λ l. sub_octets l ≤ MOST_SUB_OCTETS) (subst (λ n. n ≤ MOST_SUB_OCTETS) (sym (octets_replaced m.before m.after m.sub next_sub same_count)) (from_now (λ l. sub_octets l ≤ MOST_SUB_OCTETS) sound.room));
      })

  changed_later : KeepsKinds r → IsLater r (record r { subs = subs_moved sd bsl label r.subs; away = subs_moved sd bsl label r.away; past = next_past })
  unfolding next_sub next_known
  changed_later kinds =
      record {
        one = refl;
        sound = changed_sound;
        kinds = record {
          subs = to_next (AllByRecursion (λ (x : OwnSub). MayStand (kind_of r.kinds x.sd) x.ranges))
              (all_replaced (λ (x : OwnSub). MayStand (kind_of r.kinds x.sd) x.ranges) m.before m.sub next_sub m.after
              (kinds_moved (kind_of r.kinds m.sub.sd) bsl label m.sub.ranges (all_at (λ (x : OwnSub). MayStand (kind_of r.kinds x.sd) x.ranges) m.before m.sub m.after (from_now (AllByRecursion (λ (x : OwnSub). MayStand (kind_of r.kinds x.sd) x.ranges)) kinds.subs)))
              (from_now (AllByRecursion (λ (x : OwnSub). MayStand (kind_of r.kinds x.sd) x.ranges)) kinds.subs));
          rows = kinds.rows;
        };
        ids = λ n. ap (λ l. option_map (λ (x : OwnSub). x.id) (sub_in l n)) (moved_both r.subs r.away sd bsl label sound.subdomains) ∙ id_moved (known_subs r) sd bsl label n;
        ranges = λ x c. each_contained (Contains next_known) (known_ranges r) x c.0 ranges_kept c.1 c.2;
      }

relabelled_to : (P : RouterConf → Type 0) (r : RouterConf) (sd : ℕ) (bsl : Bsl) (label : ℕ) (can : CanRelabel r sd bsl label)
    → P (record r { subs = subs_moved sd bsl label r.subs; away = subs_moved sd bsl label r.away; past = r.past ++ record { sd = sd; range = can.range } ∷ [] }) → P (relabelled r sd bsl label)
unfolding relabelled
relabelled_to P r sd bsl label can h = subst (λ o. P (record r { subs = subs_moved sd bsl label r.subs; away = subs_moved sd bsl label r.away; past = past_with r.past sd o })) (sym can.own) h

pub relabel_sound : (r : RouterConf) (sd : ℕ) (bsl : Bsl) (label : ℕ) → IsSound r → CanRelabel r sd bsl label → IsSound (relabelled r sd bsl label)
unfolding next_past old
relabel_sound r sd bsl label sound can = relabelled_to IsSound r sd bsl label can (changed_sound r sd bsl label sound can (moving r sd bsl label can.range sound can.own))

pub relabel_later : (r : RouterConf) (sd : ℕ) (bsl : Bsl) (label : ℕ) → IsSound r → KeepsKinds r → CanRelabel r sd bsl label → IsLater r (relabelled r sd bsl label)
unfolding next_past old
relabel_later r sd bsl label sound kinds can = relabelled_to (IsLater r) r sd bsl label can (changed_later r sd bsl label sound can (moving r sd bsl label can.range sound can.own) kinds)
