-- The parts of a router's own LSP: how they are put together, that they fit, and how long they are.
use Rattle.std.proofs.Common.{◌≡◌, ℕ, zero, suc, ◌+◌, ◌*◌, ◌<◌, ◌≤◌, min, Bool, true, false, ◌&&◌, leb, if◌then◌else◌, List, [], ◌∷◌, ◌++◌, length, get_or, take, drop, map, eq-eqb, refl, sym, ap, ◌∙◌, append_assoc, arith, inl, inr}
use mathlib.Core.Bool.{false≢true, true≢false}
use Rattle.byteorder.specs.Endian.{big_bytes}
use Rattle.std.specs.List.{flat_map, list_all, AllByRecursion}
use Rattle.std.proofs.lemmas.Bool.{cases_lt, lt-leb}
use Rattle.std.proofs.lemmas.List.{take_all, drop_all, length-append, length-take, length-drop, append-nil}
use Rattle.std.proofs.lemmas.List.Concat.{flat_map-append}
use Rattle.std.proofs.lemmas.List.Sums.{sum_by-cons}
use Rattle.wire_base.specs.declared.conf.LabelRange.{LabelRange}
use Rattle.wire_base.specs.declared.conf.OwnSub.{OwnSub}
use Rattle.wire_base.specs.declared.conf.SubKind.{SubKind}
use Rattle.wire_base.specs.declared.conf.End.{End}
use Rattle.wire_base.specs.declared.conf.RouterConf.{RouterConf}
use Rattle.wire_base.specs.model.Lists.{blocks, blocks_within}
use Rattle.wire_base.specs.model.Place.{code_of, kind_of, is_mpls}
use Rattle.wire_base.specs.model.Tlv.{tlv, reach, prefix, has_subs, NoneUnless}
use Rattle.wire_base.specs.model.BierInfo.{Info, RangeFits, InfoFits, range, info_tlv, AreApart as LengthsApart, own_of}
use Rattle.wire_base.specs.model.Lists.{AreApart}
use Rattle.wire_base.specs.model.Configuration.{IsLabelRange, IsOwnSub, IsEnd, IsSound, same_length, sub_octets, is_name, is_letter, is_name_octet}
use Rattle.wire_base.specs.model.OwnLsp.{picked, area_tlv, protocols_tlv, name_tlv, reach_of, reach_tlv, reach_tlvs, info_of, infos_of, control_for, prefix_tlv, own_content}
use Rattle.wire_base.proofs.SoundLemmas.{sound_subs}
use Rattle.laws_format.proofs.InfoLaws.{all_weaker}

-- ---- blocks

blocks_enough : {X : Type 0} (m n k : ℕ) (xs : List X) → 0 < k → length xs ≤ m → length xs ≤ n → blocks_within m k xs ≡ blocks_within n k xs
blocks_enough zero zero k xs some h g = refl
blocks_enough zero (suc n) k [] some h g = refl
blocks_enough zero (suc n) k (x ∷ xs) some h g = absurd (omega (arith, h))
blocks_enough (suc m) zero k [] some h g = refl
blocks_enough (suc m) zero k (x ∷ xs) some h g = absurd (omega (arith, g))
blocks_enough (suc m) (suc n) k [] some h g = refl
blocks_enough {X} (suc m) (suc n) k (x ∷ xs) some h g =
    let l = length-drop k (x ∷ xs) in
    ap (λ (bs : List (List X)). take k (x ∷ xs) ∷ bs) (blocks_enough m n k (drop k (x ∷ xs)) some (omega (arith, l, h, some)) (omega (arith, l, g, some)))

take_min : {X : Type 0} (k n : ℕ) (xs : List X) → n ≡ min (length xs) k → take k xs ≡ take n xs
take_min k n xs is = elim (cases_lt (length xs) k) [
  | inl lt ↦ take_all k xs (omega (arith, lt)) ∙ sym (take_all n xs (omega (arith, lt, is)))
  | inr le ↦ ap (λ j. take j xs) (omega (arith, le, is))
]

drop_min : {X : Type 0} (k n : ℕ) (xs : List X) → n ≡ min (length xs) k → drop k xs ≡ drop n xs
drop_min k n xs is = elim (cases_lt (length xs) k) [
  | inl lt ↦ drop_all k xs (omega (arith, lt)) ∙ sym (drop_all n xs (omega (arith, lt, is)))
  | inr le ↦ ap (λ j. drop j xs) (omega (arith, le, is))
]

pub blocks_step : {X : Type 0} (k n : ℕ) (xs : List X) → 0 < k → 0 < length xs → n ≡ min (length xs) k → blocks k xs ≡ take n xs ∷ blocks k (drop n xs)
blocks_step k n [] some more is = absurd (omega (arith, more))
blocks_step {X} k n (x ∷ xs) some more is =
    let l = length-drop k (x ∷ xs) in
    ap (λ (bs : List (List X)). take k (x ∷ xs) ∷ bs) (blocks_enough (length xs) (length (drop k (x ∷ xs))) k (drop k (x ∷ xs)) some (omega (arith, l, some)) (omega arith)) ∙ ap (λ (b : List X). b ∷ blocks k (drop k (x ∷ xs))) (take_min k n (x ∷ xs) is) ∙ ap (λ (r : List X). take n (x ∷ xs) ∷ blocks k r) (drop_min k n (x ∷ xs) is)

-- ---- links

pub each_taken : {X : Type 0} (P : X → Type 0) (n : ℕ) (xs : List X) → AllByRecursion P xs → AllByRecursion P (take n xs)
each_taken P zero xs all = tt
each_taken P (suc n) [] all = tt
each_taken P (suc n) (x ∷ xs) all = (all.0, each_taken P n xs all.1)

pub each_dropped : {X : Type 0} (P : X → Type 0) (n : ℕ) (xs : List X) → AllByRecursion P xs → AllByRecursion P (drop n xs)
each_dropped P zero xs all = all
each_dropped P (suc n) [] all = tt
each_dropped P (suc n) (x ∷ xs) all = each_dropped P n xs all.1

pub cut_text : (out new total : List ℕ) (rest : List End) (n : ℕ) → 0 < length rest → n ≡ min (length rest) 23 → out ++ flat_map tlv (reach_tlvs rest) ≡ total → new ≡ out ++ tlv (reach_tlv (take n rest))
    → new ++ flat_map tlv (reach_tlvs (drop n rest)) ≡ total
cut_text out new total rest n more is text added =
    let step : flat_map tlv (reach_tlvs rest) ≡ tlv (reach_tlv (take n rest)) ++ flat_map tlv (reach_tlvs (drop n rest)) = ap (λ (bs : List (List End)). flat_map tlv (map reach_tlv bs)) (blocks_step 23 n rest (omega arith) more is) in
    ap (λ (l : List ℕ). l ++ flat_map tlv (reach_tlvs (drop n rest))) added ∙ append_assoc out (tlv (reach_tlv (take n rest))) (flat_map tlv (reach_tlvs (drop n rest))) ∙ ap (λ (l : List ℕ). out ++ l) (sym step) ∙ text

pub cut_end : (out total : List ℕ) (rest : List End) → length rest ≡ 0 → out ++ flat_map tlv (reach_tlvs rest) ≡ total → out ≡ total
cut_end out total [] none text = sym (append-nil out) ∙ text
cut_end out total (e ∷ rest) none text = absurd (omega (arith, none))

pub picked_more : (up : List Bool) (ends : List End) (i : ℕ) (e : End) → i < length up → i < length ends → get_or up i false ≡ true → e ≡ get_or ends i e → picked (drop i up) (drop i ends) ≡ e ∷ picked (drop (suc i) up) (drop (suc i) ends)
picked_more [] ends i e lt le is at = absurd (omega (arith, lt))
picked_more (u ∷ us) [] i e lt le is at = absurd (omega (arith, le))
picked_more (true ∷ us) (x ∷ xs) zero e lt le is at = ap (λ (y : End). y ∷ picked us xs) (sym at)
picked_more (false ∷ us) (x ∷ xs) zero e lt le is at = absurd (false≢true is)
picked_more (u ∷ us) (x ∷ xs) (suc i) e lt le is at = picked_more us xs i e (omega (arith, lt)) (omega (arith, le)) is at

pub picked_same : (up : List Bool) (ends : List End) (i : ℕ) → i < length up → i < length ends → get_or up i false ≡ false → picked (drop i up) (drop i ends) ≡ picked (drop (suc i) up) (drop (suc i) ends)
picked_same [] ends i lt le is = absurd (omega (arith, lt))
picked_same (u ∷ us) [] i lt le is = absurd (omega (arith, le))
picked_same (true ∷ us) (x ∷ xs) zero lt le is = absurd (true≢false is)
picked_same (false ∷ us) (x ∷ xs) zero lt le is = refl
picked_same (u ∷ us) (x ∷ xs) (suc i) lt le is = picked_same us xs i (omega (arith, lt)) (omega (arith, le)) is

-- one end more
pub up_step : (rows new all : List End) (up : List Bool) (ends : List End) (i j : ℕ) (e : End) → rows ++ picked (drop i up) (drop i ends) ≡ all → j ≡ suc i → i < length up → i < length ends → get_or up i false ≡ true → new ≡ rows ++ e ∷ [] → e ≡ get_or ends i e → new ++ picked (drop j up) (drop j ends) ≡ all
up_step rows new all up ends i j e so next lt le is pushed at =
    rw next (ap (λ (l : List End). l ++ picked (drop (suc i) up) (drop (suc i) ends)) pushed ∙ append_assoc rows (e ∷ []) (picked (drop (suc i) up) (drop (suc i) ends)) ∙ ap (λ (l : List End). rows ++ l) (sym (picked_more up ends i e lt le is at)) ∙ so)

pub down_step : (rows new all : List End) (up : List Bool) (ends : List End) (i j : ℕ) → rows ++ picked (drop i up) (drop i ends) ≡ all → j ≡ suc i → i < length up → i < length ends → get_or up i false ≡ false → new ≡ rows → new ++ picked (drop j up) (drop j ends) ≡ all
down_step rows new all up ends i j so next lt le is same =
    rw next (ap (λ (l : List End). l ++ picked (drop (suc i) up) (drop (suc i) ends)) same ∙ ap (λ (l : List End). rows ++ l) (sym (picked_same up ends i lt le is)) ∙ so)

pub picked_all : (P : End → Type 0) (up : List Bool) (ends : List End) → AllByRecursion P ends → AllByRecursion P (picked up ends)
picked_all P [] ends all = tt
picked_all P (u ∷ us) [] all = tt
picked_all P (true ∷ us) (e ∷ es) all = (all.0, picked_all P us es all.1)
picked_all P (false ∷ us) (e ∷ es) all = picked_all P us es all.1

picked_few : (up : List Bool) (ends : List End) → length (picked up ends) ≤ length ends
picked_few [] ends = omega arith
picked_few (u ∷ us) [] = omega arith
picked_few (true ∷ us) (e ∷ es) = omega (arith, picked_few us es)
picked_few (false ∷ us) (e ∷ es) = omega (arith, picked_few us es)

-- an entry of a link takes 11 octets
pub reaches_long : (ends : List End) → AllByRecursion IsEnd ends → length (flat_map (λ e. reach (reach_of e)) ends) ≡ 11 * length ends
reaches_long [] all = refl
reaches_long (e ∷ es) all =
    let l = length-append (reach (reach_of e)) (flat_map (λ e. reach (reach_of e)) es) in
    let m = length-append e.peer.0 (0 ∷ 0 ∷ 0 ∷ 0 ∷ 0 ∷ []) in
    omega (arith, l, reach_long e all.0, reaches_long es all.1)
  where
    reach_long : (e : End) → IsEnd e → length (reach (reach_of e)) ≡ 11
    reach_long e is = let l = length-append e.peer.0 (0 ∷ (big_bytes 3 e.metric ++ (0 ∷ []))) in omega (arith, l, is.peer.long)

pub block_text : (out new old : List ℕ) (ends : List End) → AllByRecursion IsEnd ends → old ≡ out ++ (22 ∷ 11 * length ends ∷ []) → new ≡ old ++ flat_map (λ e. reach (reach_of e)) ends → new ≡ out ++ tlv (reach_tlv ends)
block_text out new old ends all head is =
    let entries = flat_map (λ e. reach (reach_of e)) ends in
    is ∙ ap (λ (l : List ℕ). l ++ entries) head ∙ append_assoc out (22 ∷ 11 * length ends ∷ []) entries ∙ ap (λ (n : ℕ). out ++ (22 ∷ n ∷ entries)) (sym (reaches_long ends all))

links_within : (m : ℕ) (ends : List End) → AllByRecursion IsEnd ends → length (flat_map tlv (map reach_tlv (blocks_within m 23 ends))) ≤ 13 * length ends
links_within zero ends all = omega arith
links_within (suc m) [] all = omega arith
links_within (suc m) (e ∷ es) all =
    let xs = e ∷ es in
    let l = length-append (tlv (reach_tlv (take 23 xs))) (flat_map tlv (map reach_tlv (blocks_within m 23 (drop 23 xs)))) in
    let more = links_within m (drop 23 xs) (each_dropped IsEnd 23 xs all) in
    let front = reaches_long (take 23 xs) (each_taken IsEnd 23 xs all) in
    let t = length-take 23 xs in
    let d = length-drop 23 xs in
    omega (arith, l, more, front, t, d)

-- ---- sub-domains

codes_apart : (rs : List LabelRange) → AreApart same_length rs → LengthsApart (map (λ r. r.bsl) rs)
codes_apart [] apart = tt
codes_apart (r ∷ rs) apart = (each rs apart.0, codes_apart rs apart.1)
  where
    each : (others : List LabelRange) → AllByRecursion (λ y. same_length r y ≡ false) others → AllByRecursion (λ c. c ≡ r.bsl → ⊥) (map (λ y. y.bsl) others)
    each [] all = tt
    each (y ∷ ys) all = (λ same. true≢false (sym (eq-eqb (code_of r.bsl) (code_of y.bsl) (ap code_of (sym same))) ∙ all.0), each ys all.1)

pub sub_fits : (s : OwnSub) → IsOwnSub s → InfoFits (own_of s)
sub_fits s is = record {
  sd = is.sd;
  id = omega (arith, is.id);
  few = is.few;
  each = all_weaker IsLabelRange RangeFits (λ r h. record { max_si = h.max_si; last = h.last }) s.ranges is.each;
  apart = codes_apart s.ranges is.lengths;
}

-- the same sub-domain without ranges
pub bare_fits : (s b : OwnSub) → IsOwnSub s → b.sd ≡ s.sd → b.id ≡ s.id → b.ranges ≡ [] → InfoFits (own_of b)
bare_fits s b is sd id none = record {
  sd = rw sd is.sd;
  id = rw id (omega (arith, is.id));
  few = rw none (omega arith);
  each = rw none tt;
  apart = rw none tt;
}

ranges_long : (rs : List LabelRange) → length (flat_map range rs) ≡ 6 * length rs
ranges_long [] = refl
ranges_long (r ∷ rs) = let l = length-append (range r) (flat_map range rs) in omega (arith, l, ranges_long rs)

info_long : (i : Info) → length (tlv (info_tlv i)) ≡ 7 + 6 * length i.ranges
info_long i = omega (arith, ranges_long i.ranges)

pub infos_short : (kinds : List SubKind) (subs : List OwnSub) → length (infos_of kinds subs) ≤ sub_octets subs
unfolding sub_octets
infos_short kinds [] = omega arith
infos_short kinds (s ∷ ss) =
    let l = length-append (tlv (info_tlv (info_of kinds s))) (infos_of kinds ss) in
    let c = sum_by-cons (λ (s : OwnSub). 7 + 6 * length s.ranges) s ss in
    omega (arith, l, c, info_long (info_of kinds s), fewer (is_mpls (kind_of kinds s.sd)), infos_short kinds ss)
  where
    fewer : (mpls : Bool) → length (if mpls then s.ranges else []) ≤ length s.ranges
    fewer true = omega arith
    fewer false = omega arith

pub subs_follow : (kinds : List SubKind) (subs : List OwnSub) → sub_octets subs ≤ 245 → NoneUnless (has_subs (control_for subs)) (infos_of kinds subs)
subs_follow kinds [] room = refl
subs_follow kinds (s ∷ ss) room = omega (arith, infos_short kinds (s ∷ ss), room)

value_short : (kinds : List SubKind) (subs : List OwnSub) (octets : List ℕ) → length octets ≡ 4 → sub_octets subs ≤ 245 → length (prefix (record { metric = 0; control = control_for subs; octets = octets; subs = infos_of kinds subs })) ≤ 255
value_short kinds [] octets long room =
    let t = length-take 4 octets in
    let l = length-append (take 4 octets) [] in
    omega (arith, t, l)
value_short kinds (s ∷ ss) octets long room =
    let t = length-take 4 octets in
    let i = infos_of kinds (s ∷ ss) in
    let l = length-append (take 4 octets) (length i ∷ i) in
    omega (arith, t, l, infos_short kinds (s ∷ ss), room)

pub prefix_room : (r : RouterConf) (out old infos : List ℕ) (control : ℕ) → IsSound r → control ≡ control_for r.subs → infos ≡ infos_of r.kinds r.subs → old ≡ [] → out ≡ old ++ prefix (record { metric = 0; control = control; octets = r.prefix.0; subs = infos }) → length out ≤ 255
prefix_room r out old infos control sound a b none is = rw (is, none, a, b) (value_short r.kinds r.subs r.prefix.0 sound.prefix.octets_are.long (sound_subs r sound).room)

-- ---- the whole

second : (a b : Bool) → (a && b) ≡ true → b ≡ true
second true b h = h
second false b h = absurd (false≢true h)

at_most : (m n : ℕ) → leb m n ≡ true → m ≤ n
at_most m n h = elim (cases_lt n m) [
  | inl lt ↦ absurd (true≢false (sym h ∙ lt-leb m n lt))
  | inr le ↦ le
]

pub name_short : (name : List ℕ) → is_name name ≡ true → length name ≤ 32
name_short [] is = omega arith
name_short (x ∷ xs) is = let le = at_most (length xs) 31 (second (list_all is_name_octet xs) (leb (length xs) 31) (second (is_letter x) _ is)) in omega (arith, le)

joined : (a p n r x : List ℕ) → ((a ++ (p ++ n)) ++ r) ++ x ≡ a ++ (p ++ (n ++ (r ++ x)))
joined a p n r x = append_assoc (a ++ (p ++ n)) r x ∙ append_assoc a (p ++ n) (r ++ x) ∙ ap (λ (l : List ℕ). a ++ l) (append_assoc p n (r ++ x))

pieces : (r : RouterConf) (up : List Bool) → own_content r up ≡ tlv (area_tlv r.area) ++ (tlv protocols_tlv ++ (tlv (name_tlv r.name) ++ (flat_map tlv (reach_tlvs (picked up r.ends)) ++ tlv (prefix_tlv r))))
unfolding own_content
pieces r up =
    ap (λ (l : List ℕ). tlv (area_tlv r.area) ++ (tlv protocols_tlv ++ (tlv (name_tlv r.name) ++ l)))
    (flat_map-append tlv (reach_tlvs (picked up r.ends)) (prefix_tlv r ∷ []) ∙ ap (λ (l : List ℕ). flat_map tlv (reach_tlvs (picked up r.ends)) ++ l) (append-nil (tlv (prefix_tlv r))))

pub content_is : (r : RouterConf) (up : List Bool) (out first second third : List ℕ) → first ≡ out ++ (tlv (area_tlv r.area) ++ (tlv protocols_tlv ++ tlv (name_tlv r.name))) → out ≡ [] → second ≡ first ++ flat_map tlv (reach_tlvs (picked up r.ends)) → third ≡ second ++ tlv (prefix_tlv r) → third ≡ own_content r up
content_is r up out first second third a none b c =
    let links = flat_map tlv (reach_tlvs (picked up r.ends)) in
    let last = tlv (prefix_tlv r) in
    let front = tlv (area_tlv r.area) ++ (tlv protocols_tlv ++ tlv (name_tlv r.name)) in
    c ∙ ap (λ (l : List ℕ). l ++ last) b ∙ ap (λ (l : List ℕ). (l ++ links) ++ last) (a ∙ ap (λ (l : List ℕ). l ++ front) none) ∙ joined (tlv (area_tlv r.area)) (tlv protocols_tlv) (tlv (name_tlv r.name)) links last ∙ sym (pieces r up)

pub content_short : (r : RouterConf) (up : List Bool) (out : List ℕ) → IsSound r → out ≡ own_content r up → length out ≤ 1200
content_short r up out sound is =
    let links = flat_map tlv (reach_tlvs (picked up r.ends)) in
    let last = tlv (prefix_tlv r) in
    let name = tlv (name_tlv r.name) in
    let whole = ap length (is ∙ pieces r up) in
    let l1 = length-append (tlv (area_tlv r.area)) (tlv protocols_tlv ++ (name ++ (links ++ last))) in
    let l2 = length-append (tlv protocols_tlv) (name ++ (links ++ last)) in
    let l3 = length-append name (links ++ last) in
    let l4 = length-append links last in
    let some = links_within (length (picked up r.ends)) (picked up r.ends) (picked_all IsEnd up r.ends sound.ends) in
    let few = picked_few up r.ends in
    let short = name_short r.name sound.name in
    let value = value_short r.kinds r.subs r.prefix.0 sound.prefix.octets_are.long (sound_subs r sound).room in
    omega (arith, whole, l1, l2, l3, l4, some, few, short, value, sound.area.few, sound.few_ends)
