-- What a system claims: its links have a metric above 0, and the lengths of a place's label ranges differ.
use mathlib.Core.Bool.{false≢true, true≢false}
use Rattle.std.proofs.Common.{◌≡◌, ℕ, zero, suc, ◌+◌, ◌-◌, ◌/◌, ◌%◌, ◌<◌, ◌==◌, ◌&&◌, nat_lt, max, not, Bool, true, false, if◌then◌else◌, List, [], ◌∷◌, ◌++◌, length, get_or, set, drop, map, Option, Some, None, Result, Ok, Err, AllPairs, refl, sym, ap, subst, ◌∙◌, arith}
use Rattle.std.specs.Prelude.{option_to_list}
use Rattle.std.specs.List.{AllByRecursion, flat_map, filter_map}
use Rattle.byteorder.specs.Endian.{big_number}
use Rattle.std.proofs.lemmas.Bool.{ltb-true, eq-eqb}
use Rattle.std.proofs.lemmas.List.{length-set}
use Rattle.std.proofs.lemmas.List.Concat.{flat_map-cons}
use Rattle.std.proofs.lemmas.List.Kept.{AllPairs-cons}
use Rattle.wire_base.specs.declared.bsl.Bsl.{Bsl}
use Rattle.wire_base.specs.declared.bsl.Bsl.TheVariants.{B64, B128, B256, B512, B1024, B2048, B4096}
use Rattle.wire_base.specs.declared.conf.End.{End}
use Rattle.wire_base.specs.declared.conf.LabelRange.{LabelRange}
use Rattle.wire_base.specs.declared.conf.OwnSub.{OwnSub}
use Rattle.wire_base.specs.declared.conf.RouterConf.{RouterConf}
use Rattle.wire_base.specs.declared.entry.Entry.{Entry}
use Rattle.wire_base.specs.declared.faults.InfoFault.{InfoFault}
use Rattle.wire_base.specs.declared.faults.InfoFault.TheVariants as faults
use Rattle.wire_base.specs.declared.view.ViewSub.{ViewSub}
use Rattle.wire_base.specs.model.Lists.{AreApart}
use Rattle.wire_base.specs.model.Place.{code_of, kind_of, is_mpls}
use Rattle.wire_base.specs.model.Tlv.{Tlv, tlv_at, Reach, reach_at, Prefix, prefix_at, prefix_bits, entries_of, tlvs_before}
use Rattle.wire_base.specs.model.BierInfo.{Info, Parts, no_parts, take_known, take_if, take_part, then_parts, short, parts_within, parts_of, info_at, word_bsl, is_range}
use Rattle.wire_base.specs.model.Configuration.{IsSound, IsEnd, IsOwnSub, same_length}
use Rattle.wire_base.specs.model.OwnLsp.{picked, info_of}
use Rattle.wire_base.specs.model.View.{Link, greatest_metric, link_of, links_in, sub_of, sub_at, subs_of, subs_in, tlvs_of, end_link, claim_of, own_claim, claims_of}
use Rattle.wire_base.proofs.SoundLemmas.{sound_subs}
use Rattle.laws_format.proofs.FieldLaws.{bind_ok, ok_is, guarded}
use Rattle.laws_format.proofs.TlvLaws.{some_is}
use Rattle.laws_format.proofs.InfoLaws.{all_weaker}
use Rattle.view_graph.proofs.GraphLaws.{IsLink, HasApart, IsClaim, all_from, and_both, no_pairs}
use Rattle.wire_base.proofs.ClaimLaws.{all_put}
use Rattle.view_graph.proofs.ListLaws.{filter_map-first}

-- ---- words on lists

picked_all : {X : Type 0} (P : X → Type 0) (bs : List Bool) (xs : List X) → AllByRecursion P xs → AllByRecursion P (picked bs xs)
picked_all P [] xs all = tt
picked_all P (true ∷ bs) [] all = tt
picked_all P (false ∷ bs) [] all = tt
picked_all P (true ∷ bs) (x ∷ xs) all = (all.0, picked_all P bs xs all.1)
picked_all P (false ∷ bs) (x ∷ xs) all = picked_all P bs xs all.1

map_all : {X Y : Type 0} (P : Y → Type 0) (f : X → Y) (xs : List X) → AllByRecursion (λ x. P (f x)) xs → AllByRecursion P (map f xs)
map_all P f [] all = tt
map_all P f (x ∷ xs) all = (all.0, map_all P f xs all.1)

each_all : {X : Type 0} (P : X → Type 0) → ((x : X) → P x) → (xs : List X) → AllByRecursion P xs
each_all P h [] = tt
each_all P h (x ∷ xs) = (h x, each_all P h xs)

append_all : {X : Type 0} (P : X → Type 0) (xs ys : List X) → AllByRecursion P xs → AllByRecursion P ys → AllByRecursion P (xs ++ ys)
append_all P [] ys all more = more
append_all P (x ∷ xs) ys all more = (all.0, append_all P xs ys all.1 more)

flat_all : {X Y : Type 0} (P : Y → Type 0) (f : X → List Y) → ((x : X) → AllByRecursion P (f x)) → (xs : List X) → AllByRecursion P (flat_map f xs)
flat_all P f h [] = tt
flat_all P f h (x ∷ xs) = subst (AllByRecursion P) (sym (flat_map-cons f x xs)) (append_all P (f x) (flat_map f xs) (h x) (flat_all P f h xs))

some_all : {X Y : Type 0} (P : Y → Type 0) (f : X → Option Y) → ((x : X) (y : Y) → f x ≡ Some y → P y) → (xs : List X) → AllByRecursion P (filter_map f xs)
some_all P f h [] = tt
some_all {X} {Y} P f h (x ∷ xs) = subst (AllByRecursion P) (sym (filter_map-first f x xs)) (by (f x) refl (some_all P f h xs))
  where
    by : (o : Option Y) → f x ≡ o → AllByRecursion P (filter_map f xs) → AllByRecursion P (option_to_list (f x) ++ filter_map f xs)
    by None e more = rw e more
    by (Some y) e more = rw e (h x y e, more)

-- ---- links

end_good : (e : End) → IsEnd e → IsLink (end_link e)
end_good e h = record { positive = omega (arith, h.some); small = omega (arith, h.last) }

link_good : (r : Reach) (l : Link) → link_of r ≡ Some l → IsLink l
link_good r l e = by ((r.pseudonode == 0) && nat_lt r.metric greatest_metric) refl e
  where
    by : (b : Bool) → ((r.pseudonode == 0) && nat_lt r.metric greatest_metric) ≡ b → link_of r ≡ Some l → IsLink l
    by false f e = let first : link_of r ≡ None = rw f refl in let none : None ≡ Some l = sym first ∙ e in absurd cc
    by true f e =
        let x : Link = record { neighbour = r.neighbour; metric = max r.metric 1 } in
        let first : link_of r ≡ Some x = rw f refl in
        let low : r.metric < 16777215 = ltb-true r.metric 16777215 (and_both (r.pseudonode == 0) (nat_lt r.metric greatest_metric) f).1 in
        subst IsLink (some_is x l (sym first ∙ e)) (record { positive = omega arith; small = omega (arith, low) })

links_good : (t : Tlv) → AllByRecursion IsLink (links_in t)
links_good t = by (t.code == 22) refl
  where
    by : (b : Bool) → (t.code == 22) ≡ b → AllByRecursion IsLink (links_in t)
    by true e = rw e (some_all IsLink link_of link_good (entries_of reach_at t.value))
    by false e = rw e tt

-- ---- label ranges of one BIER Info

abbrev BslDiffer : LabelRange → LabelRange → Type 0
BslDiffer a b = a.bsl ≡ b.bsl → ⊥

apart_pairs : (rs : List LabelRange) → AreApart same_length rs → AllPairs BslDiffer rs
apart_pairs [] all = no_pairs BslDiffer
apart_pairs (x ∷ xs) all =
    AllPairs-cons BslDiffer x xs (all_from (λ y. BslDiffer x y) xs (all_weaker (λ y. same_length x y ≡ false) (λ y. BslDiffer x y) (λ y h e. true≢false (sym (eq-eqb (code_of x.bsl) (code_of y.bsl) (ap code_of e)) ∙ h)) xs all.0)) (apart_pairs xs all.1)

-- by recursion, for a list that grows at its end
Apart : List LabelRange → Type 0
Apart [] = Unit {0}
Apart (x ∷ xs) = AllByRecursion (λ y. BslDiffer x y) xs × Apart xs

apart_push : (rs : List LabelRange) (z : LabelRange) → Apart rs → AllByRecursion (λ x. BslDiffer x z) rs → Apart (rs ++ z ∷ [])
unfolding Apart
apart_push [] z all new = (tt, tt)
apart_push (x ∷ xs) z all new = (append_all (λ y. BslDiffer x y) xs (z ∷ []) all.0 (new.0, tt), apart_push xs z all.1 new.1)

pairs_apart : (rs : List LabelRange) → Apart rs → AllPairs BslDiffer rs
unfolding Apart
pairs_apart [] all = no_pairs BslDiffer
pairs_apart (x ∷ xs) all = AllPairs-cons BslDiffer x xs (all_from (λ y. BslDiffer x y) xs all.0) (pairs_apart xs all.1)

is_seen : List Bool → Bsl → Bool
is_seen seen b = get_or seen (code_of b - 1) false

-- the lengths of the ranges are seen, and differ
record IsParts (p : Parts) : Type 0 where
  pub long : length p.seen ≡ 7
  pub seen : AllByRecursion (λ r. is_seen p.seen r.bsl ≡ true) p.ranges
  pub apart : Apart p.ranges

place_small : (b : Bsl) → code_of b - 1 < 7
place_small B64 = omega arith
place_small B128 = omega arith
place_small B256 = omega arith
place_small B512 = omega arith
place_small B1024 = omega arith
place_small B2048 = omega arith
place_small B4096 = omega arith

set_keeps : (xs : List Bool) (i k : ℕ) → get_or xs k false ≡ true → get_or (set xs i true) k false ≡ true
set_keeps [] i k h = h
set_keeps (x ∷ xs) zero zero h = refl
set_keeps (x ∷ xs) zero (suc k) h = h
set_keeps (x ∷ xs) (suc i) zero h = h
set_keeps (x ∷ xs) (suc i) (suc k) h = set_keeps xs i k h

set_there : (xs : List Bool) (i : ℕ) → i < length xs → get_or (set xs i true) i false ≡ true
set_there [] i lt = absurd (omega (arith, lt))
set_there (x ∷ xs) zero lt = refl
set_there (x ∷ xs) (suc i) lt = set_there xs i (omega (arith, lt))

known_keeps : (p q : Parts) (bsl : Bsl) (word : ℕ) → take_known p bsl word ≡ Ok q → IsParts p → IsParts q
unfolding is_seen
known_keeps p q bsl word e ok =
    let place = code_of bsl - 1 in
    let g = guarded (get_or p.seen place false) faults.RepeatedLength _ q e in
    subst IsParts (ok_is {E = InfoFault} _ q g.1) (by (nat_lt 1048575 (word % 1048576 + word / 16777216)) refl g.0)
  where
    z : LabelRange
    z = record { bsl = bsl; max_si = word / 16777216; label = word % 1048576 }

    by : (b : Bool) → nat_lt 1048575 (word % 1048576 + word / 16777216) ≡ b → get_or p.seen (code_of bsl - 1) false ≡ false
        → IsParts (record { seen = set p.seen (code_of bsl - 1) true; ranges = if nat_lt 1048575 (word % 1048576 + word / 16777216) then p.ranges else p.ranges ++ record { bsl = bsl; max_si = word / 16777216; label = word % 1048576 } ∷ [] })
    by b f unseen =
        let before : AllByRecursion (λ r. is_seen (set p.seen (code_of bsl - 1) true) r.bsl ≡ true) p.ranges = all_weaker (λ (r : LabelRange). is_seen p.seen r.bsl ≡ true) (λ (r : LabelRange). is_seen (set p.seen (code_of bsl - 1) true) r.bsl ≡ true) (λ (r : LabelRange) h. set_keeps p.seen (code_of bsl - 1) (code_of r.bsl - 1) h) p.ranges ok.seen in
        let long : length (set p.seen (code_of bsl - 1) true) ≡ 7 = length-set p.seen (code_of bsl - 1) true ∙ ok.long in
        let there : is_seen (set p.seen (code_of bsl - 1) true) bsl ≡ true = set_there p.seen (code_of bsl - 1) (omega (arith, place_small bsl, ok.long)) in
        let new : AllByRecursion (λ x. BslDiffer x z) p.ranges = all_weaker (λ (r : LabelRange). is_seen p.seen r.bsl ≡ true) (λ (r : LabelRange). BslDiffer r z) (λ (r : LabelRange) h e. false≢true (sym unseen ∙ ap (λ y. get_or p.seen (code_of y - 1) false) (sym e) ∙ h)) p.ranges ok.seen in
        either b f before long there new
      where
        either : (b : Bool) → nat_lt 1048575 (word % 1048576 + word / 16777216) ≡ b → AllByRecursion (λ r. is_seen (set p.seen (code_of bsl - 1) true) r.bsl ≡ true) p.ranges → length (set p.seen (code_of bsl - 1) true) ≡ 7 → is_seen (set p.seen (code_of bsl - 1) true) bsl ≡ true → AllByRecursion (λ x. BslDiffer x z) p.ranges
            → IsParts (record { seen = set p.seen (code_of bsl - 1) true; ranges = if nat_lt 1048575 (word % 1048576 + word / 16777216) then p.ranges else p.ranges ++ record { bsl = bsl; max_si = word / 16777216; label = word % 1048576 } ∷ [] })
        either true f before long there new = rw f (record { long = long; seen = before; apart = ok.apart })
        either false f before long there new = rw f (record { long = long; seen = append_all (λ (r : LabelRange). is_seen (set p.seen (code_of bsl - 1) true) r.bsl ≡ true) p.ranges (z ∷ []) before (there, tt); apart = apart_push p.ranges z ok.apart new })

if_keeps : (p q : Parts) (o : Option Bsl) (word : ℕ) → take_if p o word ≡ Ok q → IsParts p → IsParts q
if_keeps p q None word e ok = subst IsParts (ok_is {E = InfoFault} p q e) ok
if_keeps p q (Some bsl) word e ok = known_keeps p q bsl word e ok

part_keeps : (p q : Parts) (t : Tlv) → take_part p t ≡ Ok q → IsParts p → IsParts q
unfolding take_part
part_keeps p q t e ok = by (is_range t) refl e
  where
    by : (b : Bool) → is_range t ≡ b → take_part p t ≡ Ok q → IsParts q
    by false f e = let first : take_part p t ≡ Ok p = rw f refl in subst IsParts (ok_is {E = InfoFault} p q (sym first ∙ e)) ok
    by true f e =
        let first : take_part p t ≡ (if not (length t.value == 4) then Err faults.Short else take_if p (word_bsl (big_number 4 t.value)) (big_number 4 t.value)) = rw f refl in
        let g = guarded (not (length t.value == 4)) faults.Short _ q (sym first ∙ e) in
        if_keeps p q (word_bsl (big_number 4 t.value)) (big_number 4 t.value) g.1 ok

parts_keep : (n : ℕ) (p q : Parts) (octets : List ℕ) → parts_within n p octets ≡ Ok q → IsParts p → IsParts q
unfolding parts_within
parts_keep zero p q octets e ok = subst IsParts (ok_is {E = InfoFault} p q e) ok
parts_keep (suc n) p q octets e ok = let b = bind_ok (short (tlv_at octets)) _ q e in by (λ r rest f k. parts_keep n r q rest f k) b.0 b.2
  where
    by : ((r : Parts) (rest : List ℕ) → parts_within n r rest ≡ Ok q → IsParts r → IsParts q) → (o : Option (Tlv × List ℕ)) → then_parts p o (parts_within n) ≡ Ok q → IsParts q
    by again None f = subst IsParts (ok_is {E = InfoFault} p q f) ok
    by again (Some x) f = let c = bind_ok (take_part p x.0) _ q f in again c.0 x.1 c.2 (part_keeps p c.0 x.0 c.1 ok)

info_apart : (value : List ℕ) (i : Info) → info_at value ≡ Ok i → AllPairs BslDiffer i.ranges
unfolding info_at Apart
info_apart value i e =
    let a = guarded _ faults.Short _ i e in
    let b = guarded _ faults.Algorithm _ i a.1 in
    let c = bind_ok (parts_of no_parts (drop 5 value)) _ i b.1 in
    let start : IsParts no_parts = record { long = refl; seen = tt; apart = tt } in
    let parts : IsParts c.0 = parts_keep (length (drop 5 value)) no_parts c.0 (drop 5 value) c.1 start in
    subst (λ (x : Info). AllPairs BslDiffer x.ranges) (ok_is {E = InfoFault} _ i c.2) (pairs_apart c.0.ranges parts.apart)

-- ---- places in sub-domains

sub_good : (prefix : List ℕ) (t : Tlv) (s : ViewSub) → sub_at prefix t ≡ Some s → HasApart s
sub_good prefix t s e = by (t.code == 32) refl (info_at t.value) refl e
  where
    by : (b : Bool) → (t.code == 32) ≡ b → (r : Result Info InfoFault) → info_at t.value ≡ r → sub_at prefix t ≡ Some s → HasApart s
    by false f r g e = let first : sub_at prefix t ≡ None = rw f refl in let none : None ≡ Some s = sym first ∙ e in absurd cc
    by true f (Err x) g e = let first : sub_at prefix t ≡ None = rw (f, g) refl in let none : None ≡ Some s = sym first ∙ e in absurd cc
    by true f (Ok i) g e = let first : sub_at prefix t ≡ Some (sub_of prefix i) = rw (f, g) refl in subst HasApart (some_is (sub_of prefix i) s (sym first ∙ e)) (info_apart t.value i g)

subs_good : (p : Prefix) → AllByRecursion HasApart (subs_of p)
subs_good p = by (prefix_bits p.control == 32) refl
  where
    by : (b : Bool) → (prefix_bits p.control == 32) ≡ b → AllByRecursion HasApart (subs_of p)
    by true e = rw e (some_all HasApart (sub_at p.octets) (sub_good p.octets) (tlvs_before p.subs))
    by false e = rw e tt

places_good : (t : Tlv) → AllByRecursion HasApart (subs_in t)
places_good t = by (t.code == 135) refl
  where
    by : (b : Bool) → (t.code == 135) ≡ b → AllByRecursion HasApart (subs_in t)
    by true e = rw e (flat_all HasApart subs_of subs_good (entries_of prefix_at t.value))
    by false e = rw e tt

-- ---- claims

claim_good : (entries : List Entry) (e : Entry) → IsClaim (claim_of entries e)
claim_good entries e = record { links = flat_all IsLink links_in links_good (tlvs_of entries e.id.system); ranges = flat_all HasApart subs_in places_good (tlvs_of entries e.id.system) }

own_good : (r : RouterConf) (up : List Bool) → IsSound r → IsClaim (own_claim r up)
own_good r up sound =
    record {
      links = map_all IsLink end_link (picked up r.ends) (picked_all (λ e. IsLink (end_link e)) up r.ends (all_weaker IsEnd (λ e. IsLink (end_link e)) end_good r.ends sound.ends));
      ranges = map_all HasApart (λ s. sub_of r.prefix.0 (info_of r.kinds s)) r.subs (all_weaker IsOwnSub (λ s. HasApart (sub_of r.prefix.0 (info_of r.kinds s))) own_sub r.subs (sound_subs r sound).each);
    }
  where
    own_sub : (s : OwnSub) → IsOwnSub s → HasApart (sub_of r.prefix.0 (info_of r.kinds s))
    own_sub s h = by (is_mpls (kind_of r.kinds s.sd)) refl
      where
        by : (b : Bool) → is_mpls (kind_of r.kinds s.sd) ≡ b → HasApart (sub_of r.prefix.0 (info_of r.kinds s))
        by true e = rw e (apart_pairs s.ranges h.lengths)
        by false e = rw e (no_pairs BslDiffer)

pub claims_good : (r : RouterConf) (up : List Bool) (entries : List Entry) → IsSound r → AllByRecursion IsClaim (claims_of r up entries)
unfolding claims_of
claims_good r up entries sound = all_put IsClaim (own_claim r up) _ (own_good r up sound) (map_all IsClaim (claim_of entries) _ (each_all (λ e. IsClaim (claim_of entries e)) (claim_good entries) _))
