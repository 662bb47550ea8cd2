-- What a router advertised keeps its meaning when its configuration changes.
use Rattle.std.proofs.Common.{◌≡◌, ℕ, true, false, List, [], ◌∷◌, ◌++◌, Option, Some, None, is_some, IfSome, option_map, refl, ap, sym, ◌∙◌, subst}
use Rattle.std.specs.List.{AllByRecursion, Contains}
use Rattle.std.proofs.lemmas.Bool.{true≢false, eq-eqb, cond-true, cond-false}
use Rattle.std.proofs.lemmas.List.Elements.{Contains-append_left}
use Rattle.std.proofs.lemmas.Option.{same_Some}
use Rattle.wire_base.specs.declared.conf.Kind.{Kind}
use Rattle.wire_base.specs.declared.conf.Kind.TheVariants.{Mpls, Configured}
use Rattle.wire_base.specs.declared.conf.LabelRange.{LabelRange}
use Rattle.wire_base.specs.declared.conf.OwnSub.{OwnSub}
use Rattle.wire_base.specs.declared.conf.RouterConf.{RouterConf}
use Rattle.wire_base.specs.declared.triple.Triple.{Triple}
use Rattle.wire_base.specs.model.Lists.{AreApart}
use Rattle.wire_base.specs.model.Configuration.{same_sub, IsSound, KeepsKinds}
use Rattle.wire_base.specs.model.Place.{kind_of, sub_in, row_in, bift_by, bift_of, own_bift, means, known_subs, known_ranges, ranges_of, StandsFor, IsMeaning}
use Rattle.wire_base.proofs.MeaningLemmas.{label_range, means_found, means_only, ranges_in_all}
use Rattle.wire_base.proofs.SoundLemmas.{all_left, apart_left}
use Rattle.laws_router.proofs.ListLaws.{no_None, each_contained, each_itself}
use Rattle.laws_router.proofs.SubLaws.{each_sub, sub_named}
use Rattle.laws_router.specs.Becoming.{IsSubOf, IsEarlier, IsLater}

-- ---- a BIFT-id that was advertised

id_known : (o : Option OwnSub) (k : ℕ) → option_map (λ (s : OwnSub). s.id) o ≡ Some k → is_some o ≡ true
id_known None k e = absurd (no_None k e)
id_known (Some s) k e = refl

advertised : (was now : RouterConf) (kind : Kind) (t : Triple) (bift : ℕ) (s : OwnSub) → IsSubOf now s → s.sd ≡ t.sd → now.table ≡ was.table → bift_by (Some kind) was.table s.ranges t ≡ Some bift → StandsFor now kind bift t
advertised was now Mpls t bift s sub sd table e =
    let l = label_range s.ranges t bift e in
    let known : Contains (known_ranges now) (record { sd = s.sd; range = l.0 }) = each_contained (λ x. Contains (known_ranges now) (record { sd = s.sd; range = x })) s.ranges l.0 l.1.0 sub.ranges l.1.1 l.1.2 in
    record { range = record { sd = s.sd; range = l.0 }; known = known; sd = sd; bsl = l.2; si = l.3; is = l.4 }
advertised was now Configured t bift s sub sd table e =
    record {
      sub = subst (λ n. is_some (sub_in (known_subs now) n) ≡ true) sd (id_known (sub_in (known_subs now) s.sd) s.id sub.id);
      row = ap (λ rows. row_in rows t) table ∙ e;
    }

pub earlier_meaning : (was now : RouterConf) (kind : Kind) (t : Triple) (bift : ℕ) → IsEarlier was now → kind_of now.kinds t.sd ≡ Some kind → own_bift was t ≡ Some bift → IsMeaning now kind bift t
earlier_meaning was now kind t bift earlier k e = record { kind_is = k; bift_is = by (sub_in was.subs t.sd) refl e }
  where
    of_was : kind_of was.kinds t.sd ≡ Some kind
    of_was = ap (λ (r : RouterConf). kind_of r.kinds t.sd) earlier.one ∙ k

    by : (o : Option OwnSub) → sub_in was.subs t.sd ≡ o → bift_of was.kinds was.table (option_map (λ (s : OwnSub). s.ranges) o) t ≡ Some bift → StandsFor now kind bift t
    by None is f = absurd (no_None bift f)
    by (Some s) is f =
        advertised was now kind t bift s (each_sub (IsSubOf now) was.subs t.sd s earlier.subs is) (sub_named was.subs t.sd s is)
        (ap (λ (r : RouterConf). r.table) (sym earlier.one)) (sym (ap (λ q. bift_by q was.table s.ranges t) of_was) ∙ f)

pub earlier_means : (was now : RouterConf) (kind : Kind) (t : Triple) (bift : ℕ) → IsEarlier was now → IsSound now → kind_of now.kinds t.sd ≡ Some kind → own_bift was t ≡ Some bift → means now kind bift ≡ Some t
earlier_means was now kind t bift earlier sound k e = means_only now kind bift t sound (earlier_meaning was now kind t bift earlier k e)

-- ---- a BIFT-id of now

stands_kept : (now next : RouterConf) (kind : Kind) (bift : ℕ) (t : Triple) → IsLater now next → StandsFor now kind bift t → StandsFor next kind bift t
stands_kept now next Mpls bift t later l =
    record { range = l.range; known = later.ranges l.range l.known; sd = l.sd; bsl = l.bsl; si = l.si; is = l.is }
stands_kept now next Configured bift t later l =
    record {
      sub = known (sub_in (known_subs now) t.sd) (sub_in (known_subs next) t.sd) (later.ids t.sd) l.sub;
      row = ap (λ (r : RouterConf). row_in r.table t) later.one ∙ l.row;
    }
  where
    known : (o p : Option OwnSub) → option_map (λ (s : OwnSub). s.id) p ≡ option_map (λ (s : OwnSub). s.id) o → is_some o ≡ true → is_some p ≡ true
    known None p e some = absurd (true≢false (sym some))
    known (Some s) p e some = id_known p s.id e

pub meaning_kept : (now next : RouterConf) (kind : Kind) (bift : ℕ) (t : Triple) → IsLater now next → IsMeaning now kind bift t → IsMeaning next kind bift t
meaning_kept now next kind bift t later m =
    record {
      kind_is = ap (λ (r : RouterConf). kind_of r.kinds t.sd) later.one ∙ m.kind_is;
      bift_is = stands_kept now next kind bift t later m.bift_is;
    }

from_some : {X : Type 0} (P : X → Type 0) (o : Option X) (x : X) → IfSome o P → o ≡ Some x → P x
from_some P None x h e = absurd (no_None x e)
from_some P (Some y) x h e = subst P (same_Some y x e) h

pub means_kept : (now next : RouterConf) (kind : Kind) (bift : ℕ) (t : Triple) → IsSound now → IsLater now next → means now kind bift ≡ Some t → means next kind bift ≡ Some t
means_kept now next kind bift t sound later e =
    means_only next kind bift t later.sound (meaning_kept now next kind bift t later (from_some (IsMeaning now kind bift) (means now kind bift) t (means_found now kind bift sound) e))

-- ---- earlier configurations

-- in a list without repetition each entry is found
found_each : (xs : List OwnSub) → AreApart same_sub xs → AllByRecursion (λ (s : OwnSub). sub_in xs s.sd ≡ Some s) xs
found_each [] apart = tt
found_each (x ∷ xs) apart = (cond-true _ _ _ (eq-eqb x.sd x.sd refl), later xs apart.0 (found_each xs apart.1))
  where
    later : (ys : List OwnSub) → AllByRecursion (λ y. same_sub x y ≡ false) ys → AllByRecursion (λ (s : OwnSub). sub_in xs s.sd ≡ Some s) ys → AllByRecursion (λ (s : OwnSub). sub_in (x ∷ xs) s.sd ≡ Some s) ys
    later [] other all = tt
    later (y ∷ ys) other all = (cond-false _ _ _ other.0 ∙ all.0, later ys other.1 all.1)

pub earlier_self : (r : RouterConf) → IsSound r → KeepsKinds r → IsEarlier r r
earlier_self r sound kinds = record { one = refl; sound = sound; kinds = kinds; subs = by r.subs known own }
  where
    known : AllByRecursion (λ (s : OwnSub). sub_in (known_subs r) s.sd ≡ Some s) r.subs
    known = all_left (λ (s : OwnSub). sub_in (known_subs r) s.sd ≡ Some s) r.subs r.away (found_each (known_subs r) sound.subdomains)

    own : AllByRecursion (λ (s : OwnSub). sub_in r.subs s.sd ≡ Some s) r.subs
    own = found_each r.subs (apart_left same_sub r.subs r.away sound.subdomains)

    in_known : (s : OwnSub) → sub_in r.subs s.sd ≡ Some s → (xs : List LabelRange) → AllByRecursion (Contains s.ranges) xs → AllByRecursion (λ x. Contains (known_ranges r) (record { sd = s.sd; range = x })) xs
    in_known s e [] all = tt
    in_known s e (x ∷ xs) all = (Contains-append_left (ranges_of r.subs) (ranges_of r.away ++ r.past) _ (ranges_in_all r.subs s.sd s x e all.0), in_known s e xs all.1)

    by : (xs : List OwnSub) → AllByRecursion (λ (s : OwnSub). sub_in (known_subs r) s.sd ≡ Some s) xs → AllByRecursion (λ (s : OwnSub). sub_in r.subs s.sd ≡ Some s) xs → AllByRecursion (IsSubOf r) xs
    by [] k o = tt
    by (s ∷ xs) k o = (record { id = ap (option_map (λ (y : OwnSub). y.id)) k.0; ranges = in_known s o.0 s.ranges (each_itself s.ranges) }, by xs k.1 o.1)

pub earlier_kept : (was now next : RouterConf) → IsEarlier was now → IsLater now next → IsEarlier was next
earlier_kept was now next earlier later =
    record {
      one = earlier.one ∙ sym (ap (λ (r : RouterConf). record r { subs = was.subs; away = was.away; past = was.past }) later.one);
      sound = earlier.sound;
      kinds = earlier.kinds;
      subs = kept was.subs earlier.subs;
    }
  where
    ranges_kept : (sd : ℕ) (xs : List LabelRange) → AllByRecursion (λ x. Contains (known_ranges now) (record { sd = sd; range = x })) xs → AllByRecursion (λ x. Contains (known_ranges next) (record { sd = sd; range = x })) xs
    ranges_kept sd [] all = tt
    ranges_kept sd (x ∷ xs) all = (later.ranges (record { sd = sd; range = x }) all.0, ranges_kept sd xs all.1)

    kept : (xs : List OwnSub) → AllByRecursion (IsSubOf now) xs → AllByRecursion (IsSubOf next) xs
    kept [] all = tt
    kept (s ∷ xs) all = (record { id = later.ids s.sd ∙ all.0.id; ranges = ranges_kept s.sd s.ranges all.0.ranges }, kept xs all.1)
