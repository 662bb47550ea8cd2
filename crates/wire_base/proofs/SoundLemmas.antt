-- What a sound configuration says of the sub-domains that its router is in, and soundness of a router that has left none.
use Rattle.std.proofs.Common.{◌≡◌, ℕ, ◌+◌, ◌*◌, ◌≤◌, Bool, false, List, [], ◌∷◌, ◌++◌, length, map, refl, ap, sym, ◌∙◌, subst, arith}
use Rattle.std.specs.List.{AllByRecursion, flat_map}
use Rattle.std.proofs.lemmas.List.{append-nil, length-append, map-append}
use Rattle.std.proofs.lemmas.List.Sums.{sum_by-append}
use Rattle.wire_base.specs.declared.limits.TheConstants.{MOST_SUB_OCTETS, MOST_SUBDOMAINS}
use Rattle.wire_base.specs.declared.conf.LabelRange.{LabelRange}
use Rattle.wire_base.specs.declared.conf.OwnSub.{OwnSub}
use Rattle.wire_base.specs.declared.conf.PastRange.{PastRange}
use Rattle.wire_base.specs.declared.conf.RouterConf.{RouterConf}
use Rattle.wire_base.specs.model.Lists.{AreApart}
use Rattle.wire_base.specs.model.Place.{placed, ranges_of}
use Rattle.wire_base.specs.model.Configuration.{share_label, share_range, same_sub, sub_octets, IsOwnSub, IsSound}

-- the label ranges of sub-domains
abbrev pub all_ranges : List OwnSub → List LabelRange
all_ranges subs = flat_map (λ s. s.ranges) subs

-- what a sound router's sub-domains of now have
pub record AreSubs (subs : List OwnSub) : Type 0 where
  pub few : length subs ≤ MOST_SUBDOMAINS
  pub each : AllByRecursion IsOwnSub subs
  pub apart : AreApart same_sub subs
  pub labels : AreApart share_label (all_ranges subs)
  pub room : sub_octets subs ≤ MOST_SUB_OCTETS

pub all_left : {X : Type 0} (P : X → Type 0) (xs ys : List X) → AllByRecursion P (xs ++ ys) → AllByRecursion P xs
all_left P [] ys a = tt
all_left P (x ∷ xs) ys a = (a.0, all_left P xs ys a.1)

pub all_right : {X : Type 0} (P : X → Type 0) (xs ys : List X) → AllByRecursion P (xs ++ ys) → AllByRecursion P ys
all_right P [] ys a = a
all_right P (x ∷ xs) ys a = all_right P xs ys a.1

pub all_both : {X : Type 0} (P : X → Type 0) (xs ys : List X) → AllByRecursion P xs → AllByRecursion P ys → AllByRecursion P (xs ++ ys)
all_both P [] ys a b = b
all_both P (x ∷ xs) ys a b = (a.0, all_both P xs ys a.1 b)

pub apart_left : {X : Type 0} (same : X → X → Bool) (xs ys : List X) → AreApart same (xs ++ ys) → AreApart same xs
apart_left same [] ys d = tt
apart_left same (x ∷ xs) ys d = (all_left (λ y. same x y ≡ false) xs ys d.0, apart_left same xs ys d.1)

pub apart_right : {X : Type 0} (same : X → X → Bool) (xs ys : List X) → AreApart same (xs ++ ys) → AreApart same ys
apart_right same [] ys d = d
apart_right same (x ∷ xs) ys d = apart_right same xs ys d.1

-- ranges without their sub-domains
bare : (subs : List OwnSub) → map (λ (x : PastRange). x.range) (ranges_of subs) ≡ all_ranges subs
bare [] = refl
bare (s ∷ subs) = map-append (λ (x : PastRange). x.range) (placed s.sd s.ranges) (ranges_of subs) ∙ ap (λ l. map (λ (x : PastRange). x.range) (placed s.sd s.ranges) ++ l) (bare subs) ∙ ap (λ l. l ++ all_ranges subs) (of_one s.sd s.ranges)
  where
    of_one : (sd : ℕ) (xs : List LabelRange) → map (λ (x : PastRange). x.range) (placed sd xs) ≡ xs
    of_one sd [] = refl
    of_one sd (x ∷ xs) = ap (λ l. x ∷ l) (of_one sd xs)

bare_all : (x : PastRange) (xs : List PastRange) → AllByRecursion (λ y. share_range x y ≡ false) xs → AllByRecursion (λ y. share_label x.range y ≡ false) (map (λ (y : PastRange). y.range) xs)
bare_all x [] a = tt
bare_all x (y ∷ ys) a = (a.0, bare_all x ys a.1)

bare_apart : (xs : List PastRange) → AreApart share_range xs → AreApart share_label (map (λ (x : PastRange). x.range) xs)
bare_apart [] d = tt
bare_apart (x ∷ xs) d = (bare_all x xs d.0, bare_apart xs d.1)

placed_all : (x : PastRange) (xs : List PastRange) → AllByRecursion (λ y. share_label x.range y ≡ false) (map (λ (y : PastRange). y.range) xs) → AllByRecursion (λ y. share_range x y ≡ false) xs
placed_all x [] a = tt
placed_all x (y ∷ ys) a = (a.0, placed_all x ys a.1)

placed_apart : (xs : List PastRange) → AreApart share_label (map (λ (x : PastRange). x.range) xs) → AreApart share_range xs
placed_apart [] d = tt
placed_apart (x ∷ xs) d = (placed_all x xs d.0, placed_apart xs d.1)

octets_both : (xs ys : List OwnSub) → sub_octets (xs ++ ys) ≡ sub_octets xs + sub_octets ys
unfolding sub_octets
octets_both xs ys = sum_by-append (λ (s : OwnSub). 7 + 6 * length s.ranges) xs ys

-- of a sound router
pub sound_subs : (r : RouterConf) → IsSound r → AreSubs r.subs
sound_subs r sound =
    let long = length-append r.subs r.away in
    let octets = octets_both r.subs r.away in
    record {
      few = omega (arith, sound.few_subs, long);
      each = all_left IsOwnSub r.subs r.away sound.subs;
      apart = apart_left same_sub r.subs r.away sound.subdomains;
      labels = subst (AreApart share_label) (bare r.subs) (bare_apart (ranges_of r.subs) (apart_left share_range (ranges_of r.subs) (ranges_of r.away ++ r.past) sound.labels));
      room = omega (arith, sound.room, octets);
    }

-- and of one that has left none, and has had no other ranges
pub record AreStill (subs : List OwnSub) : Type 0 where
  pub few : length (subs ++ []) ≤ MOST_SUBDOMAINS
  pub each : AllByRecursion IsOwnSub (subs ++ [])
  pub apart : AreApart same_sub (subs ++ [])
  pub labels : AreApart share_range (ranges_of subs ++ [])
  pub room : sub_octets (subs ++ []) ≤ MOST_SUB_OCTETS

pub still : (subs : List OwnSub) → AreSubs subs → AreStill subs
still subs s =
    let same = sym (append-nil subs) in
    record {
      few = subst (λ l. length l ≤ MOST_SUBDOMAINS) same s.few;
      each = subst (AllByRecursion IsOwnSub) same s.each;
      apart = subst (AreApart same_sub) same s.apart;
      labels = subst (AreApart share_range) (sym (append-nil (ranges_of subs))) (placed_apart (ranges_of subs) (subst (AreApart share_label) (sym (bare subs)) s.labels));
      room = subst (λ l. sub_octets l ≤ MOST_SUB_OCTETS) same s.room;
    }

-- what is true of each sub-domain of now is true of each, where none was left
pub each_still : (P : OwnSub → Type 0) (subs : List OwnSub) → AllByRecursion P subs → AllByRecursion P (subs ++ [])
each_still P subs a = subst (AllByRecursion P) (sym (append-nil subs)) a
