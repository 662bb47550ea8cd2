-- What holds of the entries of a grown domain.
use Rattle.std.proofs.Common.{◌≡◌, ℕ, ◌+◌, ◌/◌, ◌%◌, ◌<◌, ◌≤◌, nat_lt, Bool, true, false, ◌&&◌, cond, eqb, List, [], ◌∷◌, length, map, refl, sym, subst, ◌∙◌, arith}
use mathlib.Core.Bool.{true≢false}
use Rattle.std.proofs.lemmas.Bool.{and_from, or_from, or_left, or_right, eqb-false, ne_eqb, le-leb}
use Rattle.std.proofs.lemmas.Fmt.{decimal_is_IsNumeral, length-decimal-le, decimal_injective}
use Rattle.std.proofs.lemmas.Slice.Eq.{bytes_eq-Decides}
use Rattle.std.proofs.lemmas.Str.Parse.{digit_from_value}
use Rattle.std.proofs.lemmas.List.FromFn.{length-map-range_with_len}
use Rattle.std.specs.Fmt.{decimal}
use Rattle.std.specs.List.{AllByRecursion, list_all, range_with_len}
use Rattle.std.specs.Str.{bytes_eq}
use Rattle.std.specs.Str.Parse.{AllDigits}
use Rattle.wire_base.specs.declared.limits.TheConstants.{MOST_ROUTERS}
use Rattle.wire_base.specs.model.Configuration.{IsStation, is_name_octet}
use Rattle.wire_base.specs.model.Lists.{AreApart}
use Rattle.domain_conf.specs.LabelRanges.{same_labels, takes_label}
use Rattle.domain_conf.specs.Links.{made_mac, same_routers, has_peer_mac}
use Rattle.domain_conf.proofs.ValidAmong.{all_in, all_map, apart_map}
use Rattle.domain_conf.proofs.ValidArrays.{IsRouterEntry, AreRouters, IsBierEntry, AreBiers, IsLabelsEntry, AreLabels, IsLinkEntry, AreLinks, of_name, of_system, of_prefix, of_sub, share_peer_mac}
use Rattle.domain_conf.proofs.ValidDomain.{AreEntries}
use Rattle.grown_domain.specs.declared.links.Link.{Link}
use Rattle.grown_domain.specs.Links.{joins_same, grown_links}
use Rattle.grown_domain.specs.Routers.{system, prefix, last_set, kind}
use Rattle.grown_domain.specs.Entries.{router_entry, bier_entry, labels_entry, link_entry, grown_entries}
use Rattle.grown_domain.proofs.Ranged.{in_range, range_apart, bytes_differ}
use Rattle.grown_domain.proofs.GrownLinks.{IsGrownLink, AreGrown, joins_straight, joins_crossed, grown_links_are}

-- ---- routers

digits_name : (ds : List ℕ) → AllDigits 10 ds → list_all is_name_octet ds ≡ true
digits_name [] all = refl
digits_name (d ∷ ds) all =
    let h = digit_from_value d all.0 in
    and_from (is_name_octet d) (list_all is_name_octet ds)
    (or_right _ _ (or_left _ _ (and_from _ _ (le-leb 48 d (omega (arith, h))) (le-leb d 57 (omega (arith, h))))))
    (digits_name ds all.1)

router_is : (i : ℕ) → i < MOST_ROUTERS → IsRouterEntry (router_entry i)
router_is i few = record {
  name = and_from _ _ (digits_name (decimal i) (decimal_is_IsNumeral i (omega (arith, few))).0.1) (le-leb (length (decimal i)) 31 (length-decimal-le 31 i (omega arith) (omega (arith, few)) (omega (arith, few))));
  system = record { long = refl; each = (omega arith, (omega arith, (omega arith, (omega arith, (omega arith, (omega arith, tt)))))) };
  prefix = record {
    octets_are = record { long = refl; each = (omega arith, (omega arith, (omega (arith, few), (omega arith, tt)))) };
    first = omega arith;
    one_router = omega arith;
  };
}

names_differ : (i j : ℕ) → i < MOST_ROUTERS → j < MOST_ROUTERS → eqb i j ≡ false → of_name (router_entry i) (router_entry j) ≡ false
names_differ i j p q differ = bytes_differ (decimal j) (decimal i) (λ e. eqb-false i j differ (sym (decimal_injective j i (omega (arith, q)) (omega (arith, p)) e)))

systems_differ : (i j : ℕ) → i < MOST_ROUTERS → j < MOST_ROUTERS → eqb i j ≡ false → of_system (router_entry i) (router_entry j) ≡ false
systems_differ i j p q differ = bytes_differ (system j).0 (system i).0 (λ e. let low : (j + 1) % 256 ≡ (i + 1) % 256 = cc in let high : (j + 1) / 256 % 256 ≡ (i + 1) / 256 % 256 = cc in eqb-false i j differ (omega (arith, low, high, p, q)))

prefixes_differ : (i j : ℕ) → i < MOST_ROUTERS → j < MOST_ROUTERS → eqb i j ≡ false → of_prefix (router_entry i) (router_entry j) ≡ false
prefixes_differ i j p q differ = bytes_differ (prefix j).0 (prefix i).0 (λ e. let low : (j + 1) % 256 ≡ (i + 1) % 256 = cc in let high : (j + 1) / 256 ≡ (i + 1) / 256 = cc in eqb-false i j differ (omega (arith, low, high)))

-- what holds of any two routers that differ holds of all
module _ {X : Type 0} (n : ℕ) (few : n ≤ MOST_ROUTERS) (same : X → X → Bool) (f : ℕ → X) (differ : (i j : ℕ) → i < MOST_ROUTERS → j < MOST_ROUTERS → eqb i j ≡ false → same (f i) (f j) ≡ false) where
  all_apart : AreApart same (map f (range_with_len 0 n))
  all_apart = apart_map eqb same f (range_with_len 0 n) (λ i j here there d. let h = in_range 0 n i here in let k = in_range 0 n j there in differ i j (omega (arith, h, few)) (omega (arith, k, few)) d) (range_apart 0 n)

all_made : {X : Type 0} (P : X → Type 0) (f : ℕ → X) (n : ℕ) → n ≤ MOST_ROUTERS → ((i : ℕ) → i < MOST_ROUTERS → P (f i)) → AllByRecursion P (map f (range_with_len 0 n))
all_made P f n few h = all_map P f (range_with_len 0 n) (λ i there. let k = in_range 0 n i there in h i (omega (arith, k, few)))

routers_are : (n : ℕ) → n ≤ MOST_ROUTERS → AreRouters (map router_entry (range_with_len 0 n))
routers_are n few = record {
  each = all_made IsRouterEntry router_entry n few router_is;
  names = all_apart n few of_name router_entry names_differ;
  systems = all_apart n few of_system router_entry systems_differ;
  prefixes = all_apart n few of_prefix router_entry prefixes_differ;
}

-- ---- their sub-domains

-- entries of different routers
other_router : (i j : ℕ) (b : Bool) → eqb i j ≡ false → (eqb j i && b) ≡ false
other_router i j b differ = rw (ne_eqb j i (λ e. eqb-false i j differ (sym e))) refl

biers_are : (n : ℕ) → n ≤ MOST_ROUTERS → AreBiers (kind ∷ []) (map bier_entry (range_with_len 0 n))
biers_are n few = record {
  each = all_made (IsBierEntry (kind ∷ [])) bier_entry n few (λ i h. record { sd = omega arith; kind = refl; id = omega (arith, h) });
  once = all_apart n few of_sub bier_entry (λ i j p q differ. other_router i j _ differ);
}

few_sets : (n : ℕ) → last_set n ≤ 3
few_sets n = by (nat_lt 256 n)
  where
    by : (b : Bool) → cond b 3 0 ≤ 3
    by true = omega arith
    by false = omega arith

labels_are : (n : ℕ) → n ≤ MOST_ROUTERS → AreLabels (kind ∷ []) (map (labels_entry n) (range_with_len 0 n))
labels_are n few = record {
  each = all_made (IsLabelsEntry (kind ∷ [])) (labels_entry n) n few (λ i h. record { range = record { max_si = omega (arith, few_sets n); first = omega arith; last = omega (arith, few_sets n) }; kind = refl });
  lengths = all_apart n few same_labels (labels_entry n) (λ i j p q differ. other_router i j _ differ);
  free = all_apart n few takes_label (labels_entry n) (λ i j p q differ. other_router i j _ differ);
}

-- ---- links

-- the address of an end tells both routers
made_tells : (x y u v : ℕ) → bytes_eq (made_mac x y).0 (made_mac u v).0 ≡ true → (x ≡ u) × (y ≡ v)
unfolding made_mac
made_tells x y u v e =
    let same : (made_mac x y).0 ≡ (made_mac u v).0 = (bytes_eq-Decides (made_mac x y).0 (made_mac u v).0).0 e in
    let a : x / 256 ≡ u / 256 = cc in
    let b : x % 256 ≡ u % 256 = cc in
    let c : y / 256 ≡ v / 256 = cc in
    let d : y % 256 ≡ v % 256 = cc in
    (omega (arith, a, b), omega (arith, c, d))

made_station : (x y : ℕ) → x < 65536 → y < 65536 → IsStation (made_mac x y).0
unfolding made_mac
made_station x y p q = record { octets_are = record { long = refl; each = (omega arith, (omega arith, (omega (arith, p), (omega arith, (omega (arith, q), (omega arith, tt)))))) }; one_station = refl }

link_is : (n : ℕ) → n ≤ MOST_ROUTERS → (l : Link) → IsGrownLink n l → IsLinkEntry n (link_entry l)
link_is n few l is = record {
  a = is.a;
  b = is.b;
  differ = is.differ;
  some_ab = is.some;
  last_ab = is.last;
  some_ba = is.some;
  last_ba = is.last;
  mac_a = made_station l.a l.b (omega (arith, is.a, few)) (omega (arith, is.b, few));
  mac_b = made_station l.b l.a (omega (arith, is.b, few)) (omega (arith, is.a, few));
}

-- two links that would give a router two peers of one address join the same two routers
macs_differ : (l m : Link) → joins_same l m ≡ false → share_peer_mac (link_entry l) (link_entry m) ≡ false
macs_differ l m apart =
    or_from (has_peer_mac l.b (made_mac l.a l.b) (link_entry m)) (has_peer_mac l.a (made_mac l.b l.a) (link_entry m))
    (or_from _ _
    (one (eqb m.a l.b) (bytes_eq (made_mac m.b m.a).0 (made_mac l.a l.b).0) (λ p q. let t = made_tells m.b m.a l.a l.b q in crossed (sym t.0) (sym t.1)))
    (one (eqb m.b l.b) (bytes_eq (made_mac m.a m.b).0 (made_mac l.a l.b).0) (λ p q. let t = made_tells m.a m.b l.a l.b q in straight (sym t.0) (sym t.1))))
    (or_from _ _
    (one (eqb m.a l.a) (bytes_eq (made_mac m.b m.a).0 (made_mac l.b l.a).0) (λ p q. let t = made_tells m.b m.a l.b l.a q in straight (sym t.1) (sym t.0)))
    (one (eqb m.b l.a) (bytes_eq (made_mac m.a m.b).0 (made_mac l.b l.a).0) (λ p q. let t = made_tells m.a m.b l.b l.a q in crossed (sym t.1) (sym t.0))))
  where
    one : (a b : Bool) → (a ≡ true → b ≡ true → ⊥) → (a && b) ≡ false
    one true true h = absurd (h refl refl)
    one true false h = refl
    one false b h = refl

    straight : l.a ≡ m.a → l.b ≡ m.b → ⊥
    straight p q = true≢false (sym (joins_straight l m p q) ∙ apart)

    crossed : l.a ≡ m.b → l.b ≡ m.a → ⊥
    crossed p q = true≢false (sym (joins_crossed l m p q) ∙ apart)

links_are : (n : ℕ) → n ≤ MOST_ROUTERS → (links : List Link) → AreGrown n links → AreLinks n (map link_entry links)
links_are n few links are = record {
  each = all_map (IsLinkEntry n) link_entry links (λ l there. link_is n few l (all_in (IsGrownLink n) links l are.each there));
  once = apart_map joins_same same_routers link_entry links (λ l m here there apart. apart) are.once;
  macs = apart_map joins_same share_peer_mac link_entry links (λ l m here there apart. macs_differ l m apart) are.once;
}

-- ---- all of them

pub grown_entries_are : (n : ℕ) → 3 ≤ n → n ≤ MOST_ROUTERS → AreEntries (grown_entries n (grown_links n))
grown_entries_are n some few =
    let count = length-map-range_with_len router_entry 0 n in
    record {
      kinds = record { each = (omega arith, tt); once = (tt, tt) };
      few_kinds = omega arith;
      rows = record { each = tt; kind = tt; triples = tt; bifts = tt };
      few_rows = omega arith;
      routers = routers_are n few;
      some = omega (arith, count, some);
      few = omega (arith, count, few);
      biers = biers_are n few;
      labels = labels_are n few;
      links = subst (λ k. AreLinks k (map link_entry (grown_links n))) (sym count) (links_are n few (grown_links n) (grown_links_are n some));
    }
