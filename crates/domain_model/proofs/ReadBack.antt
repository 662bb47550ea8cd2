-- What a router says in its own LSP is read back by every other router as what it claims itself.
use Rattle.std.proofs.Common.{◌≡◌, ℕ, zero, suc, ◌+◌, ◌<◌, ◌≤◌, max, Bool, true, false, if◌then◌else◌, List, [], ◌∷◌, ◌++◌, length, take, drop, map, Some, refl, sym, ap, ◌∙◌, arith}
use Rattle.std.specs.List.{AllByRecursion, flat_map, filter_map}
use Rattle.std.proofs.lemmas.Bool.{lt-ltb}
use Rattle.std.proofs.lemmas.List.{append-nil, take-append-drop, length-drop}
use Rattle.std.proofs.lemmas.List.Concat.{flat_map-append}
use Rattle.wire_base.specs.declared.conf.End.{End}
use Rattle.wire_base.specs.declared.conf.Level.{Level}
use Rattle.wire_base.specs.declared.conf.Level.TheVariants.{One, Two}
use Rattle.wire_base.specs.declared.conf.OwnSub.{OwnSub}
use Rattle.wire_base.specs.declared.conf.RouterConf.{RouterConf}
use Rattle.wire_base.specs.declared.conf.SubKind.{SubKind}
use Rattle.wire_base.specs.declared.view.ViewSub.{ViewSub}
use Rattle.wire_base.specs.model.BierInfo.{InfoFits, info_tlv}
use Rattle.wire_base.specs.model.Configuration.{IsSound, IsEnd, IsOwnSub}
use Rattle.wire_base.specs.model.Lists.{blocks, blocks_within}
use Rattle.wire_base.specs.model.OwnLsp.{picked, reach_of, most_in_tlv, reach_tlv, reach_tlvs, info_of, control_for, own_prefix, prefix_tlv, own_tlvs, own_content, level_bits, own_flags}
use Rattle.wire_base.specs.model.Place.{kind_of, is_mpls}
use Rattle.wire_base.specs.model.Tlv.{tlv, ReachFits, reach, reach_at, PrefixFits, prefix, prefix_at, prefix_bits, padded, entries_of, tlvs_before}
use Rattle.wire_base.proofs.SoundLemmas.{sound_subs}
use Rattle.wire_base.specs.model.View.{Link, link_of, links_in, sub_of, sub_at, accepted, subs_of, subs_in, is_overload_flag, end_link}
use Rattle.laws_format.proofs.InfoLaws.{info_again}
use Rattle.laws_format.proofs.TlvListLaws.{reaches_again, prefixes_again, before_spelled}
use Rattle.laws_format.proofs.ContentLaws.{sub_fits, bare_fits, subs_follow, picked_all, each_taken, each_dropped}
use Rattle.domain_model.proofs.EachLaws.{each_weaker, each_mapped}

-- ---- words on lists

flat_mapped : {X Y Z : Type 0} (f : Y → List Z) (g : X → Y) (xs : List X) → flat_map f (map g xs) ≡ flat_map (λ x. f (g x)) xs
flat_mapped f g [] = refl
flat_mapped {X} {Y} {Z} f g (x ∷ xs) = ap (λ (l : List Z). f (g x) ++ l) (flat_mapped f g xs)

pub map_joined : {X Y : Type 0} (f : X → Y) (xs ys : List X) → map f (xs ++ ys) ≡ map f xs ++ map f ys
map_joined f [] ys = refl
map_joined {X} {Y} f (x ∷ xs) ys = ap (λ (l : List Y). f x ∷ l) (map_joined f xs ys)

-- ---- links

reach_fits : (e : End) → IsEnd e → ReachFits (reach_of e)
reach_fits e is = record { neighbour = is.peer.long; pseudonode = omega arith; metric = omega (arith, is.last); subs = omega arith }

link_read : (e : End) → IsEnd e → link_of (reach_of e) ≡ Some (end_link e)
link_read e is =
    let m : max e.metric 1 ≡ e.metric = omega (arith, is.some) in
    rw (lt-ltb e.metric 16777215 (omega (arith, is.last))) (ap (λ (n : ℕ). Some (record { neighbour = e.peer; metric = n })) m)

links_read : (es : List End) → AllByRecursion IsEnd es → filter_map link_of (map reach_of es) ≡ map end_link es
links_read [] all = refl
links_read (e ∷ es) all = rw (link_read e all.0) (ap (λ (ls : List Link). end_link e ∷ ls) (links_read es all.1))

block_read : (es : List End) → AllByRecursion IsEnd es → links_in (reach_tlv es) ≡ map end_link es
block_read es all =
    let rs = map reach_of es in
    let fits : AllByRecursion ReachFits rs = each_mapped ReachFits reach_of es (each_weaker IsEnd (λ e. ReachFits (reach_of e)) reach_fits es all) in
    ap (λ (l : List ℕ). filter_map link_of (entries_of reach_at l)) (sym (flat_mapped reach reach_of es)) ∙ ap (filter_map link_of) (reaches_again rs fits) ∙ links_read es all

blocks_read : (m : ℕ) (es : List End) → length es ≤ m → AllByRecursion IsEnd es → flat_map links_in (map reach_tlv (blocks_within m most_in_tlv es)) ≡ map end_link es
blocks_read zero [] few all = refl
blocks_read zero (e ∷ es) few all = absurd (omega arith)
blocks_read (suc m) [] few all = refl
blocks_read (suc m) (e ∷ es) few all =
    let xs = e ∷ es in
    let l = length-drop 23 xs in
    ap (λ (ls : List Link). ls ++ flat_map links_in (map reach_tlv (blocks_within m most_in_tlv (drop 23 xs)))) (block_read (take 23 xs) (each_taken IsEnd 23 xs all))
    ∙ ap (λ (ls : List Link). map end_link (take 23 xs) ++ ls) (blocks_read m (drop 23 xs) (omega (arith, l, few)) (each_dropped IsEnd 23 xs all))
    ∙ sym (map_joined end_link (take 23 xs) (drop 23 xs)) ∙ ap (map end_link) (take-append-drop 23 xs)

-- ---- sub-domains

info_fits : (kinds : List SubKind) (s : OwnSub) → IsOwnSub s → InfoFits (info_of kinds s)
info_fits kinds s is = by (is_mpls (kind_of kinds s.sd))
  where
    by : (b : Bool) → InfoFits (record { sd = s.sd; id = s.id; ranges = if b then s.ranges else [] })
    by true = sub_fits s is
    by false = bare_fits s (record { sd = s.sd; id = s.id; ranges = [] }) is refl refl refl

sub_read : (octets : List ℕ) (kinds : List SubKind) (s : OwnSub) → IsOwnSub s → sub_at octets (info_tlv (info_of kinds s)) ≡ Some (sub_of octets (info_of kinds s))
sub_read octets kinds s is = ap (accepted octets) (info_again (info_of kinds s) (info_fits kinds s is))

subs_read : (octets : List ℕ) (kinds : List SubKind) (subs : List OwnSub) → AllByRecursion IsOwnSub subs → filter_map (sub_at octets) (map (λ s. info_tlv (info_of kinds s)) subs) ≡ map (λ s. sub_of octets (info_of kinds s)) subs
subs_read octets kinds [] all = refl
subs_read octets kinds (s ∷ subs) all = rw (sub_read octets kinds s all.0) (ap (λ (vs : List ViewSub). sub_of octets (info_of kinds s) ∷ vs) (subs_read octets kinds subs all.1))

control_bits : (subs : List OwnSub) → prefix_bits (control_for subs) ≡ 32
control_bits [] = refl
control_bits (s ∷ subs) = refl

control_small : (subs : List OwnSub) → control_for subs < 256
control_small [] = omega arith
control_small (s ∷ subs) = omega arith

four_padded : (octets : List ℕ) → length octets ≡ 4 → octets ≡ padded (take 4 octets)
four_padded (a ∷ b ∷ c ∷ d ∷ []) long = refl
four_padded [] long = absurd (omega (arith, long))
four_padded (a ∷ []) long = absurd (omega (arith, long))
four_padded (a ∷ b ∷ []) long = absurd (omega (arith, long))
four_padded (a ∷ b ∷ c ∷ []) long = absurd (omega (arith, long))
four_padded (a ∷ b ∷ c ∷ d ∷ e ∷ more) long = absurd (omega (arith, long))

prefix_fits : (r : RouterConf) → IsSound r → PrefixFits (own_prefix r)
prefix_fits r sound = record {
  metric = omega arith;
  control = control_small r.subs;
  bits = rw (control_bits r.subs) (omega arith);
  octets = rw (control_bits r.subs) (four_padded r.prefix.0 sound.prefix.octets_are.long);
  subs = subs_follow r.kinds r.subs (sound_subs r sound).room;
}

places_read : (r : RouterConf) → IsSound r → subs_of (own_prefix r) ≡ map (λ s. sub_of r.prefix.0 (info_of r.kinds s)) r.subs
places_read r sound =
    rw (control_bits r.subs)
    (ap (λ (l : List ℕ). filter_map (sub_at r.prefix.0) (tlvs_before l)) (sym (flat_mapped tlv (λ (s : OwnSub). info_tlv (info_of r.kinds s)) r.subs))
    ∙ ap (filter_map (sub_at r.prefix.0)) (before_spelled (map (λ s. info_tlv (info_of r.kinds s)) r.subs))
    ∙ subs_read r.prefix.0 r.kinds r.subs (sound_subs r sound).each)

prefix_read : (r : RouterConf) → IsSound r → subs_in (prefix_tlv r) ≡ map (λ s. sub_of r.prefix.0 (info_of r.kinds s)) r.subs
prefix_read r sound =
    let one : entries_of prefix_at (prefix (own_prefix r)) ≡ own_prefix r ∷ [] = ap (entries_of prefix_at) (sym (append-nil (prefix (own_prefix r)))) ∙ prefixes_again (own_prefix r ∷ []) (prefix_fits r sound, tt) in
    ap (flat_map subs_of) one ∙ append-nil (subs_of (own_prefix r)) ∙ places_read r sound

reaches_none : (blocks : List (List End)) → flat_map subs_in (map reach_tlv blocks) ≡ []
reaches_none [] = refl
reaches_none (b ∷ blocks) = reaches_none blocks

-- the links that are up
pub own_links : (r : RouterConf) (up : List Bool) → IsSound r → flat_map links_in (tlvs_before (own_content r up)) ≡ map end_link (picked up r.ends)
unfolding own_content
own_links r up sound =
    let es = picked up r.ends in
    ap (flat_map links_in) (before_spelled (own_tlvs r up))
    ∙ flat_map-append links_in (reach_tlvs es) (prefix_tlv r ∷ [])
    ∙ append-nil (flat_map links_in (reach_tlvs es))
    ∙ blocks_read (length es) es (omega arith) (picked_all IsEnd up r.ends sound.ends)

-- the places in sub-domains
pub own_places : (r : RouterConf) (up : List Bool) → IsSound r → flat_map subs_in (tlvs_before (own_content r up)) ≡ map (λ s. sub_of r.prefix.0 (info_of r.kinds s)) r.subs
unfolding own_content
own_places r up sound =
    let es = picked up r.ends in
    ap (flat_map subs_in) (before_spelled (own_tlvs r up))
    ∙ flat_map-append subs_in (reach_tlvs es) (prefix_tlv r ∷ [])
    ∙ ap (λ (l : List ViewSub). l ++ flat_map subs_in (prefix_tlv r ∷ [])) (reaches_none (blocks most_in_tlv es))
    ∙ append-nil (subs_in (prefix_tlv r))
    ∙ prefix_read r sound

-- whether it has its overload bit set
pub own_overload : (r : RouterConf) → is_overload_flag (own_flags r) ≡ r.overload
own_overload r = by r.level r.overload
  where
    by : (l : Level) (b : Bool) → is_overload_flag (level_bits l + (if b then 4 else 0)) ≡ b
    by One true = refl
    by One false = refl
    by Two true = refl
    by Two false = refl
