-- In a view each node is what its router says of itself, or said with an earlier configuration: its system, whether it has its
-- overload bit set, and its places in sub-domains.
use Rattle.std.proofs.Common.{◌≡◌, ◌⊎◌, inl, inr, ℕ, ◌<◌, ◌==◌, ◌&&◌, ◌||◌, not, nat_lt, Bool, true, false, if◌then◌else◌, List, [], ◌∷◌, ◌++◌, length, map, filter, is_some, option_map, Option, Some, None, refl, sym, ap, subst, ◌∙◌, arith}
use mathlib.Core.Bool.{false≢true}
use Rattle.std.specs.List.{AllByRecursion, flat_map, list_any}
use Rattle.std.specs.Str.{bytes_eq}
use Rattle.std.proofs.lemmas.Bool.{and_parts, and_from, lt-ltb, ltb-true, eq-eqb, ne_eqb, eqb-false}
use Rattle.std.proofs.lemmas.List.{append-nil}
use Rattle.std.proofs.lemmas.Option.{same_Some}
use Rattle.wire_base.specs.declared.addresses.SystemId.{SystemId}
use Rattle.wire_base.specs.declared.addresses.LspId.{LspId}
use Rattle.wire_base.specs.declared.addresses.Ipv4.{Ipv4}
use Rattle.wire_base.specs.declared.conf.Kind.{Kind}
use Rattle.wire_base.specs.declared.conf.Kind.TheVariants.{Mpls, Configured}
use Rattle.wire_base.specs.declared.conf.LabelRange.{LabelRange}
use Rattle.wire_base.specs.declared.conf.OwnSub.{OwnSub}
use Rattle.wire_base.specs.declared.conf.RouterConf.{RouterConf}
use Rattle.wire_base.specs.declared.conf.SubKind.{SubKind}
use Rattle.wire_base.specs.declared.entry.Entry.{Entry}
use Rattle.wire_base.specs.declared.view.ViewNode.{ViewNode}
use Rattle.wire_base.specs.declared.view.ViewSub.{ViewSub}
use Rattle.wire_base.specs.model.BierInfo.{any_overlap, share_label}
use Rattle.wire_base.specs.model.Configuration.{DomainConf, IsConsistent, MayStand, same_sub}
use Rattle.wire_base.specs.model.Configuration as configuration
use Rattle.wire_base.specs.model.Control.{same_system, same_id, AreAscending, ids_of, entry_in, fragment_0, Control}
use Rattle.wire_base.specs.model.Lists.{AreApart}
use Rattle.wire_base.specs.model.OwnLsp.{info_of, own_content}
use Rattle.wire_base.specs.declared.conf.TableRow.{TableRow}
use Rattle.wire_base.specs.declared.triple.Triple.{Triple}
use Rattle.wire_base.specs.model.Graph.{place_in, node_bift}
use Rattle.wire_base.specs.model.Place.{kind_of, is_mpls, ranges_in, bift_of, own_bift, means}
use Rattle.wire_base.proofs.SoundLemmas as sound_lemmas
use Rattle.wire_base.proofs.SoundLemmas.{sound_subs, all_left}
use Rattle.wire_base.specs.model.Tlv.{tlvs_before}
use Rattle.wire_base.specs.model.View.{Claim, sub_of, is_part_of, tlvs_of, claim_of, is_other, own_claim, claims_of, all_ranges, unless_overlap, first_each, known_subs, with_known, has_prefix, is_shared, own_subs, node_of, nodes_of, view_of, control_view, links_in, subs_in, is_overload_flag}
use Rattle.wire_base.proofs.ClaimLaws.{all_put}
use Rattle.laws_router.proofs.MeaningLaws.{earlier_means}
use Rattle.laws_router.specs.Becoming.{IsEarlier}
use Rattle.domain_model.specs.Truth.{IsAmong, IsOwnLsp, IsDeadLsp, head_of, IsTrueEntry, IsTrueControl}
use Rattle.domain_model.proofs.EachLaws.{each_weaker, each_mapped, each_kept, each_passing, each_both}
use Rattle.domain_model.proofs.FlagLaws.{same_id_is, each_is_found, none_later}
use Rattle.domain_model.proofs.DomainLaws.{bytes_from, sound_of, alike, own_earlier, alike_earlier, system_by_prefix}
use Rattle.domain_model.proofs.ReadBack.{own_links, own_places, own_overload}

-- ---- words on lists

all_pass : {X : Type 0} (p : X → Bool) (xs : List X) → AllByRecursion (λ x. p x ≡ true) xs → filter p xs ≡ xs
all_pass p [] all = refl
all_pass {X} p (x ∷ xs) all = rw all.0 (ap (λ (l : List X). x ∷ l) (all_pass p xs all.1))

none_passes : {X : Type 0} (p : X → Bool) (xs : List X) → AllByRecursion (λ x. p x ≡ false) xs → filter p xs ≡ []
none_passes p [] all = refl
none_passes p (x ∷ xs) all = rw all.0 (none_passes p xs all.1)

none_any : {X : Type 0} (p : X → Bool) (xs : List X) → AllByRecursion (λ x. p x ≡ false) xs → list_any p xs ≡ false
none_any p [] all = refl
none_any p (x ∷ xs) all = rw all.0 (none_any p xs all.1)

-- ---- the LSPs of a system: it has one fragment

-- of fragments 0 the system alone tells them apart
same_fragment : (id : LspId) (t s : SystemId) → id ≡ fragment_0 t → same_id id (fragment_0 s) ≡ same_system id.system s
same_fragment id t s is = subst (λ (i : LspId). same_id i (fragment_0 s) ≡ same_system i.system s) (sym is) (both (same_system t s))
  where
    both : (b : Bool) → (b && true) ≡ b
    both true = refl
    both false = refl

-- a live fragment 0 is a part of its system
is_part : (e : Entry) (t s : SystemId) → e.id ≡ fragment_0 t → same_system e.id.system s ≡ true → 0 < e.life → is_part_of s e ≡ true
is_part e t s is same live =
    and_from _ _ same (and_from _ _ (eq-eqb e.id.pseudonode 0 (ap (λ (i : LspId). i.pseudonode) is)) (lt-ltb 0 e.life live))

no_part : (e : Entry) (s : SystemId) → same_system e.id.system s ≡ false → is_part_of s e ≡ false
no_part e s other = ap (λ (b : Bool). b && ((e.id.pseudonode == 0) && nat_lt 0 e.life)) other

-- a fragment 0 above one of the system is another system's
later_parts : (confs : List RouterConf) (s : SystemId) (es : List Entry) → AllByRecursion (IsTrueEntry confs) es → entry_in es (fragment_0 s) ≡ None → AllByRecursion (λ e. is_part_of s e ≡ false) es
later_parts confs s [] all none = tt
later_parts confs s (e ∷ es) all none = by (λ k. later_parts confs s es all.1 k) (same_id e.id (fragment_0 s)) refl
  where
    by : (entry_in es (fragment_0 s) ≡ None → AllByRecursion (λ x. is_part_of s x ≡ false) es) → (b : Bool) → same_id e.id (fragment_0 s) ≡ b → AllByRecursion (λ x. is_part_of s x ≡ false) (e ∷ es)
    by more true t = let both : Some e ≡ None = rw t at none in absurd cc
    by more false t =
        let k : entry_in es (fragment_0 s) ≡ None = rw t at none in
        (no_part e s (sym (same_fragment e.id all.0.named.router.system s all.0.named.is) ∙ t), more k)

one_part : (confs : List RouterConf) (s : SystemId) (es : List Entry) (e : Entry) → AreAscending (ids_of es) → AllByRecursion (IsTrueEntry confs) es → entry_in es (fragment_0 s) ≡ Some e → 0 < e.life → filter (is_part_of s) es ≡ e ∷ []
one_part confs s [] e asc all found live = cc
one_part confs s (x ∷ xs) e asc all found live = by (λ k. one_part confs s xs e asc.1 all.1 k live) (same_id x.id (fragment_0 s)) refl
  where
    by : (entry_in xs (fragment_0 s) ≡ Some e → filter (is_part_of s) xs ≡ e ∷ []) → (b : Bool) → same_id x.id (fragment_0 s) ≡ b → filter (is_part_of s) (x ∷ xs) ≡ e ∷ []
    by more true t =
        let first : Some x ≡ Some e = rw t at found in
        let is : x ≡ e = same_Some x e first in
        let same : same_system x.id.system s ≡ true = sym (same_fragment x.id all.0.named.router.system s all.0.named.is) ∙ t in
        let lives : 0 < x.life = subst (λ (y : Entry). 0 < y.life) (sym is) live in
        let none : entry_in xs (fragment_0 s) ≡ None = ap (entry_in xs) (sym (same_id_is x.id (fragment_0 s) t)) ∙ none_later x.id xs asc.0 in
        rw (is_part x all.0.named.router.system s all.0.named.is same lives) (ap (λ (l : List Entry). x ∷ l) (none_passes (is_part_of s) xs (later_parts confs s xs all.1 none)) ∙ ap (λ (y : Entry). y ∷ []) is)
    by more false t =
        let k : entry_in xs (fragment_0 s) ≡ Some e = rw t at found in
        rw (no_part x s (sym (same_fragment x.id all.0.named.router.system s all.0.named.is) ∙ t)) (more k)

-- ---- claims

claim_by_parts : (a b : Claim) → a.system ≡ b.system → a.overload ≡ b.overload → a.links ≡ b.links → a.subs ≡ b.subs → a ≡ b
claim_by_parts a b p q r s i = record { system = p i; overload = q i; links = r i; subs = s i }

-- a claim is what a router claims itself, or claimed with an earlier configuration, with some of its ends up
pub record IsRouterClaim (confs : List RouterConf) (c : Claim) : Type 0 where
  pub now : RouterConf
  pub among : IsAmong confs now
  pub router : RouterConf
  pub earlier : IsEarlier router now
  pub up : List Bool
  pub ends : length up ≡ length router.ends
  pub is : c ≡ own_claim router up

claim_read : (confs : List RouterConf) (es : List Entry) (e : Entry) → AreAscending (ids_of es) → AllByRecursion (IsTrueEntry confs) es → entry_in es e.id ≡ Some e → 0 < e.life → IsOwnLsp confs (head_of e) e.content ⊎ IsDeadLsp (head_of e) e.content → IsRouterClaim confs (claim_of es e)
claim_read confs es e asc all found live (inr dead) = absurd (omega (arith, dead.dead, live))
claim_read confs es e asc all found live (inl own) =
    let q = own.router in
    let system : e.id.system ≡ q.system = ap (λ (i : LspId). i.system) own.is in
    let id : e.id ≡ fragment_0 e.id.system = own.is ∙ ap fragment_0 (sym system) in
    let there : entry_in es (fragment_0 e.id.system) ≡ Some e = ap (entry_in es) (sym id) ∙ found in
    let tlvs : tlvs_of es e.id.system ≡ tlvs_before (own_content q own.up) =
    ap (flat_map (λ (x : Entry). tlvs_before x.content)) (one_part confs e.id.system es e asc all there live) ∙ append-nil (tlvs_before e.content) ∙ ap tlvs_before own.content in
    record {
      now = own.now;
      among = own.among;
      router = q;
      earlier = own.earlier;
      up = own.up;
      ends = own.ends;
      is = claim_by_parts (claim_of es e) (own_claim q own.up) system (ap is_overload_flag own.flags ∙ own_overload q)
          (ap (flat_map links_in) tlvs ∙ own_links q own.up own.earlier.sound) (ap (flat_map subs_in) tlvs ∙ own_places q own.up own.earlier.sound);
    }

other_lives : (own : SystemId) (e : Entry) → is_other own e ≡ true → 0 < e.life
other_lives own e h =
    let a = and_parts (not (same_system e.id.system own)) _ h in
    let b = and_parts (e.id.pseudonode == 0) _ a.1 in
    let c = and_parts (e.id.fragment == 0) _ b.1 in
    ltb-true 0 e.life c.1

pub claims_read : (confs : List RouterConf) (r : RouterConf) (up : List Bool) (es : List Entry) → IsAmong confs r → IsEarlier r r → length up ≡ length r.ends → AreAscending (ids_of es) → AllByRecursion (IsTrueEntry confs) es → AllByRecursion (IsRouterClaim confs) (claims_of r up es)
unfolding claims_of
claims_read confs r up es among same ends asc all =
    let Found : Entry → Type 0 = λ e. entry_in es e.id ≡ Some e in
    let Other : Entry → Type 0 = λ e. is_other r.system e ≡ true in
    let Both : Entry → Type 0 = λ e. IsTrueEntry confs e × Found e in
    let kept : AllByRecursion Both (filter (is_other r.system) es) = each_kept Both (is_other r.system) es (each_both (IsTrueEntry confs) Found es all (each_is_found es asc)) in
    all_put (IsRouterClaim confs) (own_claim r up) (map (claim_of es) (filter (is_other r.system) es)) (record { now = r; among = among; router = r; earlier = same; up = up; ends = ends; is = refl })
    (each_mapped (IsRouterClaim confs) (claim_of es) (filter (is_other r.system) es)
    (each_weaker (λ e. Both e × Other e) (λ e. IsRouterClaim confs (claim_of es e)) (λ e h. claim_read confs es e asc all h.0.1 (other_lives r.system e h.1) h.0.0.says) (filter (is_other r.system) es)
    (each_both Both Other (filter (is_other r.system) es) kept (each_passing (is_other r.system) es))))

-- ---- which places count: all

-- a router's places in sub-domains, as a view has them
abbrev pub places_of : RouterConf → List ViewSub
places_of r = map (λ s. sub_of r.prefix.0 (info_of r.kinds s)) r.subs

-- ranges stand in sub-domains of labels alone, so that none is left out
ranges_told : (o : Option Kind) (ranges : List LabelRange) → MayStand o ranges → (if is_mpls o then ranges else []) ≡ ranges
ranges_told None ranges h = absurd h
ranges_told (Some Mpls) ranges h = refl
ranges_told (Some Configured) ranges h = sym h

kind_told : (o : Option Kind) (ranges : List LabelRange) → MayStand o ranges → is_some o ≡ true
kind_told None ranges h = absurd h
kind_told (Some k) ranges h = refl

abbrev StandsIn : List SubKind → OwnSub → Type 0
StandsIn kinds s = MayStand (kind_of kinds s.sd) s.ranges

ranges_are : (octets : List ℕ) (kinds : List SubKind) (subs : List OwnSub) → AllByRecursion (StandsIn kinds) subs → all_ranges (map (λ s. sub_of octets (info_of kinds s)) subs) ≡ sound_lemmas.all_ranges subs
ranges_are octets kinds [] all = refl
ranges_are octets kinds (s ∷ subs) all =
    ap (λ (l : List LabelRange). l ++ all_ranges (map (λ s. sub_of octets (info_of kinds s)) subs)) (ranges_told (kind_of kinds s.sd) s.ranges all.0) ∙ ap (λ (l : List LabelRange). s.ranges ++ l) (ranges_are octets kinds subs all.1)

no_overlap : (rs : List LabelRange) → AreApart configuration.share_label rs → any_overlap rs ≡ false
unfolding any_overlap
no_overlap [] apart = refl
no_overlap (r ∷ rs) apart = rw (none_any (share_label r) rs apart.0) (no_overlap rs apart.1)

known_each : (octets : List ℕ) (own kinds : List SubKind) (subs : List OwnSub) → own ≡ kinds → AllByRecursion (StandsIn own) subs → AllByRecursion (λ (v : ViewSub). is_some (kind_of kinds v.sd) ≡ true) (map (λ s. sub_of octets (info_of own s)) subs)
known_each octets own kinds [] same all = tt
known_each octets own kinds (s ∷ subs) same all = (ap (λ (ks : List SubKind). is_some (kind_of ks s.sd)) (sym same) ∙ kind_told (kind_of own s.sd) s.ranges all.0, known_each octets own kinds subs same all.1)

first_places : (octets : List ℕ) (kinds : List SubKind) (subs : List OwnSub) → AreApart same_sub subs → first_each (map (λ s. sub_of octets (info_of kinds s)) subs) ≡ map (λ s. sub_of octets (info_of kinds s)) subs
first_places octets kinds [] apart = refl
first_places octets kinds (s ∷ subs) apart =
    let rest = map (λ (x : OwnSub). sub_of octets (info_of kinds x)) subs in
    ap (λ (l : List ViewSub). sub_of octets (info_of kinds s) ∷ filter (λ x. not (x.sd == s.sd)) l) (first_places octets kinds subs apart.1)
    ∙ ap (λ (l : List ViewSub). sub_of octets (info_of kinds s) ∷ l) (all_pass (λ (x : ViewSub). not (x.sd == s.sd)) rest (others subs apart.0))
  where
    others : (xs : List OwnSub) → AllByRecursion (λ x. same_sub s x ≡ false) xs → AllByRecursion (λ (v : ViewSub). not (v.sd == s.sd) ≡ true) (map (λ x. sub_of octets (info_of kinds x)) xs)
    others [] all = tt
    others (x ∷ xs) all = (ap not (ne_eqb x.sd s.sd (λ e. eqb-false s.sd x.sd all.0 (sym e))), others xs all.1)

module _ (d : DomainConf) (valid : IsConsistent d) where
  -- a router's places count at every other router, also those of an earlier configuration
  pub known_places : (r q now : RouterConf) → IsAmong d.routers r → IsAmong d.routers now → IsEarlier q now → known_subs r.kinds (places_of q) ≡ places_of q
  known_places r q now a b e =
      let own = sound_subs q e.sound in
      let keeps : AllByRecursion (StandsIn q.kinds) q.subs = all_left (StandsIn q.kinds) q.subs q.away e.kinds.subs in
      let apart : any_overlap (all_ranges (places_of q)) ≡ false = ap any_overlap (ranges_are q.prefix.0 q.kinds q.subs keeps) ∙ no_overlap (sound_lemmas.all_ranges q.subs) own.labels in
      let unless : unless_overlap (places_of q) ≡ places_of q = ap (λ (b : Bool). if b then [] else places_of q) apart in
      let all : filter (λ (v : ViewSub). is_some (kind_of r.kinds v.sd)) (places_of q) ≡ places_of q = all_pass (λ (v : ViewSub). is_some (kind_of r.kinds v.sd)) (places_of q) (known_each q.prefix.0 q.kinds r.kinds q.subs (alike_earlier d valid r q now a b e).kinds keeps) in
      ap (λ (l : List ViewSub). first_each (filter (λ v. is_some (kind_of r.kinds v.sd)) l)) unless ∙ ap first_each all ∙ first_places q.prefix.0 q.kinds q.subs own.apart

  known_claim : (r q now : RouterConf) (up : List Bool) → IsAmong d.routers r → IsAmong d.routers now → IsEarlier q now → with_known r.kinds (own_claim q up) ≡ own_claim q up
  known_claim r q now up a b e = ap (λ (l : List ViewSub). record (own_claim q up) { subs = l }) (known_places r q now a b e)

  pub known_claims : (r : RouterConf) → IsAmong d.routers r → (cs : List Claim) → AllByRecursion (IsRouterClaim d.routers) cs → AllByRecursion (IsRouterClaim d.routers) (map (with_known r.kinds) cs)
  known_claims r a [] all = tt
  known_claims r a (c ∷ cs) all = (
    record {
      now = all.0.now;
      among = all.0.among;
      router = all.0.router;
      earlier = all.0.earlier;
      up = all.0.up;
      ends = all.0.ends;
      is = ap (with_known r.kinds) all.0.is ∙ known_claim r all.0.router all.0.now all.0.up a all.0.among all.0.earlier;
    },
    known_claims r a cs all.1,
  )

  -- no other router has its prefix
  places_prefix : (p : Ipv4) (q : RouterConf) (subs : List OwnSub) → has_prefix p (map (λ s. sub_of q.prefix.0 (info_of q.kinds s)) subs) ≡ true → bytes_eq q.prefix.0 p.0 ≡ true
  places_prefix p q [] h = absurd (false≢true h)
  places_prefix p q (s ∷ subs) h = by (λ k. places_prefix p q subs k) (bytes_eq q.prefix.0 p.0) refl h
    where
      by : (has_prefix p (map (λ x. sub_of q.prefix.0 (info_of q.kinds x)) subs) ≡ true → bytes_eq q.prefix.0 p.0 ≡ true) → (b : Bool) → bytes_eq q.prefix.0 p.0 ≡ b → (bytes_eq q.prefix.0 p.0 || has_prefix p (map (λ x. sub_of q.prefix.0 (info_of q.kinds x)) subs)) ≡ true → bytes_eq q.prefix.0 p.0 ≡ true
      by more true e h = e
      by more false e h = more (rw e at h)

  abbrev shares : RouterConf → Claim → Bool
  shares q c = not (same_system c.system q.system) && has_prefix q.prefix c.subs

  shares_none : (q now : RouterConf) → IsAmong d.routers now → IsEarlier q now → (c : Claim) → IsRouterClaim d.routers c → shares q c ≡ false
  shares_none q now b f c k = subst (λ (x : Claim). shares q x ≡ false) (sym k.is) (by (has_prefix q.prefix (places_of k.router)) refl)
    where
      by : (h : Bool) → has_prefix q.prefix (places_of k.router) ≡ h → shares q (own_claim k.router k.up) ≡ false
      by false e = ap (λ (x : Bool). not (same_system k.router.system q.system) && x) e ∙ right (not (same_system k.router.system q.system))
        where
          right : (x : Bool) → (x && false) ≡ false
          right true = refl
          right false = refl
      by true e =
          let same : k.router.system ≡ q.system = system_by_prefix d valid k.router q k.now now k.among b k.earlier f (places_prefix q.prefix k.router k.router.subs e) in
          let systems : same_system k.router.system q.system ≡ true = bytes_from k.router.system.0 q.system.0 (ap (λ (x : SystemId). x.0) same) in
          ap (λ (x : Bool). not x && has_prefix q.prefix (places_of k.router)) systems

  shared_none : (q now : RouterConf) → IsAmong d.routers now → IsEarlier q now → (cs : List Claim) → AllByRecursion (IsRouterClaim d.routers) cs → is_shared cs q.system q.prefix ≡ false
  shared_none q now b f cs all = none_any (shares q) cs (each_weaker (IsRouterClaim d.routers) (λ c. shares q c ≡ false) (λ c k. shares_none q now b f c k) cs all)

  pub kept_places : (q now : RouterConf) → IsAmong d.routers now → IsEarlier q now → (cs : List Claim) → AllByRecursion (IsRouterClaim d.routers) cs → filter (λ (s : ViewSub). not (is_shared cs q.system s.prefix)) (places_of q) ≡ places_of q
  kept_places q now b f cs all = all_pass (λ (s : ViewSub). not (is_shared cs q.system s.prefix)) (places_of q) (each q.subs)
    where
      each : (subs : List OwnSub) → AllByRecursion (λ (s : ViewSub). not (is_shared cs q.system s.prefix) ≡ true) (map (λ s. sub_of q.prefix.0 (info_of q.kinds s)) subs)
      each [] = tt
      each (s ∷ subs) = (ap not (shared_none q now b f cs all), each subs)

-- ---- nodes

-- a node is its router's, as it is configured now or was earlier
pub record IsRouterNode (confs : List RouterConf) (n : ViewNode) : Type 0 where
  pub now : RouterConf
  pub among : IsAmong confs now
  pub router : RouterConf
  pub earlier : IsEarlier router now
  pub system : n.system ≡ router.system
  pub overload : n.overload ≡ router.overload
  pub subs : n.subs ≡ places_of router

-- a view is made of what routers claim
pub record IsRouterView (confs : List RouterConf) (g : List ViewNode) : Type 0 where
  pub claims : List Claim
  pub nodes : g ≡ nodes_of claims
  pub each : AllByRecursion (IsRouterClaim confs) claims

module _ (d : DomainConf) (valid : IsConsistent d) where
  node_true : (cs : List Claim) → AllByRecursion (IsRouterClaim d.routers) cs → (c : Claim) → IsRouterClaim d.routers c → IsRouterNode d.routers (node_of cs c)
  node_true cs all c k = record {
    now = k.now;
    among = k.among;
    router = k.router;
    earlier = k.earlier;
    system = ap (λ (x : Claim). x.system) k.is;
    overload = ap (λ (x : Claim). x.overload) k.is;
    subs = ap (λ (x : Claim). own_subs cs x) k.is ∙ kept_places d valid k.router k.now k.among k.earlier cs all;
  }

  pub view_true : (c : Control) → IsTrueControl d.routers c → IsRouterView d.routers (control_view c)
  unfolding view_of
  view_true c t =
      record {
        claims = map (with_known c.conf.kinds) (claims_of c.conf c.flood.up c.entries);
        nodes = refl;
        each = known_claims d valid c.conf t.among (claims_of c.conf c.flood.up c.entries) (claims_read d.routers c.conf c.flood.up c.entries t.among (own_earlier d valid c.conf t.among) t.kept.control.links t.kept.control.entries.in_order t.entries);
      }

  pub nodes_true : (g : List ViewNode) → IsRouterView d.routers g → AllByRecursion (IsRouterNode d.routers) g
  nodes_true g v =
      subst (AllByRecursion (IsRouterNode d.routers)) (sym v.nodes)
      (each_mapped (IsRouterNode d.routers) (node_of v.claims) v.claims (each_weaker (IsRouterClaim d.routers) (λ c. IsRouterNode d.routers (node_of v.claims c)) (node_true v.claims v.each) v.claims v.each))

  -- ---- what a node gives a triple

  place_ranges : (octets : List ℕ) (kinds : List SubKind) (subs : List OwnSub) (sd : ℕ) → AllByRecursion (StandsIn kinds) subs → option_map (λ s. s.ranges) (place_in (map (λ s. sub_of octets (info_of kinds s)) subs) sd) ≡ ranges_in subs sd
  place_ranges octets kinds [] sd all = refl
  place_ranges octets kinds (s ∷ subs) sd all = by (s.sd == sd) refl (place_ranges octets kinds subs sd all.1)
    where
      by : (b : Bool) → (s.sd == sd) ≡ b → option_map (λ x. x.ranges) (place_in (map (λ x. sub_of octets (info_of kinds x)) subs) sd) ≡ ranges_in subs sd
          → option_map (λ x. x.ranges) (place_in (map (λ x. sub_of octets (info_of kinds x)) (s ∷ subs)) sd) ≡ ranges_in (s ∷ subs) sd
      by true e more = rw e (ap (λ (l : List LabelRange). Some l) (ranges_told (kind_of kinds s.sd) s.ranges all.0))
      by false e more = rw e more

  pub node_gives : (r : RouterConf) (t : Triple) (n : ViewNode) → IsAmong d.routers r → (k : IsRouterNode d.routers n) → node_bift r.kinds r.table t n ≡ own_bift k.router t
  unfolding node_bift
  node_gives r t n a k =
      let same = alike_earlier d valid r k.router k.now a k.among k.earlier in
      ap (λ (subs : List ViewSub). bift_of r.kinds r.table (option_map (λ s. s.ranges) (place_in subs t.sd)) t) k.subs
      ∙ ap (λ (o : Option (List LabelRange)). bift_of r.kinds r.table o t) (place_ranges k.router.prefix.0 k.router.kinds k.router.subs t.sd (all_left (StandsIn k.router.kinds) k.router.subs k.router.away k.earlier.kinds.subs))
      ∙ ap (λ (ks : List SubKind). bift_of ks r.table (ranges_in k.router.subs t.sd) t) (sym same.kinds)
      ∙ ap (λ (rows : List TableRow). bift_of k.router.kinds rows (ranges_in k.router.subs t.sd) t) (sym same.table)

  -- so that there it means the triple now
  pub bift_means : (r : RouterConf) (t : Triple) (kind : Kind) (b : ℕ) (n : ViewNode) → IsAmong d.routers r → (k : IsRouterNode d.routers n) → kind_of r.kinds t.sd ≡ Some kind → node_bift r.kinds r.table t n ≡ Some b → means k.now kind b ≡ Some t
  bift_means r t kind b n a k is gives =
      earlier_means k.router k.now kind t b k.earlier (sound_of d valid k.now k.among)
      (ap (λ (ks : List SubKind). kind_of ks t.sd) (alike d valid r k.now a k.among).kinds ∙ is) (sym (node_gives r t n a k) ∙ gives)
