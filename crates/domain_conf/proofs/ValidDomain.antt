-- Every domain that a file gives is valid.
use Rattle.std.proofs.Common.{◌≡◌, ℕ, zero, suc, ◌+◌, ◌<◌, ◌≤◌, Bool, true, false, ◌⊎◌, inl, inr, cond, eqb, ltb, List, [], ◌∷◌, length, map, Option, Some, None, Ok, refl, sym, ap, subst, ◌∙◌, arith}
use mathlib.Core.Bool.{false≢true}
use Rattle.std.proofs.lemmas.Bool.{or_parts, eq-eqb, ltb-false}
use Rattle.std.proofs.lemmas.Option.{same_Some}
use Rattle.std.specs.List.{AllByRecursion, filter_map, cons_option}
use Rattle.std.specs.Prelude.{slice_get, codes}
use Rattle.std.specs.Str.{bytes_eq}
use Rattle.wire_base.specs.declared.limits.TheConstants.{MOST_ROUTERS, MOST_SUB_OCTETS, MOST_TABLE_ROWS}
use Rattle.wire_base.specs.declared.addresses.SystemId.{SystemId}
use Rattle.wire_base.specs.declared.conf.End.{End}
use Rattle.wire_base.specs.declared.conf.Kind.{Kind}
use Rattle.wire_base.specs.declared.conf.Kind.TheVariants.{Mpls, Configured}
use Rattle.wire_base.specs.declared.conf.Level.{Level}
use Rattle.wire_base.specs.declared.conf.RouterConf.{RouterConf}
use Rattle.wire_base.specs.model.Configuration.{DomainConf, IsValid, IsSound, IsOwnSub, IsArea, IsAlike, AreAlike, KeepsKinds, IsLink, same_name, same_system, same_prefix, same_pair, same_peer, sub_octets, other_end, end_to, IsBack, Faces, AreEnds, HaveEnds, IsUnchanged, MayStand}
use Rattle.wire_base.proofs.SoundLemmas.{still, each_still}
use Rattle.wire_base.specs.model.Lists.{AreApart}
use Rattle.wire_base.specs.model.Place.{kind_of, is_configured}
use Rattle.domain_conf.specs.declared.fault.ConfFault.{ConfFault}
use Rattle.domain_conf.specs.declared.fault.ConfFault.TheVariants as fault
use Rattle.domain_conf.specs.declared.routers.RouterEntry.{RouterEntry}
use Rattle.domain_conf.specs.declared.links.LinkEntry.{LinkEntry}
use Rattle.domain_conf.specs.Fields.{place_path}
use Rattle.domain_conf.specs.Links.{link_of, same_routers}
use Rattle.domain_conf.specs.declared.assemble.Entries.{Entries}
use Rattle.domain_conf.specs.Assembled.{system_at, end_of, ends_of, subs_of, conf_of, confs_from, HasFewSubs, is_too_large, within_limits, domain_from}
use Rattle.domain_conf.proofs.ValidLists.{bind_ok, passed, ok_is}
use Rattle.domain_conf.proofs.ValidArrays.{AreSubdomains, AreRows, AreRouters, IsRouterEntry, AreBiers, AreLabels, AreLinks, IsLinkEntry, of_name, of_system, of_prefix, bytes_turned}
use Rattle.domain_conf.proofs.ValidAmong.{IsIn, all_in, all_from, get_in, all_map, apart_map, filter_map_in}
use Rattle.domain_conf.proofs.ValidSubs.{subs_sound, subs_apart, subs_few, labels_apart, subs_may_stand}
use Rattle.domain_conf.proofs.ValidEnds.{IsFirst, IsSecond, end_is, far, peer_is, system_there, some_there, ends_sound, peers_apart, peer_macs_apart, far_within, bytes_self}

-- What the entries of the arrays hold, each array's by those before it.
pub record AreEntries (e : Entries) : Type 0 where
  pub kinds : AreSubdomains e.kinds
  pub few_kinds : length e.kinds ≤ 8
  pub rows : AreRows e.kinds e.table
  pub few_rows : length e.table ≤ MOST_TABLE_ROWS
  pub routers : AreRouters e.routers
  pub some : 1 ≤ length e.routers
  pub few : length e.routers ≤ MOST_ROUTERS
  pub biers : AreBiers e.kinds e.biers
  pub labels : AreLabels e.kinds e.labels
  pub links : AreLinks (length e.routers) e.links

-- the end with a peer's system is the first that has it
end_found : (ends : List End) (f : End) (s : SystemId) → AreApart same_peer ends → IsIn f ends → f.peer ≡ s → end_to ends s ≡ Some f
end_found [] f s apart i e = absurd i
end_found (x ∷ xs) f s apart (inl same) e = rw (ap (λ (t : SystemId). bytes_eq x.peer.0 t.0) (sym e ∙ ap (λ (f : End). f.peer) same) ∙ bytes_self x.peer.0) (ap Some (sym same))
end_found (x ∷ xs) f s apart (inr i) e =
    let off : bytes_eq x.peer.0 f.peer.0 ≡ false = all_in (λ y. bytes_eq x.peer.0 y.peer.0 ≡ false) xs f apart.0 i in
    rw (ap (λ (t : SystemId). bytes_eq x.peer.0 t.0) (sym e) ∙ off) (end_found xs f s apart.1 i e)

module _ (level : Level) (area : List ℕ) (area_is : IsArea area) (e : Entries) (e_is : AreEntries e) where
  confs : List RouterConf
  confs = confs_from level area e 0 e.routers

  -- ---- each configuration is that of an entry

  -- a configuration, and the entry that it is made of
  record IsConf (c : RouterConf) : Type 0 where
    place : ℕ
    entry : RouterEntry
    there : slice_get e.routers place ≡ Some entry
    is : c ≡ conf_of level area e place entry

  conf_at : (k j : ℕ) (rs : List RouterEntry) (x : RouterEntry) → slice_get rs j ≡ Some x → slice_get (confs_from level area e k rs) j ≡ Some (conf_of level area e (k + j) x)
  conf_at k j [] x p = absurd cc
  conf_at k zero (r ∷ rs) x p = ap Some (ap₂_conf (omega arith) (same_Some r x p))
    where
      ap₂_conf : k ≡ k + 0 → r ≡ x → conf_of level area e k r ≡ conf_of level area e (k + 0) x
      ap₂_conf a b = ap (λ (n : ℕ). conf_of level area e n r) a ∙ ap (conf_of level area e (k + 0)) b
  conf_at k (suc j) (r ∷ rs) x p = conf_at (k + 1) j rs x p ∙ ap (λ (n : ℕ). Some (conf_of level area e n x)) (omega arith)

  entry_of : (k : ℕ) (rs : List RouterEntry) (c : RouterConf) → ((j : ℕ) (x : RouterEntry) → slice_get rs j ≡ Some x → slice_get e.routers (k + j) ≡ Some x) → IsIn c (confs_from level area e k rs) → IsConf c
  entry_of k [] c h i = absurd i
  entry_of k (r ∷ rs) c h (inl same) = record { place = k; entry = r; there = ap (slice_get e.routers) (omega arith) ∙ h 0 r refl; is = same }
  entry_of k (r ∷ rs) c h (inr i) = entry_of (k + 1) rs c (λ j x p. ap (slice_get e.routers) (omega arith) ∙ h (suc j) x p) i

  among : (c : RouterConf) → IsIn c confs → IsConf c
  unfolding confs
  among c i = entry_of 0 e.routers c (λ j x p. ap (slice_get e.routers) (omega arith) ∙ p) i

  length_confs : (k : ℕ) (rs : List RouterEntry) → length (confs_from level area e k rs) ≡ length rs
  length_confs k [] = refl
  length_confs k (r ∷ rs) = ap suc (length_confs (k + 1) rs)

  -- what differs between entries differs between configurations
  confs_apart : (same : RouterEntry → RouterEntry → Bool) (other : RouterConf → RouterConf → Bool) → ((i j : ℕ) (r q : RouterEntry) → same r q ≡ false → other (conf_of level area e i r) (conf_of level area e j q) ≡ false) → (k : ℕ) (rs : List RouterEntry) → AreApart same rs → AreApart other (confs_from level area e k rs)
  confs_apart same other h k [] apart = tt
  confs_apart same other h k (r ∷ rs) apart = (later (k + 1) rs apart.0, confs_apart same other h (k + 1) rs apart.1)
    where
      later : (n : ℕ) (qs : List RouterEntry) → AllByRecursion (λ q. same r q ≡ false) qs → AllByRecursion (λ c. other (conf_of level area e k r) c ≡ false) (confs_from level area e n qs)
      later n [] all = tt
      later n (q ∷ qs) all = (h k n r q all.0, later (n + 1) qs all.1)

  -- ---- the two ends of a link face each other

  -- the end of the far router back to this one
  back_end : (i : ℕ) (l : LinkEntry) (f : End) → IsIn l e.links → end_of e.routers i l ≡ Some f
      → (b : End) × (end_of e.routers (far i l) l ≡ Some b) × (b.peer ≡ system_at e.routers i) × (b.peer_mac ≡ f.own_mac) × (b.own_mac ≡ f.peer_mac)
  back_end i l f there is = by (end_is e.routers i l f is) (all_in (IsLinkEntry (length e.routers)) e.links l e_is.links.each there)
    where
      by : IsFirst e.routers i l f ⊎ IsSecond e.routers i l f → IsLinkEntry (length e.routers) l → (b : End) × (end_of e.routers (far i l) l ≡ Some b) × (b.peer ≡ system_at e.routers i) × (b.peer_mac ≡ f.own_mac) × (b.own_mac ≡ f.peer_mac)
      by (inl g) h = (record { peer = system_at e.routers l.a; peer_mac = l.mac_a; own_mac = l.mac_b; metric = l.metric_ba }, rw (eq-eqb l.a i g.here) (rw (h.differ, eq-eqb l.b l.b refl) refl), ap (system_at e.routers) g.here, sym g.own_mac, sym g.peer_mac)
      by (inr s) h = (record { peer = system_at e.routers l.b; peer_mac = l.mac_b; own_mac = l.mac_a; metric = l.metric_ab }, rw s.not_first (rw (eq-eqb l.a l.a refl) refl), ap (system_at e.routers) s.here, sym s.own_mac, sym s.peer_mac)

  faces : (i : ℕ) (r : RouterEntry) (l : LinkEntry) (f : End) → slice_get e.routers i ≡ Some r → IsIn l e.links → end_of e.routers i l ≡ Some f → Faces (conf_of level area e i r) f (slice_get confs (far i l))
  unfolding confs ends_of
  faces i r l f at there is =
      let q = some_there e.routers (far i l) (far_within e.routers e.links e_is.routers e_is.links i l there) in
      let c = conf_at 0 (far i l) e.routers q.0 q.1 in
      let b = back_end i l f there is in
      let found : end_to (ends_of e.routers e.links (far i l)) r.system ≡ Some b.0 = end_found (ends_of e.routers e.links (far i l)) b.0 r.system (peers_apart e.routers e.links e_is.routers e_is.links (far i l)) (filter_map_in (end_of e.routers (far i l)) e.links l b.0 there b.1) (b.2 ∙ system_there e.routers i r at) in
      let back : IsBack f (end_to (ends_of e.routers e.links (far i l)) r.system) = subst (IsBack f) (sym found) (b.3, b.4) in
      let at_far : Faces (conf_of level area e i r) f (Some (conf_of level area e (far i l) q.0)) = (peer_is e.routers i l f is ∙ system_there e.routers (far i l) q.0 q.1, back) in
      let place : 0 + far i l ≡ far i l = omega arith in
      subst (Faces (conf_of level area e i r) f) (sym (c ∙ ap (λ (n : ℕ). Some (conf_of level area e n q.0)) place)) at_far

  ends_face : (i : ℕ) (r : RouterEntry) → slice_get e.routers i ≡ Some r → (ls : List LinkEntry) → ((l : LinkEntry) → IsIn l ls → IsIn l e.links) → AreEnds confs (conf_of level area e i r) (filter_map (other_end i) (map link_of ls)) (filter_map (end_of e.routers i) ls)
  ends_face i r at [] h = tt
  ends_face i r at (l ∷ ls) h = by (eqb l.a i) (eqb l.b i) refl refl (λ f is. faces i r l f at (h l (inl refl)) is) (ends_face i r at ls (λ m j. h m (inr j)))
    where
      fore : End
      fore = record { peer = system_at e.routers l.b; peer_mac = l.mac_b; own_mac = l.mac_a; metric = l.metric_ab }

      aft : End
      aft = record { peer = system_at e.routers l.a; peer_mac = l.mac_a; own_mac = l.mac_b; metric = l.metric_ba }

      by : (p q : Bool) → eqb l.a i ≡ p → eqb l.b i ≡ q
          → ((f : End) → cond p (Some fore) (cond q (Some aft) None) ≡ Some f → Faces (conf_of level area e i r) f (slice_get confs (cond p l.b l.a)))
          → AreEnds confs (conf_of level area e i r) (filter_map (other_end i) (map link_of ls)) (filter_map (end_of e.routers i) ls)
          → AreEnds confs (conf_of level area e i r) (cons_option (cond p (Some l.b) (cond q (Some l.a) None)) (filter_map (other_end i) (map link_of ls))) (cons_option (cond p (Some fore) (cond q (Some aft) None)) (filter_map (end_of e.routers i) ls))
      by true q a b face more = (face fore refl, more)
      by false true a b face more = (face aft refl, more)
      by false false a b face more = more

  have_ends : (k : ℕ) (rs : List RouterEntry) → ((j : ℕ) (x : RouterEntry) → slice_get rs j ≡ Some x → slice_get e.routers (k + j) ≡ Some x) → HaveEnds (record { routers = confs; links = map link_of e.links }) k (confs_from level area e k rs)
  unfolding ends_of
  have_ends k [] h = tt
  have_ends k (r ∷ rs) h =
      (ends_face k r (ap (slice_get e.routers) (omega arith) ∙ h 0 r refl) e.links (λ l i. i), have_ends (k + 1) rs (λ j x p. ap (slice_get e.routers) (omega arith) ∙ h (suc j) x p))

  -- ---- each router is sound

  limits_hold : (k : ℕ) (cs : List RouterConf) (u : Unit {0}) → within_limits k cs ≡ Ok u → AllByRecursion (λ c. is_too_large c ≡ false) cs
  unfolding within_limits
  limits_hold k [] u p = tt
  limits_hold k (c ∷ cs) u p = let q = passed (is_too_large c) (fault.Limit (place_path (codes "router") k)) _ u p in (q.0, limits_hold (k + 1) cs u q.1)

  conf_sound : (c : RouterConf) → IsConf c → is_too_large c ≡ false → IsSound c
  conf_sound c m small =
      let h = all_in IsRouterEntry e.routers m.entry e_is.routers.each (get_in e.routers m.place m.entry m.there) in
      let s = subst (λ (c : RouterConf). is_too_large c ≡ false) m.is small in
      let o = or_parts (ltb 64 (length (ends_of e.routers e.links m.place))) (ltb MOST_SUB_OCTETS (sub_octets (subs_of e.biers e.labels m.place))) s in
      let k = still (subs_of e.biers e.labels m.place) (record {
        few = omega (arith, subs_few e.kinds e.biers e.labels e_is.kinds e_is.biers e_is.labels m.place, e_is.few_kinds);
        each = subs_sound e.kinds e.biers e.labels e_is.kinds e_is.biers e_is.labels m.place;
        apart = subs_apart e.kinds e.biers e.labels e_is.kinds e_is.biers e_is.labels m.place;
        labels = labels_apart e.kinds e.biers e.labels e_is.kinds e_is.biers e_is.labels m.place;
        room = ltb-false MOST_SUB_OCTETS (sub_octets (subs_of e.biers e.labels m.place)) o.1;
      }) in
      subst IsSound (sym m.is) (record {
        area = area_is;
        name = h.name;
        system = h.system;
        prefix = h.prefix;
        few_subs = k.few;
        subs = k.each;
        subdomains = k.apart;
        few_past = omega arith;
        past = tt;
        labels = k.labels;
        room = k.room;
        kinds = all_from (λ k. k.sd < 256) e.kinds (λ k i. let n = all_in (λ k. k.sd ≤ 255) e.kinds k e_is.kinds.each i in omega (arith, n));
        kinds_once = e_is.kinds.once;
        rows = e_is.rows.each;
        triples = e_is.rows.triples;
        bifts = e_is.rows.bifts;
        few_ends = ltb-false 64 (length (ends_of e.routers e.links m.place)) o.0;
        ends = ends_sound e.routers e.links e_is.routers e_is.links m.place;
        peers = peers_apart e.routers e.links e_is.routers e_is.links m.place;
        peer_macs = peer_macs_apart e.routers e.links e_is.routers e_is.links m.place;
      })

  configured : (k : Option Kind) → is_configured k ≡ true → k ≡ Some Configured
  configured None h = absurd (false≢true h)
  configured (Some Mpls) h = absurd (false≢true h)
  configured (Some Configured) h = refl

  keeps : (c : RouterConf) → IsConf c → KeepsKinds c
  keeps c m = subst KeepsKinds (sym m.is) (record {
    subs = each_still (λ s. MayStand (kind_of e.kinds s.sd) s.ranges) (subs_of e.biers e.labels m.place) (subs_may_stand e.kinds e.biers e.labels e_is.kinds e_is.biers e_is.labels m.place);
    rows = all_from (λ row. kind_of e.kinds row.triple.sd ≡ Some Configured) e.table (λ row i. configured (kind_of e.kinds row.triple.sd) (all_in (λ row. is_configured (kind_of e.kinds row.triple.sd) ≡ true) e.table row e_is.rows.kind i));
  })

  alike_from : (k : ℕ) (rs : List RouterEntry) → AreAlike (confs_from level area e k rs)
  alike_from k [] = tt
  alike_from k (r ∷ rs) = later (k + 1) rs
    where
      later : (n : ℕ) (qs : List RouterEntry) → AllByRecursion (IsAlike (conf_of level area e k r)) (confs_from level area e n qs)
      later n [] = tt
      later n (q ∷ qs) = (record { level = refl; area = refl; kinds = refl; table = refl }, later (n + 1) qs)

  links_join : AllByRecursion (IsLink (length confs)) (map link_of e.links)
  unfolding confs
  links_join = all_map (IsLink (length confs)) link_of e.links (λ l i.
      let h = all_in (IsLinkEntry (length e.routers)) e.links l e_is.links.each i in
      let n = length_confs 0 e.routers in
      record { a = subst (λ (n : ℕ). l.a < n) (sym n) h.a; b = subst (λ (n : ℕ). l.b < n) (sym n) h.b; differ = h.differ })

  -- what is counted of a router's sub-domains stays within bounds
  pub confs_few : AllByRecursion HasFewSubs (confs_from level area e 0 e.routers)
  unfolding confs
  confs_few = all_from HasFewSubs confs (λ c i.
      let m = among c i in
      subst HasFewSubs (sym m.is) (record {
        subs = omega (arith, subs_few e.kinds e.biers e.labels e_is.kinds e_is.biers e_is.labels m.place, e_is.few_kinds);
        ranges = all_from (λ s. length s.ranges ≤ 7) (subs_of e.biers e.labels m.place) (λ s j. let k = all_in IsOwnSub (subs_of e.biers e.labels m.place) s (subs_sound e.kinds e.biers e.labels e_is.kinds e_is.biers e_is.labels m.place) j in k.few);
      }))

  -- ---- the domain

  pub confs_valid : AllByRecursion (λ c. is_too_large c ≡ false) (confs_from level area e 0 e.routers) → IsValid (record { routers = confs_from level area e 0 e.routers; links = map link_of e.links })
  unfolding confs
  confs_valid small =
      record {
        consistent = record {
          some = subst (λ (n : ℕ). 1 ≤ n) (sym (length_confs 0 e.routers)) e_is.some;
          few = subst (λ (n : ℕ). n ≤ MOST_ROUTERS) (sym (length_confs 0 e.routers)) e_is.few;
          sound = all_from IsSound confs (λ c i. conf_sound c (among c i) (all_in (λ c. is_too_large c ≡ false) confs c small i));
          few_kinds = all_from (λ r. length r.kinds ≤ 8) confs (λ c i. let m = among c i in subst (λ (c : RouterConf). length c.kinds ≤ 8) (sym m.is) e_is.few_kinds);
          few_rows = all_from (λ r. length r.table ≤ MOST_TABLE_ROWS) confs (λ c i. let m = among c i in subst (λ (c : RouterConf). length c.table ≤ MOST_TABLE_ROWS) (sym m.is) e_is.few_rows);
          names = confs_apart of_name same_name (λ i j r q h. bytes_turned r.name q.name ∙ h) 0 e.routers e_is.routers.names;
          systems = confs_apart of_system same_system (λ i j r q h. bytes_turned r.system.0 q.system.0 ∙ h) 0 e.routers e_is.routers.systems;
          prefixes = confs_apart of_prefix same_prefix (λ i j r q h. bytes_turned r.prefix.0 q.prefix.0 ∙ h) 0 e.routers e_is.routers.prefixes;
          alike = alike_from 0 e.routers;
          kinds = all_from KeepsKinds confs (λ c i. keeps c (among c i));
          links = links_join;
          links_once = apart_map same_routers same_pair link_of e.links (λ l m i j h. h) e_is.links.once;
          ends = have_ends 0 e.routers (λ j x p. ap (slice_get e.routers) (omega arith) ∙ p);
        };
        unchanged = all_from IsUnchanged confs (λ c i. let m = among c i in subst IsUnchanged (sym m.is) (record { away = refl; past = refl }));
      }

  -- what a file's entries make up is valid
  pub domain_valid : (d : DomainConf) → domain_from level area e ≡ Ok d → IsValid d
  unfolding domain_from
  domain_valid d p =
      let q = bind_ok (within_limits 0 (confs_from level area e 0 e.routers)) _ d p in
      subst IsValid (ok_is _ d q.2) (confs_valid (limits_hold 0 (confs_from level area e 0 e.routers) q.0 q.1))
