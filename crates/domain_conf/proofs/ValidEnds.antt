-- The ends of the routers of a domain file: those of a router differ, and the two ends of a link face each other.
use Rattle.std.proofs.Common.{◌≡◌, ℕ, zero, suc, ◌<◌, Bool, true, false, ◌&&◌, ◌||◌, ◌⊎◌, inl, inr, cond, eqb, List, [], ◌∷◌, length, Some, None, refl, sym, ap, subst, ◌∙◌, arith}
use mathlib.Core.Bool.{true≢false, false≢true}
use Rattle.std.proofs.lemmas.Bool.{and_parts, and_from, or_parts, eqb-true, eq-eqb, false_from_ne_true}
use Rattle.std.proofs.lemmas.Option.{same_Some}
use Rattle.std.specs.List.{AllByRecursion}
use Rattle.std.specs.Prelude.{slice_get}
use Rattle.std.specs.Str.{bytes_eq}
use Rattle.wire_base.specs.declared.addresses.SystemId.{SystemId}
use Rattle.wire_base.specs.declared.conf.End.{End}
use Rattle.wire_base.specs.model.Configuration.{IsOctets, IsEnd, same_peer, same_peer_mac}
use Rattle.wire_base.specs.model.Lists.{AreApart}
use Rattle.domain_conf.specs.declared.routers.RouterEntry.{RouterEntry}
use Rattle.domain_conf.specs.declared.links.LinkEntry.{LinkEntry}
use Rattle.domain_conf.specs.Links.{same_routers, has_peer_mac}
use Rattle.domain_conf.specs.Assembled.{system_at, end_of, ends_of}
use Rattle.domain_conf.proofs.ValidArrays.{AreRouters, IsRouterEntry, AreLinks, IsLinkEntry, of_system, share_peer_mac, bytes_turned}
use Rattle.domain_conf.proofs.ValidAmong.{IsIn, all_in, all_from, get_in, in_filter_map, apart_filter_map}

pub bytes_self : (xs : List ℕ) → bytes_eq xs xs ≡ true
bytes_self [] = refl
bytes_self (x ∷ xs) = and_from (eqb x x) (bytes_eq xs xs) (eq-eqb x x refl) (bytes_self xs)

bytes_is : (xs ys : List ℕ) → bytes_eq xs ys ≡ true → xs ≡ ys
bytes_is [] [] h = refl
bytes_is [] (y ∷ ys) h = absurd (false≢true h)
bytes_is (x ∷ xs) [] h = absurd (false≢true h)
bytes_is (x ∷ xs) (y ∷ ys) h =
    let p = and_parts (eqb x y) (bytes_eq xs ys) h in
    ap (λ (n : ℕ). n ∷ xs) (eqb-true x y p.0) ∙ ap (λ (l : List ℕ). y ∷ l) (bytes_is xs ys p.1)

-- ---- an end of a link

-- How a router's end of a link comes about: the router is the first or the second of the link.
pub record IsFirst (routers : List RouterEntry) (i : ℕ) (l : LinkEntry) (e : End) : Type 0 where
  pub here : l.a ≡ i
  pub peer : e.peer ≡ system_at routers l.b
  pub peer_mac : e.peer_mac ≡ l.mac_b
  pub own_mac : e.own_mac ≡ l.mac_a
  pub metric : e.metric ≡ l.metric_ab

pub record IsSecond (routers : List RouterEntry) (i : ℕ) (l : LinkEntry) (e : End) : Type 0 where
  pub not_first : eqb l.a i ≡ false
  pub here : l.b ≡ i
  pub peer : e.peer ≡ system_at routers l.a
  pub peer_mac : e.peer_mac ≡ l.mac_a
  pub own_mac : e.own_mac ≡ l.mac_b
  pub metric : e.metric ≡ l.metric_ba

pub end_is : (routers : List RouterEntry) (i : ℕ) (l : LinkEntry) (e : End) → end_of routers i l ≡ Some e → IsFirst routers i l e ⊎ IsSecond routers i l e
end_is routers i l e is = by (eqb l.a i) (eqb l.b i) refl refl is
  where
    fore : End
    fore = record { peer = system_at routers l.b; peer_mac = l.mac_b; own_mac = l.mac_a; metric = l.metric_ab }

    back : End
    back = record { peer = system_at routers l.a; peer_mac = l.mac_a; own_mac = l.mac_b; metric = l.metric_ba }

    by : (p q : Bool) → eqb l.a i ≡ p → eqb l.b i ≡ q → cond p (Some (record { peer = system_at routers l.b; peer_mac = l.mac_b; own_mac = l.mac_a; metric = l.metric_ab })) (cond q (Some (record { peer = system_at routers l.a; peer_mac = l.mac_a; own_mac = l.mac_b; metric = l.metric_ba })) None) ≡ Some e → IsFirst routers i l e ⊎ IsSecond routers i l e
    by true q p_is q_is is =
        let same = same_Some _ e is in
        inl (record { here = eqb-true l.a i p_is; peer = ap (λ (e : End). e.peer) (sym same); peer_mac = ap (λ (e : End). e.peer_mac) (sym same); own_mac = ap (λ (e : End). e.own_mac) (sym same); metric = ap (λ (e : End). e.metric) (sym same) })
    by false true p_is q_is is =
        let same = same_Some _ e is in
        inr (record { not_first = p_is; here = eqb-true l.b i q_is; peer = ap (λ (e : End). e.peer) (sym same); peer_mac = ap (λ (e : End). e.peer_mac) (sym same); own_mac = ap (λ (e : End). e.own_mac) (sym same); metric = ap (λ (e : End). e.metric) (sym same) })
    by false false p_is q_is is = absurd cc

-- the router at the other end
abbrev pub far : ℕ → LinkEntry → ℕ
far i l = cond (eqb l.a i) l.b l.a

pub peer_is : (routers : List RouterEntry) (i : ℕ) (l : LinkEntry) (e : End) → end_of routers i l ≡ Some e → e.peer ≡ system_at routers (far i l)
peer_is routers i l e is = by (end_is routers i l e is)
  where
    by : IsFirst routers i l e ⊎ IsSecond routers i l e → e.peer ≡ system_at routers (far i l)
    by (inl f) = f.peer ∙ ap (system_at routers) (sym (rw (eq-eqb l.a i f.here) refl))
    by (inr s) = s.peer ∙ ap (system_at routers) (sym (rw s.not_first refl))

-- ---- systems

pub system_there : (routers : List RouterEntry) (i : ℕ) (r : RouterEntry) → slice_get routers i ≡ Some r → system_at routers i ≡ r.system
system_there routers i r e = rw e refl

pub some_there : {X : Type 0} (xs : List X) (i : ℕ) → i < length xs → (x : X) × (slice_get xs i ≡ Some x)
some_there [] i lt = absurd (omega arith)
some_there (x ∷ xs) zero lt = (x, refl)
some_there (x ∷ xs) (suc i) lt = some_there xs i (omega arith)

-- routers of one system stand at one place
pub place_is : (routers : List RouterEntry) (i j : ℕ) (r q : RouterEntry) → AreApart of_system routers → slice_get routers i ≡ Some r → slice_get routers j ≡ Some q → r.system ≡ q.system → i ≡ j
place_is [] i j r q apart p s same = absurd cc
place_is (x ∷ xs) zero zero r q apart p s same = refl
place_is (x ∷ xs) zero (suc j) r q apart p s same =
    let here = same_Some x r p in
    let off : bytes_eq q.system.0 x.system.0 ≡ false = all_in (λ y. bytes_eq y.system.0 x.system.0 ≡ false) xs q apart.0 (get_in xs j q s) in
    absurd (true≢false (sym (bytes_self q.system.0) ∙ (ap (λ (t : SystemId). bytes_eq q.system.0 t.0) (sym (ap (λ (r : RouterEntry). r.system) here ∙ same)) ∙ off)))
place_is (x ∷ xs) (suc i) zero r q apart p s same =
    let here = same_Some x q s in
    let off : bytes_eq r.system.0 x.system.0 ≡ false = all_in (λ y. bytes_eq y.system.0 x.system.0 ≡ false) xs r apart.0 (get_in xs i r p) in
    absurd (true≢false (sym (bytes_self r.system.0) ∙ (ap (λ (t : SystemId). bytes_eq r.system.0 t.0) (same ∙ sym (ap (λ (r : RouterEntry). r.system) here)) ∙ off)))
place_is (x ∷ xs) (suc i) (suc j) r q apart p s same = ap suc (place_is xs i j r q apart.1 p s same)

module _ (routers : List RouterEntry) (links : List LinkEntry) (routers_are : AreRouters routers) (links_are : AreLinks (length routers) links) where
  systems_place : (i j : ℕ) → i < length routers → j < length routers → system_at routers i ≡ system_at routers j → i ≡ j
  systems_place i j h k e =
      let r = some_there routers i h in
      let q = some_there routers j k in
      place_is routers i j r.0 q.0 routers_are.systems r.1 q.1 (sym (system_there routers i r.0 r.1) ∙ (e ∙ system_there routers j q.0 q.1))

  pub far_within : (i : ℕ) (l : LinkEntry) → IsIn l links → far i l < length routers
  far_within i l there = let h = all_in (IsLinkEntry (length routers)) links l links_are.each there in by (eqb l.a i) h
    where
      by : (b : Bool) → IsLinkEntry (length routers) l → cond b l.b l.a < length routers
      by true h = h.b
      by false h = h.a

  system_fits : (i : ℕ) → i < length routers → IsOctets 6 (system_at routers i).0
  system_fits i h =
      let r = some_there routers i h in
      let e = all_in IsRouterEntry routers r.0 routers_are.each (get_in routers i r.0 r.1) in
      subst (λ (s : SystemId). IsOctets 6 s.0) (sym (system_there routers i r.0 r.1)) e.system

  -- ---- each end is sound

  end_sound : (i : ℕ) (l : LinkEntry) (e : End) → IsIn l links → end_of routers i l ≡ Some e → IsEnd e
  end_sound i l e there is = by (end_is routers i l e is) (all_in (IsLinkEntry (length routers)) links l links_are.each there)
    where
      by : IsFirst routers i l e ⊎ IsSecond routers i l e → IsLinkEntry (length routers) l → IsEnd e
      by (inl f) h = record {
        peer = subst (λ (s : SystemId). IsOctets 6 s.0) (sym f.peer) (system_fits l.b h.b);
        peer_mac = rw f.peer_mac h.mac_b;
        own_mac = rw f.own_mac h.mac_a;
        some = rw f.metric h.some_ab;
        last = rw f.metric h.last_ab;
      }
      by (inr s) h = record {
        peer = subst (λ (x : SystemId). IsOctets 6 x.0) (sym s.peer) (system_fits l.a h.a);
        peer_mac = rw s.peer_mac h.mac_a;
        own_mac = rw s.own_mac h.mac_b;
        some = rw s.metric h.some_ba;
        last = rw s.metric h.last_ba;
      }

  pub ends_sound : (i : ℕ) → AllByRecursion IsEnd (ends_of routers links i)
  unfolding ends_of
  ends_sound i = all_from IsEnd (ends_of routers links i) (λ e j. let m = in_filter_map (end_of routers i) links e j in end_sound i m.0 e m.1 m.2)

  -- ---- ends of one router differ

  -- two links that a router has to one other join the same two
  same_pair_joined : (i : ℕ) (l m : LinkEntry) (u v : End) → end_of routers i l ≡ Some u → end_of routers i m ≡ Some v → far i l ≡ far i m → same_routers l m ≡ true
  same_pair_joined i l m u v p q e = by (end_is routers i l u p) (end_is routers i m v q)
    where
      first_far : (k : LinkEntry) → k.a ≡ i → far i k ≡ k.b
      first_far k h = rw (eq-eqb k.a i h) refl

      second_far : (k : LinkEntry) → eqb k.a i ≡ false → far i k ≡ k.a
      second_far k h = rw h refl

      straight : l.a ≡ m.a → l.b ≡ m.b → same_routers l m ≡ true
      straight x y = or_first (eqb l.a m.a && eqb l.b m.b) (eqb l.a m.b && eqb l.b m.a) (and_from (eqb l.a m.a) (eqb l.b m.b) (eq-eqb l.a m.a x) (eq-eqb l.b m.b y))
        where
          or_first : (a b : Bool) → a ≡ true → (a || b) ≡ true
          or_first true b h = refl
          or_first false b h = absurd (false≢true h)

      crossed : l.a ≡ m.b → l.b ≡ m.a → same_routers l m ≡ true
      crossed x y = or_second (eqb l.a m.a && eqb l.b m.b) (eqb l.a m.b && eqb l.b m.a) (and_from (eqb l.a m.b) (eqb l.b m.a) (eq-eqb l.a m.b x) (eq-eqb l.b m.a y))
        where
          or_second : (a b : Bool) → b ≡ true → (a || b) ≡ true
          or_second true b h = refl
          or_second false b h = h

      by : IsFirst routers i l u ⊎ IsSecond routers i l u → IsFirst routers i m v ⊎ IsSecond routers i m v → same_routers l m ≡ true
      by (inl f) (inl g) = straight (f.here ∙ sym g.here) (sym (first_far l f.here) ∙ (e ∙ first_far m g.here))
      by (inl f) (inr s) = crossed (f.here ∙ sym s.here) (sym (first_far l f.here) ∙ (e ∙ second_far m s.not_first))
      by (inr s) (inl g) = crossed (sym (second_far l s.not_first) ∙ (e ∙ first_far m g.here)) (s.here ∙ sym g.here)
      by (inr s) (inr t) = straight (sym (second_far l s.not_first) ∙ (e ∙ second_far m t.not_first)) (s.here ∙ sym t.here)

  pub peers_apart : (i : ℕ) → AreApart same_peer (ends_of routers links i)
  unfolding ends_of
  peers_apart i = apart_filter_map same_routers same_peer (end_of routers i) links one links_are.once
    where
      one : (l m : LinkEntry) (u v : End) → IsIn l links → IsIn m links → same_routers l m ≡ false → end_of routers i l ≡ Some u → end_of routers i m ≡ Some v → bytes_eq u.peer.0 v.peer.0 ≡ false
      one l m u v a b apart p q =
          false_from_ne_true (bytes_eq u.peer.0 v.peer.0) (λ h.
          let systems : u.peer ≡ v.peer = ap (λ (xs : List ℕ). let s : SystemId = record { 0 = xs } in s) (bytes_is u.peer.0 v.peer.0 h) in
          let places = systems_place (far i l) (far i m) (far_within i l a) (far_within i m b) (sym (peer_is routers i l u p) ∙ (systems ∙ peer_is routers i m v q)) in
          true≢false (sym (same_pair_joined i l m u v p q places) ∙ apart))

  pub peer_macs_apart : (i : ℕ) → AreApart same_peer_mac (ends_of routers links i)
  unfolding ends_of
  peer_macs_apart i = apart_filter_map share_peer_mac same_peer_mac (end_of routers i) links one links_are.macs
    where
      other : (x y : Bool) → x ≡ true → (x && y) ≡ false → y ≡ false
      other true y h e = e
      other false y h e = absurd (false≢true h)

      -- the address of a peer of i by a link isn't one that another link gives i
      by_other : (j : ℕ) (mac : List ℕ) (m : LinkEntry) (v : End) → end_of routers i m ≡ Some v → j ≡ i → ((eqb m.a j && bytes_eq m.mac_b.0 mac) || (eqb m.b j && bytes_eq m.mac_a.0 mac)) ≡ false → bytes_eq mac v.peer_mac.0 ≡ false
      by_other j mac m v q at off = by (end_is routers i m v q) (or_parts (eqb m.a j && bytes_eq m.mac_b.0 mac) (eqb m.b j && bytes_eq m.mac_a.0 mac) off)
        where
          by : IsFirst routers i m v ⊎ IsSecond routers i m v → ((eqb m.a j && bytes_eq m.mac_b.0 mac) ≡ false) × ((eqb m.b j && bytes_eq m.mac_a.0 mac) ≡ false) → bytes_eq mac v.peer_mac.0 ≡ false
          by (inl f) o = rw f.peer_mac (bytes_turned mac m.mac_b.0 ∙ other (eqb m.a j) (bytes_eq m.mac_b.0 mac) (eq-eqb m.a j (f.here ∙ sym at)) o.0)
          by (inr s) o = rw s.peer_mac (bytes_turned mac m.mac_a.0 ∙ other (eqb m.b j) (bytes_eq m.mac_a.0 mac) (eq-eqb m.b j (s.here ∙ sym at)) o.1)

      one : (l m : LinkEntry) (u v : End) → IsIn l links → IsIn m links → share_peer_mac l m ≡ false → end_of routers i l ≡ Some u → end_of routers i m ≡ Some v → bytes_eq u.peer_mac.0 v.peer_mac.0 ≡ false
      one l m u v a b apart p q = by (end_is routers i l u p) (or_parts (has_peer_mac l.b l.mac_a m) (has_peer_mac l.a l.mac_b m) apart)
        where
          by : IsFirst routers i l u ⊎ IsSecond routers i l u → (has_peer_mac l.b l.mac_a m ≡ false) × (has_peer_mac l.a l.mac_b m ≡ false) → bytes_eq u.peer_mac.0 v.peer_mac.0 ≡ false
          by (inl f) o = rw f.peer_mac (by_other l.a l.mac_b.0 m v q f.here o.1)
          by (inr s) o = rw s.peer_mac (by_other l.b l.mac_a.0 m v q s.here o.0)
