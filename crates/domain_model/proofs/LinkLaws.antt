-- Where the ends of a router lead, and where the routers of systems and prefixes stand.
use Rattle.std.proofs.Common.{◌≡◌, ℕ, zero, suc, ◌+◌, Bool, true, false, if◌then◌else◌, List, [], ◌∷◌, length, slice_get, Option, Some, None, option_map, add-one, refl, sym, ap, subst, ◌∙◌, arith}
use mathlib.Core.Bool.{true≢false}
use Rattle.std.specs.List.{AllByRecursion}
use Rattle.std.specs.Str.{bytes_eq}
use Rattle.std.proofs.lemmas.Option.{same_Some}
use Rattle.wire_base.specs.declared.addresses.SystemId.{SystemId}
use Rattle.wire_base.specs.declared.conf.End.{End}
use Rattle.wire_base.specs.declared.conf.RouterConf.{RouterConf}
use Rattle.wire_base.specs.model.Choice.{is_system, end_toward}
use Rattle.wire_base.specs.model.Configuration.{DomainConf, IsConsistent, IsBack, Faces, AreEnds, HaveEnds, end_to, peers_of, same_prefix}
use Rattle.wire_base.specs.model.Configuration as configuration
use Rattle.wire_base.specs.model.Item.{router_with}
use Rattle.wire_base.specs.model.Lists.{AreApart}
use Rattle.laws_router.specs.Becoming.{HasBecome, HaveBecome}
use Rattle.domain_model.specs.World.{place_of, end_at, far_place, peer_place, end_between, link_between}
use Rattle.domain_model.proofs.EachLaws.{each_got}
use Rattle.domain_model.proofs.DomainLaws.{bytes_is, bytes_from, system_place}

-- ---- routers

system_by : (a b : SystemId) → bytes_eq a.0 b.0 ≡ true → a ≡ b
system_by a b h = ap (λ (l : List ℕ). record { 0 = l }) (bytes_is a.0 b.0 h)

-- the place of a router's system is the router's
pub place_is : (confs : List RouterConf) → AreApart configuration.same_system confs → (i : ℕ) (q : RouterConf) → slice_get confs i ≡ Some q → place_of confs q.system ≡ i
place_is [] apart i q e = cc
place_is (r ∷ rs) apart zero q e = ap (λ (b : Bool). if b then 0 else suc (place_of rs q.system)) (bytes_from r.system.0 q.system.0 (ap (λ (x : RouterConf). x.system.0) (same_Some r q e)))
place_is (r ∷ rs) apart (suc i) q e = ap (λ (b : Bool). if b then 0 else suc (place_of rs q.system)) (each_got (λ x. configuration.same_system r x ≡ false) rs i q apart.0 e) ∙ ap suc (place_is rs apart.1 i q e)

-- the router of a prefix
pub prefix_place : (n : ℕ) (confs : List RouterConf) → AreApart same_prefix confs → (i : ℕ) (q : RouterConf) → slice_get confs i ≡ Some q → router_with n confs q.prefix ≡ Some (n + i)
prefix_place n [] apart i q e = cc
prefix_place n (r ∷ rs) apart zero q e =
    let k : n ≡ n + 0 = omega arith in
    ap (λ (b : Bool). if b then Some n else router_with (n + 1) rs q.prefix) (bytes_from r.prefix.0 q.prefix.0 (ap (λ (x : RouterConf). x.prefix.0) (same_Some r q e))) ∙ ap (λ (m : ℕ). Some m) k
prefix_place n (r ∷ rs) apart (suc i) q e =
    let k : n + 1 + i ≡ n + suc i = omega arith in
    ap (λ (b : Bool). if b then Some n else router_with (n + 1) rs q.prefix) (each_got (λ x. same_prefix r x ≡ false) rs i q apart.0 e) ∙ prefix_place (n + 1) rs apart.1 i q e ∙ ap (λ (m : ℕ). Some m) k

-- ---- ends

pub record IsEndToward (es : List End) (s : SystemId) (link : ℕ) : Type 0 where
  pub at : End
  pub there : slice_get es link ≡ Some at
  pub peer : at.peer ≡ s

pub end_found : (es : List End) (s : SystemId) (link : ℕ) → end_toward es s ≡ Some link → IsEndToward es s link
end_found [] s link h = absurd cc
end_found (e ∷ es) s link h = by (λ n k. end_found es s n k) (is_system e.peer s) refl (end_toward es s) refl
  where
    by : ((n : ℕ) → end_toward es s ≡ Some n → IsEndToward es s n) → (b : Bool) → is_system e.peer s ≡ b → (o : Option ℕ) → end_toward es s ≡ o → IsEndToward (e ∷ es) s link
    by more true t o q = let k : Some 0 ≡ Some link = rw t at h in subst (IsEndToward (e ∷ es) s) (same_Some 0 link k) (record { at = e; there = refl; peer = system_by e.peer s t })
    by more false t None q = let k : option_map (λ n. n + 1) (end_toward es s) ≡ Some link = rw t at h in let z : None ≡ Some link = rw q at k in absurd cc
    by more false t (Some n) q =
        let k : option_map (λ n. n + 1) (end_toward es s) ≡ Some link = rw t at h in
        let z : Some (n + 1) ≡ Some link = rw q at k in
        let m = more n q in
        let next : suc n ≡ link = sym (add-one n) ∙ same_Some (n + 1) link z in
        subst (IsEndToward (e ∷ es) s) next (record { at = m.at; there = m.there; peer = m.peer })

-- where there is an end with that peer, one is found
pub end_some : (es : List End) (s : SystemId) (link : ℕ) (e : End) → slice_get es link ≡ Some e → e.peer ≡ s → (m : ℕ) × (end_toward es s ≡ Some m)
end_some [] s link e there is = absurd cc
end_some (x ∷ xs) s link e there is = by (is_system x.peer s) refl link there (λ n k. end_some xs s n e k is)
  where
    by : (b : Bool) → is_system x.peer s ≡ b → (n : ℕ) → slice_get (x ∷ xs) n ≡ Some e → ((n : ℕ) → slice_get xs n ≡ Some e → (m : ℕ) × (end_toward xs s ≡ Some m)) → (m : ℕ) × (end_toward (x ∷ xs) s ≡ Some m)
    by true t n k more = (0, rw t refl)
    by false t zero k more = absurd (true≢false (sym (bytes_from x.peer.0 s.0 (ap (λ (y : End). y.peer.0) (same_Some x e k) ∙ ap (λ (y : SystemId). y.0) is)) ∙ t))
    by false t (suc n) k more = let m = more n k in (m.0 + 1, rw (t, m.1) refl)

-- ---- links

-- a link that joins two routers
pub record IsJoin (confs : List RouterConf) (a b link : ℕ) : Type 0 where
  pub near : RouterConf
  pub far : RouterConf
  pub near_at : slice_get confs a ≡ Some near
  pub far_at : slice_get confs b ≡ Some far
  pub toward : end_toward near.ends far.system ≡ Some link

pub join_of : (confs : List RouterConf) (a b link : ℕ) → link_between confs a b ≡ Some link → IsJoin confs a b link
join_of confs a b link h = by (slice_get confs a) refl (slice_get confs b) refl h
  where
    by : (r : Option RouterConf) → slice_get confs a ≡ r → (q : Option RouterConf) → slice_get confs b ≡ q → end_between r q ≡ Some link → IsJoin confs a b link
    by None p q s h = absurd cc
    by (Some r) p None s h = absurd cc
    by (Some r) p (Some q) s h = record { near = r; far = q; near_at = p; far_at = s; toward = h }

-- the end leads there
pub peer_is : (confs : List RouterConf) → AreApart configuration.same_system confs → (a b link : ℕ) → link_between confs a b ≡ Some link → peer_place confs a link ≡ b
peer_is confs apart a b link h =
    let j = join_of confs a b link h in
    let e = end_found j.near.ends j.far.system link j.toward in
    ap (λ (o : Option RouterConf). far_place confs (end_at o link)) j.near_at ∙ ap (far_place confs) e.there ∙ ap (place_of confs) e.peer ∙ place_is confs apart b j.far j.far_at

-- the end of a router leads to the router of its peer
pub peer_at : (confs : List RouterConf) → AreApart configuration.same_system confs → (a link b : ℕ) (r q : RouterConf) (e : End) → slice_get confs a ≡ Some r → slice_get r.ends link ≡ Some e → slice_get confs b ≡ Some q → e.peer ≡ q.system → peer_place confs a link ≡ b
peer_at confs apart a link b r q e near at far is =
    ap (λ (o : Option RouterConf). far_place confs (end_at o link)) near ∙ ap (far_place confs) at ∙ ap (place_of confs) is ∙ place_is confs apart b q far

-- each end is met by one of the router that it leads to
record IsMet (confs : List RouterConf) (r : RouterConf) (e : End) : Type 0 where
  pub place : ℕ
  pub router : RouterConf
  pub there : slice_get confs place ≡ Some router
  pub peer : e.peer ≡ router.system
  pub back : (f : End) × (end_to router.ends r.system ≡ Some f)

faces_met : (confs : List RouterConf) (r : RouterConf) (e : End) (p : ℕ) → Faces r e (slice_get confs p) → IsMet confs r e
faces_met confs r e p h = by (slice_get confs p) refl h
  where
    back : (q : RouterConf) → IsBack e (end_to q.ends r.system) → (f : End) × (end_to q.ends r.system ≡ Some f)
    back q k = at (end_to q.ends r.system) refl k
      where
        at : (o : Option End) → end_to q.ends r.system ≡ o → IsBack e o → (f : End) × (end_to q.ends r.system ≡ Some f)
        at None s k = absurd k
        at (Some f) s k = (f, s)

    by : (o : Option RouterConf) → slice_get confs p ≡ o → Faces r e o → IsMet confs r e
    by None s h = absurd h
    by (Some q) s h = record { place = p; router = q; there = s; peer = h.0; back = back q h.1 }

ends_met : (confs : List RouterConf) (r : RouterConf) (ps : List ℕ) (es : List End) → AreEnds confs r ps es → AllByRecursion (IsMet confs r) es
ends_met confs r [] [] h = tt
ends_met confs r [] (e ∷ es) h = absurd h
ends_met confs r (p ∷ ps) [] h = tt
ends_met confs r (p ∷ ps) (e ∷ es) h = (faces_met confs r e p h.0, ends_met confs r ps es h.1)

routers_met : (d : DomainConf) (n : ℕ) (rs : List RouterConf) → HaveEnds d n rs → AllByRecursion (λ r. AllByRecursion (IsMet d.routers r) r.ends) rs
routers_met d n [] h = tt
routers_met d n (r ∷ rs) h = (ends_met d.routers r (peers_of n d.links) r.ends h.0, routers_met d (n + 1) rs h.1)

end_to_at : (es : List End) (s : SystemId) (f : End) → end_to es s ≡ Some f → (m : ℕ) × (end_toward es s ≡ Some m)
end_to_at [] s f h = absurd cc
end_to_at (e ∷ es) s f h = by (bytes_eq e.peer.0 s.0) refl (λ k. end_to_at es s f k)
  where
    by : (b : Bool) → bytes_eq e.peer.0 s.0 ≡ b → (end_to es s ≡ Some f → (m : ℕ) × (end_toward es s ≡ Some m)) → (m : ℕ) × (end_toward (e ∷ es) s ≡ Some m)
    by true t more = (0, rw t refl)
    by false t more = let k : end_to es s ≡ Some f = rw t at h in let m = more k in (m.0 + 1, rw (t, m.1) refl)

-- the router that meets an end is the one that the end leads to
met_is : (d : DomainConf) → IsConsistent d → (r far : RouterConf) (e : End) (b : ℕ) (m : IsMet d.routers r e) → slice_get d.routers b ≡ Some far → e.peer ≡ far.system → m.router ≡ far
met_is d valid r far e b m there peer =
    let place : m.place ≡ b = system_place d valid m.place b m.router far m.there there (sym m.peer ∙ peer) in
    same_Some m.router far (sym m.there ∙ ap (slice_get d.routers) place ∙ there)

between_is : (confs : List RouterConf) (a b link : ℕ) (r q : RouterConf) → slice_get confs a ≡ Some r → slice_get confs b ≡ Some q → end_toward r.ends q.system ≡ Some link → link_between confs a b ≡ Some link
between_is confs a b link r q p s h = rw (p, s) h

back_of : (d : DomainConf) → IsConsistent d → (a b link : ℕ) → IsJoin d.routers a b link → (back : ℕ) × (link_between d.routers b a ≡ Some back)
back_of d valid a b link j =
    let e = end_found j.near.ends j.far.system link j.toward in
    let ends : AllByRecursion (IsMet d.routers j.near) j.near.ends = each_got (λ (r : RouterConf). AllByRecursion (IsMet d.routers r) r.ends) d.routers a j.near (routers_met d 0 d.routers valid.ends) j.near_at in
    let met : IsMet d.routers j.near e.at = each_got (IsMet d.routers j.near) j.near.ends link e.at ends e.there in
    let back = end_to_at met.router.ends j.near.system met.back.0 met.back.1 in
    let same : met.router ≡ j.far = met_is d valid j.near j.far e.at b met j.far_at e.peer in
    (back.0, between_is d.routers b a back.0 j.far j.near j.far_at j.near_at (subst (λ (q : RouterConf). end_toward q.ends j.near.system ≡ Some back.0) same back.1))

-- a link has two directions
pub links_back : (d : DomainConf) → IsConsistent d → (a b link : ℕ) → link_between d.routers a b ≡ Some link → (back : ℕ) × (link_between d.routers b a ≡ Some back)
links_back d valid a b link h = back_of d valid a b link (join_of d.routers a b link h)

-- ---- routers whose configurations have changed

pub become_at : (rs qs : List RouterConf) (i : ℕ) (r q : RouterConf) → HaveBecome rs qs → slice_get rs i ≡ Some r → slice_get qs i ≡ Some q → HasBecome r q
become_at [] qs i r q b e f = absurd cc
become_at (x ∷ xs) [] i r q b e f = absurd b
become_at (x ∷ xs) (y ∷ ys) zero r q b e f = subst (λ (z : RouterConf). HasBecome z q) (same_Some x r e) (subst (λ (z : RouterConf). HasBecome x z) (same_Some y q f) b.0)
become_at (x ∷ xs) (y ∷ ys) (suc i) r q b e f = become_at xs ys i r q b.1 e f

-- none becomes more or fewer
become_length : (rs qs : List RouterConf) → HaveBecome rs qs → length rs ≡ length qs
become_length [] [] b = refl
become_length [] (y ∷ ys) b = absurd b
become_length (x ∷ xs) [] b = absurd b
become_length (x ∷ xs) (y ∷ ys) b = ap suc (become_length xs ys b.1)

place_stays : (rs qs : List RouterConf) (s : SystemId) → HaveBecome rs qs → place_of rs s ≡ place_of qs s
place_stays [] [] s b = refl
place_stays [] (y ∷ ys) s b = absurd b
place_stays (x ∷ xs) [] s b = absurd b
place_stays (x ∷ xs) (y ∷ ys) s b =
    ap (λ (z : SystemId). if bytes_eq z.0 s.0 then 0 else suc (place_of xs s)) (sym (ap (λ (z : RouterConf). z.system) b.0.one))
    ∙ ap (λ (n : ℕ). if bytes_eq y.system.0 s.0 then 0 else suc n) (place_stays xs ys s b.1)

end_stays : (rs qs : List RouterConf) (a link : ℕ) → HaveBecome rs qs → end_at (slice_get rs a) link ≡ end_at (slice_get qs a) link
end_stays [] [] a link b = refl
end_stays [] (y ∷ ys) a link b = absurd b
end_stays (x ∷ xs) [] a link b = absurd b
end_stays (x ∷ xs) (y ∷ ys) zero link b = ap (λ (z : RouterConf). slice_get z.ends link) (sym b.0.one)
end_stays (x ∷ xs) (y ∷ ys) (suc a) link b = end_stays xs ys a link b.1

-- each end leads to the same place
pub places_stay : (rs qs : List RouterConf) (a link : ℕ) → HaveBecome rs qs → peer_place rs a link ≡ peer_place qs a link
places_stay rs qs a link b = ap (far_place rs) (end_stays rs qs a link b) ∙ far (end_at (slice_get qs a) link)
  where
    far : (o : Option End) → far_place rs o ≡ far_place qs o
    far None = become_length rs qs b
    far (Some e) = place_stays rs qs e.peer b
