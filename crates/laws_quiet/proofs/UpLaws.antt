-- The edges of a router's own node lead over links that are up, and across those of a quiet domain the LSDBs say the same.
use Rattle.std.proofs.Common.{◌≡◌, ℕ, zero, suc, ◌+◌, ◌==◌, Bool, true, false, if◌then◌else◌, List, [], ◌∷◌, map, slice_get, slice_index_or, is_some, Option, Some, None, inl, inr, refl, sym, ap, subst, ◌∙◌, arith}
use mathlib.Core.Bool.{false≢true}
use Rattle.std.specs.Prelude.{◌⊎◌}
use Rattle.std.specs.List.{AllByRecursion, cons_option}
use Rattle.std.proofs.lemmas.Bool.{eqb-true}
use Rattle.std.proofs.lemmas.Option.{same_Some}
use Rattle.wire_base.specs.declared.addresses.SystemId.{SystemId}
use Rattle.wire_base.specs.declared.conf.End.{End}
use Rattle.wire_base.specs.declared.conf.LinkConf.{LinkConf}
use Rattle.wire_base.specs.declared.conf.RouterConf.{RouterConf}
use Rattle.wire_base.specs.model.Choice.{end_toward}
use Rattle.wire_base.specs.model.Configuration.{AreEnds, DomainConf, Faces, HaveEnds, IsSound, other_end, peers_of, same_peer}
use Rattle.wire_base.specs.model.Control.{Control, same_system}
use Rattle.wire_base.specs.model.Lists.{AreApart}
use Rattle.wire_base.specs.model.OwnLsp.{picked}
use Rattle.wire_base.specs.model.View.{end_link, least_of, metric_to}
use Rattle.laws_router.proofs.DomainLaws.{same_stripped}
use Rattle.domain_model.specs.Faults.{is_up_toward, up_over}
use Rattle.domain_model.specs.Truth.{IsTruthful, confs_now, domain_now}
use Rattle.domain_model.specs.World.{WorldState, end_between, link_between}
use Rattle.domain_model.proofs.DomainLaws.{apart_place, bytes_from, bytes_is, bytes_turned, system_place}
use Rattle.domain_model.proofs.EachLaws.{each_got}
use Rattle.domain_model.proofs.LinkLaws.{end_found, end_some}
use Rattle.laws_course.proofs.ChangedLaws.{link_stays}

-- ---- interfaces that are up

pub record HasUpEnd (ups : List Bool) (ends : List End) (s : SystemId) : Type 0 where
  pub link : ℕ
  pub interface : End
  pub there : slice_get ends link ≡ Some interface
  pub peer : interface.peer ≡ s
  pub is_up : slice_index_or ups link false ≡ true

later_end : (b : Bool) (up : List Bool) (e : End) (ends : List End) (s : SystemId) → HasUpEnd up ends s → HasUpEnd (b ∷ up) (e ∷ ends) s
later_end b up e ends s h = record { link = suc h.link; interface = h.interface; there = h.there; peer = h.peer; is_up = h.is_up }

pub some_up : (up : List Bool) (ends : List End) (s : SystemId) → is_some (metric_to (map end_link (picked up ends)) s) ≡ true → HasUpEnd up ends s
some_up [] [] s h = absurd (false≢true h)
some_up [] (e ∷ ends) s h = absurd (false≢true h)
some_up (b ∷ up) [] s h = absurd (false≢true h)
some_up (false ∷ up) (e ∷ ends) s h = later_end false up e ends s (some_up up ends s h)
some_up (true ∷ up) (e ∷ ends) s h = by (same_system e.peer s) refl h (λ k. some_up up ends s k)
  where
    by : (b : Bool) → same_system e.peer s ≡ b → is_some (if b then Some (least_of e.metric (metric_to (map end_link (picked up ends)) s)) else metric_to (map end_link (picked up ends)) s) ≡ true
        → (is_some (metric_to (map end_link (picked up ends)) s) ≡ true → HasUpEnd up ends s) → HasUpEnd (true ∷ up) (e ∷ ends) s
    by true t k more = record { link = 0; interface = e; there = refl; peer = ap (λ (l : List ℕ). record { 0 = l }) (bytes_is e.peer.0 s.0 t); is_up = refl }
    by false t k more = later_end true up e ends s (more k)

-- the interface is the one toward the system
toward_is : (ends : List End) (s : SystemId) (link : ℕ) (e : End) → AreApart same_peer ends → slice_get ends link ≡ Some e → e.peer ≡ s → end_toward ends s ≡ Some link
toward_is ends s link e apart there peer =
    let some = end_some ends s link e there peer in
    let found = end_found ends s some.0 some.1 in
    let same : some.0 ≡ link = apart_place same_peer (λ a b h. bytes_turned a.peer.0 b.peer.0 h) ends some.0 link found.at e apart found.there there (bytes_from found.at.peer.0 e.peer.0 (ap (λ (t : SystemId). t.0) (found.peer ∙ sym peer))) in
    some.1 ∙ ap (λ (n : ℕ). Some n) same

-- ---- links of the domain

ends_of : (d : DomainConf) (n : ℕ) (rs : List RouterConf) (i : ℕ) (r : RouterConf) → HaveEnds d n rs → slice_get rs i ≡ Some r → AreEnds d.routers r (peers_of (n + i) d.links) r.ends
ends_of d n [] i r have at = cc
ends_of d n (q ∷ rs) zero r have at =
    let z : n ≡ n + 0 = omega arith in
    subst (λ (m : ℕ). AreEnds d.routers r (peers_of m d.links) r.ends) z (subst (λ (x : RouterConf). AreEnds d.routers x (peers_of n d.links) x.ends) (same_Some q r at) have.0)
ends_of d n (q ∷ rs) (suc i) r have at =
    let z : n + 1 + i ≡ n + suc i = omega arith in
    subst (λ (m : ℕ). AreEnds d.routers r (peers_of m d.links) r.ends) z (ends_of d (n + 1) rs i r have.1 at)

record IsFaced (routers : List RouterConf) (ps : List ℕ) (link : ℕ) (e : End) : Type 0 where
  place : ℕ
  listed : slice_get ps link ≡ Some place
  router : RouterConf
  there : slice_get routers place ≡ Some router
  peer : e.peer ≡ router.system

faced : (routers : List RouterConf) (r : RouterConf) (ps : List ℕ) (es : List End) (link : ℕ) (e : End) → AreEnds routers r ps es → slice_get es link ≡ Some e → IsFaced routers ps link e
faced routers r [] [] link e are at = cc
faced routers r [] (f ∷ es) link e are at = absurd are
faced routers r (p ∷ ps) [] link e are at = cc
faced routers r (p ∷ ps) (f ∷ es) zero e are at = by (slice_get routers p) refl are.0
  where
    by : (o : Option RouterConf) → slice_get routers p ≡ o → Faces r f o → IsFaced routers (p ∷ ps) 0 e
    by None q h = absurd h
    by (Some x) q h = record { place = p; listed = refl; router = x; there = q; peer = ap (λ (y : End). y.peer) (sym (same_Some f e at)) ∙ h.0 }
faced routers r (p ∷ ps) (f ∷ es) (suc link) e are at =
    let more = faced routers r ps es link e are.1 at in
    record { place = more.place; listed = more.listed; router = more.router; there = more.there; peer = more.peer }

-- a peer is that of a link
peer_link : (P : LinkConf → Type 0) (x y : ℕ) (links : List LinkConf) (n : ℕ) → AllByRecursion P links → slice_get (peers_of x links) n ≡ Some y → (l : LinkConf) × P l × (other_end x l ≡ Some y)
peer_link P x y [] n all at = cc
peer_link P x y (l ∷ links) n all at = by (other_end x l) refl n at (λ m k. peer_link P x y links m all.1 k)
  where
    by : (o : Option ℕ) → other_end x l ≡ o → (n : ℕ) → slice_get (cons_option o (peers_of x links)) n ≡ Some y → ((m : ℕ) → slice_get (peers_of x links) m ≡ Some y → (k : LinkConf) × P k × (other_end x k ≡ Some y))
        → (k : LinkConf) × P k × (other_end x k ≡ Some y)
    by None q n at more = more n at
    by (Some z) q zero at more = (l, all.0, q ∙ at)
    by (Some z) q (suc n) at more = more n at

two_ends : (x y : ℕ) (l : LinkConf) → other_end x l ≡ Some y → ((l.a ≡ x) × (l.b ≡ y)) ⊎ ((l.a ≡ y) × (l.b ≡ x))
two_ends x y l h = by (l.a == x) refl (l.b == x) refl
  where
    by : (b : Bool) → (l.a == x) ≡ b → (c : Bool) → (l.b == x) ≡ c → ((l.a ≡ x) × (l.b ≡ y)) ⊎ ((l.a ≡ y) × (l.b ≡ x))
    by true t c u = let k : Some l.b ≡ Some y = rw t at h in inl (eqb-true l.a x t, same_Some l.b y k)
    by false t true u = let k : Some l.a ≡ Some y = rw (t, u) at h in inr (same_Some l.a y k, eqb-true l.b x u)
    by false t false u = let k : None ≡ Some y = rw (t, u) at h in cc

-- ---- across a link

module _ (w : WorldState) (truth : IsTruthful w) (a b : ℕ) (c : Control) (q : RouterConf) (at : slice_get w.routers a ≡ Some c) (conf : slice_get (confs_now w) a ≡ Some c.conf) (far : slice_get (confs_now w) b ≡ Some q)
    (up : HasUpEnd c.flood.up c.conf.ends q.system) where
  pub is_toward : is_up_toward w a b ≡ true
  is_toward =
      let sound = each_got IsSound (confs_now w) a c.conf truth.now.sound conf in
      let toward = toward_is c.conf.ends q.system up.link up.interface sound.peers up.there up.peer in
      let link : link_between w.domain.routers a b ≡ Some up.link =
      link_stays w.domain.routers (confs_now w) (same_stripped w.domain.routers (confs_now w) truth.become) a b
      ∙ ap (λ (o : Option RouterConf). end_between o (slice_get (confs_now w) b)) conf ∙ ap (end_between (Some c.conf)) far ∙ toward in
      ap (λ (o : Option Control). up_over o (link_between w.domain.routers a b)) at ∙ ap (up_over (Some c)) link ∙ up.is_up

  -- the link of the domain between the two
  pub record IsLinkOf (P : LinkConf → Type 0) : Type 0 where
    pub link : LinkConf
    pub has : P link
    pub ends : ((link.a ≡ a) × (link.b ≡ b)) ⊎ ((link.a ≡ b) × (link.b ≡ a))

  pub link_of : (P : LinkConf → Type 0) → AllByRecursion P w.domain.links → IsLinkOf P
  link_of P all =
      let ends = ends_of (domain_now w) 0 (confs_now w) a c.conf truth.now.ends conf in
      let z : 0 + a ≡ a = omega arith in
      let f = faced (confs_now w) c.conf (peers_of (0 + a) w.domain.links) c.conf.ends up.link up.interface ends up.there in
      let place : f.place ≡ b = system_place (domain_now w) truth.now f.place b f.router q f.there far (sym f.peer ∙ up.peer) in
      let l = peer_link P a b w.domain.links up.link all (subst (λ (p : ℕ). slice_get (peers_of p w.domain.links) up.link ≡ Some b) z (f.listed ∙ ap (λ (n : ℕ). Some n) place)) in
      record { link = l.0; has = l.1; ends = two_ends a b l.0 l.2 }
