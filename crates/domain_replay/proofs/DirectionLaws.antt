-- Both routers of each direction of a valid domain are there, and its end leads from the one to the other.
use Rattle.std.proofs.Common.{◌≡◌, ℕ, zero, suc, ◌+◌, ◌<◌, ◌≤◌, Bool, false, if◌then◌else◌, List, [], ◌∷◌, length, map, slice_get, Option, Some, None, option_map, refl, sym, ap, subst, ◌∙◌, arith}
use Rattle.std.specs.List.{AllByRecursion, range_with_len}
use Rattle.std.specs.Str.{bytes_eq}
use Rattle.std.proofs.lemmas.Option.{same_Some}
use Rattle.wire_base.specs.declared.addresses.SystemId.{SystemId}
use Rattle.wire_base.specs.declared.conf.End.{End}
use Rattle.wire_base.specs.declared.conf.RouterConf.{RouterConf}
use Rattle.wire_base.specs.model.Choice.{end_toward}
use Rattle.wire_base.specs.model.Configuration.{DomainConf, IsValid, IsSound, AreEnds, HaveEnds, Faces, peers_of, same_peer}
use Rattle.wire_base.specs.model.Lists.{AreApart}
use Rattle.domain_model.specs.World.{WorldState, peer_place, link_between}
use Rattle.domain_model.specs.Truth.{IsTruthful}
use Rattle.domain_model.specs.Run.{Direction, direction_over, directions_from, directions}
use Rattle.domain_model.proofs.DomainLaws.{bytes_from}
use Rattle.domain_model.proofs.LinkLaws.{peer_at, links_back}
use Rattle.domain_model.proofs.EachLaws.{each_got, each_joined, each_mapped}
use Rattle.domain_model.proofs.QueueLaws.{got_within}
use Rattle.domain_replay.specs.Replaying.{IsJoining}

-- the router at the other end is there
record IsPeered (confs : List RouterConf) (e : End) : Type 0 where
  pub place : ℕ
  pub router : RouterConf
  pub there : slice_get confs place ≡ Some router
  pub peer : e.peer ≡ router.system

end_peered : (confs : List RouterConf) (r : RouterConf) (e : End) (p : ℕ) → Faces r e (slice_get confs p) → IsPeered confs e
end_peered confs r e p h = by (slice_get confs p) refl h
  where
    by : (o : Option RouterConf) → slice_get confs p ≡ o → Faces r e o → IsPeered confs e
    by None s h = absurd h
    by (Some q) s h = record { place = p; router = q; there = s; peer = h.0 }

ends_peered : (confs : List RouterConf) (r : RouterConf) (ps : List ℕ) (es : List End) → AreEnds confs r ps es → AllByRecursion (IsPeered confs) es
ends_peered confs r [] [] h = tt
ends_peered confs r [] (e ∷ es) h = absurd h
ends_peered confs r (p ∷ ps) [] h = tt
ends_peered confs r (p ∷ ps) (e ∷ es) h = (end_peered confs r e p h.0, ends_peered confs r ps es h.1)

end_there : (es : List End) (i : ℕ) → i < length es → (e : End) × (slice_get es i ≡ Some e)
end_there [] i h = absurd (omega (arith, h))
end_there (e ∷ es) zero h = (e, refl)
end_there (e ∷ es) (suc i) h = end_there es i (omega (arith, h))

-- of ends that all lead elsewhere, the one toward a system is the only one
only_toward : (es : List End) → AreApart same_peer es → (s : SystemId) (i : ℕ) (e : End) → slice_get es i ≡ Some e → e.peer ≡ s → end_toward es s ≡ Some i
only_toward [] apart s i e there is = cc
only_toward (x ∷ xs) apart s zero e there is =
    ap (λ (b : Bool). if b then Some 0 else option_map (λ n. n + 1) (end_toward xs s)) (bytes_from x.peer.0 s.0 (ap (λ (y : End). y.peer.0) (same_Some x e there) ∙ ap (λ (y : SystemId). y.0) is))
only_toward (x ∷ xs) apart s (suc i) e there is =
    let k : i + 1 ≡ suc i = omega arith in
    ap (λ (b : Bool). if b then Some 0 else option_map (λ n. n + 1) (end_toward xs s)) (ap (λ (y : SystemId). bytes_eq x.peer.0 y.0) (sym is) ∙ each_got (λ y. same_peer x y ≡ false) xs i e apart.0 there)
    ∙ ap (option_map (λ n. n + 1)) (only_toward xs apart.1 s i e there is) ∙ ap (λ (n : ℕ). Some n) k

between_is : (confs : List RouterConf) (a b link : ℕ) (r q : RouterConf) → slice_get confs a ≡ Some r → slice_get confs b ≡ Some q → end_toward r.ends q.system ≡ Some link → link_between confs a b ≡ Some link
between_is confs a b link r q p s h = rw (p, s) h

each_in_range : (P : ℕ → Type 0) (a n : ℕ) → ((i : ℕ) → a ≤ i → i < a + n → P i) → AllByRecursion P (range_with_len a n)
each_in_range P a zero f = tt
each_in_range P a (suc n) f = (f a (omega arith) (omega arith), each_in_range P (a + 1) n (λ i low high. f i (omega (arith, low)) (omega (arith, high))))

-- the routers from a place on
record IsFrom (confs : List RouterConf) (a : ℕ) (rs : List RouterConf) : Type 0 where
  pub at : (i : ℕ) → slice_get confs (a + i) ≡ slice_get rs i
  pub few : a + length rs ≤ length confs

next_from : (confs : List RouterConf) (a : ℕ) (r : RouterConf) (rs : List RouterConf) → IsFrom confs a (r ∷ rs) → IsFrom confs (a + 1) rs
next_from confs a r rs is = record {
  at = λ i. let k : (a + 1) + i ≡ a + suc i = omega arith in ap (slice_get confs) k ∙ is.at (suc i);
  few = omega (arith, is.few);
}

from_joins : (d : DomainConf) → IsValid d → (a : ℕ) (rs : List RouterConf) → IsFrom d.routers a rs → HaveEnds d a rs → AllByRecursion (IsJoining d.routers) (directions_from d.routers a rs)
from_joins d valid a [] is h = tt
from_joins d valid a (r ∷ rs) is h =
    each_joined (IsJoining d.routers) (map (direction_over d.routers a) (range_with_len 0 (length r.ends))) (directions_from d.routers (a + 1) rs)
    (each_mapped (IsJoining d.routers) (direction_over d.routers a) (range_with_len 0 (length r.ends)) (each_in_range (λ i. IsJoining d.routers (direction_over d.routers a i)) 0 (length r.ends) joins))
    (from_joins d valid (a + 1) rs (next_from d.routers a r rs is) h.1)
  where
    here : slice_get d.routers a ≡ Some r
    here = let k : a ≡ a + 0 = omega arith in ap (slice_get d.routers) k ∙ is.at 0

    joins : (i : ℕ) → 0 ≤ i → i < 0 + length r.ends → IsJoining d.routers (direction_over d.routers a i)
    joins i low high =
        let e = end_there r.ends i (omega (arith, high)) in
        let far : IsPeered d.routers e.0 = each_got (IsPeered d.routers) r.ends i e.0 (ends_peered d.routers r (peers_of a d.links) r.ends h.0) e.1 in
        let leads : peer_place d.routers a i ≡ far.place = peer_at d.routers valid.consistent.systems a i far.place r far.router e.0 here e.1 far.there far.peer in
        let apart = (each_got IsSound d.routers a r valid.consistent.sound here).peers in
        record {
          from = omega (arith, is.few);
          to = subst (λ (p : ℕ). p < length d.routers) (sym leads) (got_within d.routers far.place far.router far.there);
          link = ap (link_between d.routers a) leads ∙ between_is d.routers a far.place i r far.router here far.there (only_toward r.ends apart far.router.system i e.0 e.1 far.peer);
        }

pub directions_join : (d : DomainConf) → IsValid d → AllByRecursion (IsJoining d.routers) (directions d.routers)
unfolding directions
directions_join d valid = from_joins d valid 0 d.routers (record { at = λ i. (let k : 0 + i ≡ i = omega arith in ap (slice_get d.routers) k); few = omega arith }) valid.consistent.ends

-- the end is there at which a direction arrives
pub facing_found : (v w : WorldState) (x d : Direction) (o : Option ℕ) → IsTruthful v → v ≡ w → x ≡ d → link_between w.domain.routers d.from d.to ≡ Some d.link → o ≡ link_between v.domain.routers x.to x.from → o ≡ None → ⊥
facing_found v w x d o t same is joined found none =
    let back = links_back w.domain (subst IsTruthful same t).valid.consistent d.from d.to d.link joined in
    some_none back.0
    (sym back.1 ∙ ap (λ (u : WorldState). link_between u.domain.routers d.to d.from) (sym same) ∙ ap (λ (y : Direction). link_between v.domain.routers y.to y.from) (sym is) ∙ sym found ∙ none)
  where
    some_none : (n : ℕ) → Some n ≡ None → ⊥
    some_none n k = cc
