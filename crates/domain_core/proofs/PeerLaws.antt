-- Where the interfaces of a domain's routers lead.
use Rattle.std.proofs.Common.{◌≡◌, ℕ, zero, suc, ◌+◌, List, [], ◌∷◌, length, map, slice_get, Option, Some, None, option_map, refl, ap, ◌∙◌, arith}
use Rattle.std.specs.List.{range_with_len}
use Rattle.wire_base.specs.declared.conf.End.{End}
use Rattle.wire_base.specs.declared.conf.RouterConf.{RouterConf}
use Rattle.wire_base.specs.model.Lists.{AreApart}
use Rattle.wire_base.specs.model.Configuration as configuration
use Rattle.domain_model.specs.World.{end_at, link_between}
use Rattle.domain_model.proofs.LinkLaws.{join_of, end_found, peer_is}
use Rattle.domain_core.specs.declared.peers.Peer.{Peer}
use Rattle.domain_core.specs.Peers.{peer_over, peer_of, peers_from, peers_of, stored}

-- the numbers below the length of a list, beside its items
counted : {X : Type 0} (f : ℕ → Peer) (n : ℕ) (es : List X) (i k : ℕ) → k ≡ n + i → slice_get (map f (range_with_len n (length es))) i ≡ option_map (λ e. f k) (slice_get es i)
counted f n [] i k is = refl
counted f n (e ∷ es) zero k is = ap (λ (m : ℕ). Some (f m)) (omega (arith, is))
counted f n (e ∷ es) (suc i) k is = counted f (n + 1) es i k (omega (arith, is))

row_at : (confs : List RouterConf) (a : ℕ) (rs : List RouterConf) (i k : ℕ) → k ≡ a + i
    → slice_get (peers_from confs a rs) i ≡ option_map (λ r. map (peer_over confs k) (range_with_len 0 (length r.ends))) (slice_get rs i)
row_at confs a [] i k is = refl
row_at confs a (r ∷ rs) zero k is = ap (λ (m : ℕ). Some (map (peer_over confs m) (range_with_len 0 (length r.ends)))) (omega (arith, is))
row_at confs a (r ∷ rs) (suc i) k is = row_at confs (a + 1) rs i k (omega (arith, is))

-- what is stored of an interface is where it leads
pub peer_stored : (confs : List RouterConf) (at link : ℕ) → stored (slice_get (peers_of confs) at) link ≡ peer_of confs at link
unfolding peers_of
peer_stored confs at link = ap (λ (o : Option (List Peer)). stored o link) (row_at confs 0 confs at at (omega arith)) ∙ over (slice_get confs at)
  where
    over : (o : Option RouterConf) → stored (option_map (λ r. map (peer_over confs at) (range_with_len 0 (length r.ends))) o) link ≡ option_map (λ e. peer_over confs at link) (end_at o link)
    over None = refl
    over (Some r) = counted (peer_over confs at) 0 r.ends link link (omega arith)

-- over a link from one router to another, the interface leads to the other, where the one that leads back is
pub peer_back : (confs : List RouterConf) → AreApart configuration.same_system confs → (a link b : ℕ) → link_between confs a b ≡ Some link
    → peer_of confs a link ≡ Some (record { to = b; back = link_between confs b a })
peer_back confs apart a link b h =
    let j = join_of confs a b link h in
    let e = end_found j.near.ends j.far.system link j.toward in
    ap (option_map (λ (x : End). peer_over confs a link)) (ap (λ (o : Option RouterConf). end_at o link) j.near_at ∙ e.there)
    ∙ ap (λ (to : ℕ). Some (the_peer to)) (peer_is confs apart a b link h)
  where
    the_peer : ℕ → Peer
    the_peer to = record { to = to; back = link_between confs to a }
