-- The item of each frame in flight stays when a router is given other labels, or leaves or joins a sub-domain: its labels
-- keep their meanings, so a packet that was parsed is parsed as before.
use Rattle.std.proofs.Common.{◌≡◌, ℕ, zero, suc, ◌+◌, ◌/◌, nat_lt, Bool, true, false, if◌then◌else◌, List, [], ◌∷◌, length, map, slice_get, slice_set, slice_index_or, Option, Some, None, Result, Ok, Err, refl, sym, ap, subst, ◌∙◌}
use Rattle.std.specs.List.{AllByRecursion}
use Rattle.std.specs.Str.{bytes_eq}
use Rattle.std.proofs.lemmas.Option.{none-some, same_Some}
use Rattle.byteorder.specs.Endian.{big_number}
use Rattle.wire_base.specs.declared.addresses.Ipv4.{Ipv4}
use Rattle.wire_base.specs.declared.cause.Cause.TheVariants as cause
use Rattle.wire_base.specs.declared.conf.Kind.{Kind}
use Rattle.wire_base.specs.declared.conf.Kind.TheVariants.{Mpls, Configured}
use Rattle.wire_base.specs.declared.conf.Level.{Level}
use Rattle.wire_base.specs.declared.conf.RouterConf.{RouterConf}
use Rattle.wire_base.specs.declared.faults.FrameFault.{FrameFault}
use Rattle.wire_base.specs.declared.faults.HeadFault.TheVariants as head_fault
use Rattle.wire_base.specs.declared.faults.IpFault.{IpFault}
use Rattle.wire_base.specs.declared.triple.Triple.{Triple}
use Rattle.wire_base.specs.model.Configuration.{IsSound}
use Rattle.wire_base.specs.model.Ethernet.{Carried, IsisPdu, MplsPacket, BierPacket, IpPacket, OtherFrame, frame_at}
use Rattle.wire_base.specs.model.Item.{Item, ControlItem, PacketItem, router_with}
use Rattle.wire_base.specs.model.OnFrame.{Packet, is_not_last}
use Rattle.wire_base.specs.model.Place.{means}
use Rattle.wire_base.specs.model.Tunnel.{TunnelPacket, tunnel_at}
use Rattle.laws_router.specs.Becoming.{AreOfOne, IsLater, HaveBecome}
use Rattle.laws_router.proofs.DomainLaws.{each_unmapped}
use Rattle.laws_router.proofs.MeaningLaws.{means_kept}
use Rattle.bier_forward.specs.Packets.{with_meaning, packet_at}
use Rattle.domain_model.specs.Truth.{router_at, IsTrueItem, IsTruthful}
use Rattle.domain_model.specs.World.{peer_place}
use Rattle.domain_model.proofs.EachLaws.{each_from, each_weaker, each_both}
use Rattle.frames_in_flight.specs.declared.flight.Flight.{Flight}
use Rattle.frames_in_flight.specs.declared.flight.Note.{Note}
use Rattle.frames_in_flight.specs.Flights.{item_seen, items_seen, frames_at, place_noted, place_seen, ids_seen, ids_read}
use Rattle.frames_in_flight.specs.Framed.{frame_over}
use Rattle.frames_in_flight.specs.Read.{pdu_carried, level_of, packet_or_none, tunnel_carried, packet_carried, packet_for, tunnel_end, place_carried, reader_place, packet_in, outer_in, copy_read, copy_in, item_in}
use Rattle.frames_in_flight.proofs.ReadLaws.{ids_are}
use Rattle.domain_core.specs.Network.{NetworkState, confs_in, world_of, IsFrameOver, AreFramesOver}
use Rattle.domain_core.proofs.SeenLaws.{seen_at}

-- ---- what is parsed stays

-- what a BIFT-id means at one router it means at the other
abbrev KeepsMeanings : RouterConf → RouterConf → Type 0
KeepsMeanings q next = (kind : Kind) (b : ℕ) (t : Triple) → means q kind b ≡ Some t → means next kind b ≡ Some t

module _ (q next : RouterConf) (kept : KeepsMeanings q next) (p : Packet) where
  packet_kept : (kind : Kind) (octets : List ℕ) → packet_or_none (packet_at q kind octets) ≡ Some p → packet_or_none (packet_at next kind octets) ≡ Some p
  unfolding packet_at
  packet_kept kind octets h = by (nat_lt (length octets) 4) (is_not_last kind (big_number 4 octets)) (means q kind (big_number 4 octets / 4096)) refl h
    where
      by : (s l : Bool) (o : Option Triple) → means q kind (big_number 4 octets / 4096) ≡ o
          → packet_or_none (if s then Err (cause.Head head_fault.Short) else if l then Err cause.Label else with_meaning kind octets o) ≡ Some p
          → packet_or_none (if s then Err (cause.Head head_fault.Short) else if l then Err cause.Label else with_meaning kind octets (means next kind (big_number 4 octets / 4096))) ≡ Some p
      by true l o e h = absurd (none-some p h)
      by false true o e h = absurd (none-some p h)
      by false false None e h = absurd (none-some p h)
      by false false (Some t) e h = ap (λ (m : Option Triple). packet_or_none (with_meaning kind octets m)) (kept kind (big_number 4 octets / 4096) t e) ∙ h

  tunnel_kept : (r : Result TunnelPacket IpFault) → tunnel_carried q r ≡ Some p → tunnel_carried next r ≡ Some p
  tunnel_kept (Ok t) h = packet_kept t.inner t.carried h
  tunnel_kept (Err fault) h = absurd (none-some p h)

  carried_kept : (c : Result Carried FrameFault) → packet_carried q c ≡ Some p → packet_carried next c ≡ Some p
  carried_kept (Ok (MplsPacket octets)) h = packet_kept Mpls octets h
  carried_kept (Ok (BierPacket octets)) h = packet_kept Configured octets h
  carried_kept (Ok (IpPacket octets)) h = tunnel_kept (tunnel_at octets) h
  carried_kept (Ok (IsisPdu octets)) h = absurd (none-some p h)
  carried_kept (Ok OtherFrame) h = absurd (none-some p h)
  carried_kept (Err fault) h = absurd (none-some p h)

-- ---- the routers after the change

record HasKept (nexts : List RouterConf) (i : ℕ) (q : RouterConf) : Type 0 where
  router : RouterConf
  there : slice_get nexts i ≡ Some router
  meanings : KeepsMeanings q router

kept_at : (confs : List RouterConf) (a : ℕ) (r next : RouterConf) → slice_get confs a ≡ Some r → KeepsMeanings r next → (i : ℕ) (q : RouterConf) → slice_get confs i ≡ Some q → HasKept (slice_set confs a next) i q
kept_at [] a r next e k i q f = absurd cc
kept_at (x ∷ xs) zero r next e k zero q f = record { router = next; there = refl; meanings = subst (λ (z : RouterConf). KeepsMeanings z next) (sym (same_Some x r e) ∙ same_Some x q f) k }
kept_at (x ∷ xs) zero r next e k (suc i) q f = record { router = q; there = f; meanings = λ kind b t m. m }
kept_at (x ∷ xs) (suc a) r next e k zero q f = record { router = x; there = refl; meanings = subst (λ (z : RouterConf). KeepsMeanings z x) (same_Some x q f) (λ kind b t m. m) }
kept_at (x ∷ xs) (suc a) r next e k (suc i) q f = let n = kept_at xs a r next e k i q f in record { router = n.router; there = n.there; meanings = n.meanings }

level_stays : (confs : List RouterConf) (a : ℕ) (r next : RouterConf) → slice_get confs a ≡ Some r → next.level ≡ r.level → level_of (slice_set confs a next) ≡ level_of confs
level_stays [] a r next e same = absurd cc
level_stays (x ∷ xs) zero r next e same = same ∙ ap (λ (z : RouterConf). z.level) (sym (same_Some x r e))
level_stays (x ∷ xs) (suc a) r next e same = refl

-- each prefix is at its place
prefix_stays : (n : ℕ) (confs : List RouterConf) (a : ℕ) (r next : RouterConf) (p : Ipv4) → slice_get confs a ≡ Some r → next.prefix ≡ r.prefix → router_with n (slice_set confs a next) p ≡ router_with n confs p
prefix_stays n [] a r next p e same = absurd cc
prefix_stays n (x ∷ xs) zero r next p e same = ap (λ (z : Ipv4). if bytes_eq z.0 p.0 then Some n else router_with (n + 1) xs p) (same ∙ ap (λ (z : RouterConf). z.prefix) (sym (same_Some x r e)))
prefix_stays n (x ∷ xs) (suc a) r next p e same = ap (λ (o : Option ℕ). if bytes_eq x.prefix.0 p.0 then Some n else o) (prefix_stays (n + 1) xs a r next p e same)

-- ---- the item of a frame stays

module _ (confs : List RouterConf) (a : ℕ) (r next : RouterConf) (at : slice_get confs a ≡ Some r) (one : AreOfOne next r) (kept : KeepsMeanings r next) where
  abbrev nexts : List RouterConf
  nexts = slice_set confs a next

  tunnel_stays : (t : Result TunnelPacket IpFault) → tunnel_end nexts t ≡ tunnel_end confs t
  tunnel_stays (Ok t) = prefix_stays 0 confs a r next t.dst at (ap (λ (z : RouterConf). z.prefix) one)
  tunnel_stays (Err fault) = refl

  place_stays : (to : ℕ) (c : Result Carried FrameFault) → place_carried nexts to c ≡ place_carried confs to c
  place_stays to (Ok (IpPacket octets)) = tunnel_stays (tunnel_at octets)
  place_stays to (Ok (MplsPacket octets)) = refl
  place_stays to (Ok (BierPacket octets)) = refl
  place_stays to (Ok (IsisPdu octets)) = refl
  place_stays to (Ok OtherFrame) = refl
  place_stays to (Err fault) = refl

  read_kept : (octets : List ℕ) (p : Packet) (o : Option ℕ) → packet_for (router_at confs o) octets ≡ Some p → packet_for (router_at nexts o) octets ≡ Some p
  read_kept octets p None h = absurd (none-some p h)
  read_kept octets p (Some place) h = by (slice_get confs place) refl h
    where
      by : (q : Option RouterConf) → slice_get confs place ≡ q → packet_for q octets ≡ Some p → packet_for (slice_get nexts place) octets ≡ Some p
      by None e h = absurd (none-some p h)
      by (Some q) e h =
          let n = kept_at confs a r next at kept place q e in
          subst (λ (z : Option RouterConf). packet_for z octets ≡ Some p) (sym n.there) (carried_kept q n.router n.meanings p (frame_at octets) h)

  packet_stays : (to : ℕ) (octets : List ℕ) (p : Packet) → packet_in confs to octets ≡ Some p → packet_in nexts to octets ≡ Some p
  packet_stays to octets p h = ap (λ (o : Option ℕ). packet_for (router_at nexts o) octets) (place_stays to (frame_at octets)) ∙ read_kept octets p (reader_place confs to octets) h

  -- a copy that has BFR-ids was parsed
  copy_stays : (note : Note) (octets : List ℕ) → ((copy_in confs note octets).ids ≡ [] → ⊥) → copy_in nexts note octets ≡ copy_in confs note octets
  copy_stays note octets some = by (packet_in confs note.to octets) refl some
    where
      by : (o : Option Packet) → packet_in confs note.to octets ≡ o → ((copy_read note.number (outer_in octets) o).ids ≡ [] → ⊥) → copy_in nexts note octets ≡ copy_read note.number (outer_in octets) o
      by None e some = absurd (some refl)
      by (Some p) e some = ap (copy_read note.number (outer_in octets)) (packet_stays note.to octets p e)

  item_stays : (injections b : ℕ) (note : Option Note) (octets : List ℕ) → IsTrueItem confs injections b (item_in confs note octets) → item_in nexts note octets ≡ item_in confs note octets
  unfolding item_in
  item_stays injections b None octets t = ap (λ (l : Level). ControlItem (pdu_carried l (frame_at octets))) (level_stays confs a r next at (ap (λ (z : RouterConf). z.level) one))
  item_stays injections b (Some note) octets t = ap PacketItem (copy_stays note octets t.some)

-- ---- all frames in flight

-- each frame has the same item, by these configurations and by those
abbrev pub ItemsStay : List RouterConf → List RouterConf → List (List (List Flight)) → Type 0
ItemsStay nexts confs flights = (a link : ℕ) → AllByRecursion (λ f. item_seen nexts f ≡ item_seen confs f) (frames_at flights a link)

pub same_stay : (nexts confs : List RouterConf) (flights : List (List (List Flight))) → nexts ≡ confs → ItemsStay nexts confs flights
same_stay nexts confs flights e a link = each_from (λ f. item_seen nexts f ≡ item_seen confs f) (λ f. ap (λ (cs : List RouterConf). item_seen cs f) e) (frames_at flights a link)

pub later_stay : (n : NetworkState) → IsTruthful (world_of n) → (a : ℕ) (r next : RouterConf) → slice_get (confs_in n) a ≡ Some r → IsSound r → IsLater r next → ItemsStay (slice_set (confs_in n) a next) (confs_in n) n.flights
later_stay n t a r next at sound later b link =
    let confs = confs_in n in
    each_weaker (λ f. IsTrueItem confs n.injections (peer_place n.domain.routers b link) (item_seen confs f)) (λ f. item_seen (slice_set confs a next) f ≡ item_seen confs f)
    (λ f h. item_stays confs a r next at later.one (λ kind i m is. means_kept r next kind i m sound later is) n.injections (peer_place n.domain.routers b link) f.note f.octets h)
    (frames_at n.flights b link)
    (each_unmapped (IsTrueItem confs n.injections (peer_place n.domain.routers b link)) (item_seen confs) (frames_at n.flights b link)
    (subst (AllByRecursion (IsTrueItem confs n.injections (peer_place n.domain.routers b link))) (seen_at confs n.flights b link) (t.items b link)))

module _ (g h : Flight → Item) where
  queue_same : (q : List Flight) → AllByRecursion (λ f. g f ≡ h f) q → map g q ≡ map h q
  queue_same [] all = refl
  queue_same (f ∷ q) all = ap (λ (x : Item). x ∷ map g q) all.0 ∙ ap (λ (l : List Item). h f ∷ l) (queue_same q all.1)

  row_same : (row : List (List Flight)) → ((link : ℕ) → AllByRecursion (λ f. g f ≡ h f) (slice_index_or row link [])) → map (λ q. map g q) row ≡ map (λ q. map h q) row
  row_same [] all = refl
  row_same (q ∷ row) all = ap (λ (l : List Item). l ∷ map (λ q. map g q) row) (queue_same q (all 0)) ∙ ap (λ (l : List (List Item)). map h q ∷ l) (row_same row (λ link. all (suc link)))

  all_same : (flights : List (List (List Flight))) → ((a link : ℕ) → AllByRecursion (λ f. g f ≡ h f) (frames_at flights a link)) → map (λ row. map (λ q. map g q) row) flights ≡ map (λ row. map (λ q. map h q) row) flights
  all_same [] all = refl
  all_same (row ∷ rows) all =
      ap (λ (l : List (List Item)). l ∷ map (λ row. map (λ q. map g q) row) rows) (row_same row (all 0)) ∙ ap (λ (l : List (List (List Item))). map (λ q. map h q) row ∷ l) (all_same rows (λ a. all (suc a)))

pub seen_stays : (nexts confs : List RouterConf) (flights : List (List (List Flight))) → ItemsStay nexts confs flights → items_seen nexts flights ≡ items_seen confs flights
seen_stays nexts confs flights stay = all_same (item_seen nexts) (item_seen confs) flights stay

pub frames_stay : (os nexts confs : List RouterConf) (flights : List (List (List Flight))) → ItemsStay nexts confs flights → AreFramesOver os confs flights → AreFramesOver os nexts flights
frames_stay os nexts confs flights stay are a link =
    each_weaker (λ f. (item_seen nexts f ≡ item_seen confs f) × IsFrameOver os confs a link f) (IsFrameOver os nexts a link) (λ f h. h.1 ∙ sym (ap (frame_over os a link) h.0)) (frames_at flights a link)
    (each_both (λ f. item_seen nexts f ≡ item_seen confs f) (IsFrameOver os confs a link) (frames_at flights a link) (stay a link) (are a link))

-- ---- the router that reads a packet

-- each prefix is at the same place in the domain as it started
prefixes_same : (os confs : List RouterConf) (n : ℕ) (p : Ipv4) → HaveBecome os confs → router_with n os p ≡ router_with n confs p
prefixes_same [] [] n p b = refl
prefixes_same [] (y ∷ ys) n p b = absurd b
prefixes_same (x ∷ xs) [] n p b = absurd b
prefixes_same (x ∷ xs) (y ∷ ys) n p b =
    ap (λ (z : Ipv4). if bytes_eq z.0 p.0 then Some n else router_with (n + 1) xs p) (sym (ap (λ (z : RouterConf). z.prefix) b.0.one))
    ∙ ap (λ (o : Option ℕ). if bytes_eq y.prefix.0 p.0 then Some n else o) (prefixes_same xs ys (n + 1) p b.1)

module _ (os confs : List RouterConf) (become : HaveBecome os confs) where
  tunnel_same : (t : Result TunnelPacket IpFault) → tunnel_end os t ≡ tunnel_end confs t
  tunnel_same (Ok t) = prefixes_same os confs 0 t.dst become
  tunnel_same (Err fault) = refl

  place_same : (to : ℕ) (c : Result Carried FrameFault) → place_carried os to c ≡ place_carried confs to c
  place_same to (Ok (IpPacket octets)) = tunnel_same (tunnel_at octets)
  place_same to (Ok (MplsPacket octets)) = refl
  place_same to (Ok (BierPacket octets)) = refl
  place_same to (Ok (IsisPdu octets)) = refl
  place_same to (Ok OtherFrame) = refl
  place_same to (Err fault) = refl

  noted_same : (note : Option Note) (octets : List ℕ) → place_noted os note octets ≡ place_noted confs note octets
  noted_same None octets = refl
  noted_same (Some note) octets = place_same note.to (frame_at octets)

  -- the BFR-ids that the reader parses are those of the item
  pub reader_is : (f : Flight) (reader : Option RouterConf) → reader ≡ router_at confs (place_seen os f) → ids_read reader f ≡ ids_seen confs f
  reader_is f reader is =
      ap (λ (q : Option RouterConf). ids_read q f) (is ∙ ap (router_at confs) (noted_same f.note f.octets)) ∙ sym (ids_are confs f.note f.octets)
