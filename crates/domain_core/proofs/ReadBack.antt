-- The item of a frame is read off it again.
use Rattle.std.proofs.Common.{◌≡◌, ℕ, zero, suc, ◌<◌, ◌/◌, List, [], ◌∷◌, length, drop, slice_get, Option, Some, None, Result, Ok, refl, ap, ◌∙◌, arith}
use Rattle.byteorder.specs.Endian.{big_number}
use Rattle.wire_base.specs.declared.addresses.Mac.{Mac}
use Rattle.wire_base.specs.declared.cause.Cause.{Cause}
use Rattle.wire_base.specs.declared.conf.End.{End}
use Rattle.wire_base.specs.declared.conf.Kind.{Kind}
use Rattle.wire_base.specs.declared.conf.Kind.TheVariants.{Mpls, Configured}
use Rattle.wire_base.specs.declared.conf.Level.{Level}
use Rattle.wire_base.specs.declared.conf.RouterConf.{RouterConf}
use Rattle.wire_base.specs.declared.faults.FrameFault.{FrameFault}
use Rattle.wire_base.specs.declared.faults.PduFault.{PduFault}
use Rattle.wire_base.specs.model.BierHeader.{header_length}
use Rattle.wire_base.specs.model.Configuration.{DomainConf, IsConsistent}
use Rattle.wire_base.specs.model.Ethernet.{Carried, frame_at}
use Rattle.wire_base.specs.model.Item.{ControlItem, PacketItem, DataItem, Outer, outer_target, packet_frame, ingress_header, item_header, item_packet, item_tunnel, frame_of}
use Rattle.wire_base.specs.model.OnFrame.{Packet}
use Rattle.wire_base.specs.model.Pdu.{Pdu, pdu, pdu_at}
use Rattle.wire_base.specs.model.Place.{means}
use Rattle.laws_item.specs.Fits.{IsSendable, ItemFits, OuterFits}
use Rattle.laws_item.proofs.ControlFrames.{isis_carries, sendable_reads, sendable_short}
use Rattle.laws_item.proofs.PacketFrames.{ids_again, item_header_reads, payload_after, head_reads, carried_by, copy_carries, tunnel_back}
use Rattle.bier_forward.specs.Packets.{packet_at}
use Rattle.domain_model.specs.Moves.{packet_of}
use Rattle.domain_model.specs.Truth.{IsAmong, MeansAt, router_at}
use Rattle.domain_model.proofs.DomainLaws.{alike}
use Rattle.frames_in_flight.specs.Read.{pdu_or_hello, pdu_carried, level_at, level_of, packet_or_none, packet_read, tunnel_carried, packet_carried, packet_for, tunnel_end, place_carried, reader_place, packet_in, outer_or_none, outer_carried, outer_in, copy_read, copy_in, item_in}

-- ---- PDUs

pub got_some : {X : Type 0} (xs : List X) (i : ℕ) → i < length xs → (x : X) × (slice_get xs i ≡ Some x)
got_some [] i h = absurd (omega (arith, h))
got_some (x ∷ xs) zero h = (x, refl)
got_some (x ∷ xs) (suc i) h = got_some xs i (omega (arith, h))

-- all routers of a domain are of one level
level_is : (d : DomainConf) → IsConsistent d → (r : RouterConf) → IsAmong d.routers r → level_of d.routers ≡ r.level
level_is d valid r among =
    let some = valid.some in
    let first = got_some d.routers 0 (omega (arith, some)) in
    ap level_at first.1 ∙ (alike d valid r first.0 among (record { place = 0; there = first.1 })).level

pub pdu_back : (d : DomainConf) → IsConsistent d → (r : RouterConf) → IsAmong d.routers r → (e : End) (p : Pdu) → IsSendable p → length e.own_mac.0 ≡ 6 → item_in d.routers None (frame_of r.level e (ControlItem p)) ≡ ControlItem p
unfolding item_in frame_of
pdu_back d valid r among e p is six =
    ap (λ (c : Result Carried FrameFault). ControlItem (pdu_carried (level_of d.routers) c)) (isis_carries e.own_mac (pdu r.level p) six (sendable_short r.level p is))
    ∙ ap (λ (l : Level). ControlItem (pdu_or_hello (pdu_at l (pdu r.level p)))) (level_is d valid r among)
    ∙ ap (λ (o : Result Pdu PduFault). ControlItem (pdu_or_hello o)) (sendable_reads r.level p is)

-- ---- packets

same_packet : (x : DataItem) (rest : List ℕ) → rest ≡ x.payload → ◌≡◌ {A = Result Packet Cause} (Ok (record { triple = x.triple; kind = x.kind; header = item_header x; payload = rest })) (Ok (packet_of x))
same_packet x rest e = ap (λ (octets : List ℕ). Ok (record { triple = x.triple; kind = x.kind; header = item_header x; payload = octets })) e

-- a router where the BIFT-id means the triple reads the packet
packet_is : (q : RouterConf) (x : DataItem) → ItemFits x → means q x.kind x.bift ≡ Some x.triple → packet_at q x.kind (item_packet x) ≡ Ok (packet_of x)
unfolding packet_at
packet_is q x fits means_so =
    let head = head_reads x fits in
    let found : means q x.kind (big_number 4 (item_packet x) / 4096) ≡ Some x.triple = ap (means q x.kind) head.bift ∙ means_so in
    rw (head.long, head.last, found, item_header_reads x.kind x fits) (same_packet x (drop (header_length x.triple.bsl) (item_packet x)) (payload_after x))

direct_inside : (q : RouterConf) (kind : Kind) (octets : List ℕ) → packet_carried q (Ok (carried_by kind octets)) ≡ packet_read q kind octets
direct_inside q Mpls octets = refl
direct_inside q Configured octets = refl

direct_place : (confs : List RouterConf) (b : ℕ) (kind : Kind) (octets : List ℕ) → place_carried confs b (Ok (carried_by kind octets)) ≡ Some b
direct_place confs b Mpls octets = refl
direct_place confs b Configured octets = refl

direct_outer : (kind : Kind) (octets : List ℕ) → outer_carried (Ok (carried_by kind octets)) ≡ None
direct_outer Mpls octets = refl
direct_outer Configured octets = refl

module _ (confs : List RouterConf) (b : ℕ) (peer own : Mac) (x : DataItem) (fits : ItemFits x) (six-peer : length peer.0 ≡ 6) (six-own : length own.0 ≡ 6) where
  -- the router that the copy is for
  place_back : (o : Option Outer) → OuterFits x o → reader_place confs b (packet_frame peer own x o) ≡ outer_target confs b o
  place_back None room = ap (place_carried confs b) (copy_carries peer own x None six-peer six-own) ∙ direct_place confs b x.kind (item_packet x)
  place_back (Some o) room = ap (place_carried confs b) (copy_carries peer own x (Some o) six-peer six-own) ∙ ap (tunnel_end confs) (tunnel_back (item_tunnel x o) room)

  -- it reads the packet
  carried_back : (q : RouterConf) (o : Option Outer) → OuterFits x o → means q x.kind x.bift ≡ Some x.triple → packet_carried q (frame_at (packet_frame peer own x o)) ≡ Some (packet_of x)
  carried_back q None room h = ap (packet_carried q) (copy_carries peer own x None six-peer six-own) ∙ direct_inside q x.kind (item_packet x) ∙ ap packet_or_none (packet_is q x fits h)
  carried_back q (Some o) room h =
      ap (packet_carried q) (copy_carries peer own x (Some o) six-peer six-own) ∙ ap (tunnel_carried q) (tunnel_back (item_tunnel x o) room) ∙ ap packet_or_none (packet_is q x fits h)

  read_there : (q : Option RouterConf) (o : Option Outer) → OuterFits x o → MeansAt q x → packet_for q (packet_frame peer own x o) ≡ Some (packet_of x)
  read_there None o room h = absurd h
  read_there (Some q) o room h = carried_back q o room h

  copy_inside : (o : Option Outer) → OuterFits x o → MeansAt (router_at confs (outer_target confs b o)) x → packet_in confs b (packet_frame peer own x o) ≡ Some (packet_of x)
  copy_inside o room h =
      ap (λ (p : Option ℕ). packet_for (router_at confs p) (packet_frame peer own x o)) (place_back o room) ∙ read_there (router_at confs (outer_target confs b o)) o room h

  outer_back : (o : Option Outer) → OuterFits x o → outer_in (packet_frame peer own x o) ≡ o
  outer_back None room = ap outer_carried (copy_carries peer own x None six-peer six-own) ∙ direct_outer x.kind (item_packet x)
  outer_back (Some o) room = ap outer_carried (copy_carries peer own x (Some o) six-peer six-own) ∙ ap outer_or_none (tunnel_back (item_tunnel x o) room)

  same_copy : copy_read x.number x.outer (Some (packet_of x)) ≡ x
  unfolding ingress_header
  same_copy = ap (λ (ids : List ℕ). record x { ids = ids }) (ids_again x fits)

  pub copy_back : OuterFits x x.outer → MeansAt (router_at confs (outer_target confs b x.outer)) x → copy_in confs (record { number = x.number; to = b }) (packet_frame peer own x x.outer) ≡ x
  copy_back room h =
      ap (λ (o : Option Outer). copy_read x.number o (packet_in confs b (packet_frame peer own x x.outer))) (outer_back x.outer room)
      ∙ ap (copy_read x.number x.outer) (copy_inside x.outer room h)
      ∙ same_copy

pub packet_back : (confs : List RouterConf) (b : ℕ) (level : Level) (e : End) (x : DataItem) → ItemFits x → OuterFits x x.outer → MeansAt (router_at confs (outer_target confs b x.outer)) x → length e.peer_mac.0 ≡ 6 → length e.own_mac.0 ≡ 6
    → item_in confs (Some (record { number = x.number; to = b })) (frame_of level e (PacketItem x)) ≡ PacketItem x
unfolding item_in frame_of
packet_back confs b level e x fits room h six-peer six-own = ap PacketItem (copy_back confs b e.peer_mac e.own_mac x fits six-peer six-own room h)
