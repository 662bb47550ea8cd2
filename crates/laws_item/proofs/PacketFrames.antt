-- Frames of packets are read again.
use Rattle.std.proofs.Common.{◌≡◌, ℕ, ◌+◌, ◌*◌, ◌/◌, ◌%◌, ◌<◌, ◌≤◌, true, false, ltb, List, [], ◌∷◌, length, map, get_or, drop, Option, Some, None, Result, Ok, refl, sym, ap, subst, ◌∙◌, arith}
use Rattle.std.proofs.lemmas.Bool.{le-ltb, ne_eqb}
use Rattle.std.proofs.lemmas.List.{length-append, append-nil, drop_at}
use Rattle.byteorder.specs.Endian.{big_number}
use Rattle.byteorder.specs.Numbers.{big_number-reads_back}
use Rattle.wire_base.specs.declared.addresses.Mac.{Mac}
use Rattle.wire_base.specs.declared.bsl.Bsl.{Bsl}
use Rattle.wire_base.specs.declared.bsl.Bsl.TheVariants.{B64, B128, B256, B512, B1024, B2048, B4096}
use Rattle.wire_base.specs.declared.conf.End.{End}
use Rattle.wire_base.specs.declared.conf.Kind.{Kind}
use Rattle.wire_base.specs.declared.conf.Kind.TheVariants.{Mpls, Configured}
use Rattle.wire_base.specs.declared.conf.Level.{Level}
use Rattle.wire_base.specs.declared.faults.IpFault.{IpFault}
use Rattle.wire_base.specs.declared.triple.Triple.{Triple}
use Rattle.wire_base.specs.model.BierHeader.{IsHeader, header_length, header_octets, first_word, header_at}
use Rattle.wire_base.specs.model.BitSet.{IsWithin}
use Rattle.wire_base.specs.model.Control.{Control}
use Rattle.wire_base.specs.model.Ethernet.{Carried, MplsPacket, BierPacket, IpPacket, ip_type, frame_at}
use Rattle.wire_base.specs.model.Item.{PacketItem, DataItem, Outer, packet_frame, bier_frame, positions_of, ingress_header, item_header, item_packet, item_tunnel, frame_of}
use Rattle.wire_base.specs.model.OnFrame.{ids_in, hop_in, is_not_last, on_packet, on_tunnel, tunnel_read, on_frame, carried_taken, unchanged}
use Rattle.wire_base.specs.model.Place.{bits_of, code_of, bit_position, id_at, means}
use Rattle.wire_base.specs.model.Tunnel.{TunnelPacket, TunnelFits, protocol_of, tunnel, tunnel_at, tunnel_on}
use Rattle.wire_base.proofs.HeaderLaws.{header_again, length-header_octets}
use Rattle.link_frame.proofs.Frames.{frame_again}
use Rattle.gre_ip.proofs.Tunnels.{tunnel_again, spelled_onward}
use Rattle.laws_item.specs.Fits.{ItemFits, OuterFits, copy_taken, packet_of}

-- ---- positions of the BFR-ids of a set

-- the place of an id of a set
pub placed : (bsl : Bsl) (si k : ℕ) → si * bits_of bsl < k → k ≤ si * bits_of bsl + bits_of bsl → si * bits_of bsl + bit_position (bits_of bsl) k ≡ k
placed B64 si k low high = omega arith
placed B128 si k low high = omega arith
placed B256 si k low high = omega arith
placed B512 si k low high = omega arith
placed B1024 si k low high = omega arith
placed B2048 si k low high = omega arith
placed B4096 si k low high = omega arith

-- positions of ascending ids ascend
positions_rise : (t : Triple) (low : ℕ) (ids : List ℕ) → IsWithin (t.si * bits_of t.bsl + low) (t.si * bits_of t.bsl + bits_of t.bsl) ids → IsWithin low (bits_of t.bsl) (positions_of t ids)
positions_rise t low [] is = tt
positions_rise t low (k ∷ ks) is =
    let p = bit_position (bits_of t.bsl) k in
    let at : t.si * bits_of t.bsl + p ≡ k = placed t.bsl t.si k (omega (arith, is.0)) is.1 in
    (omega (arith, at, is.0), omega (arith, at, is.1), positions_rise t p ks (subst (λ (n : ℕ). IsWithin n (t.si * bits_of t.bsl + bits_of t.bsl) ks) (sym at) is.2))

pub positions_within : (t : Triple) (ids : List ℕ) → IsWithin (t.si * bits_of t.bsl) (t.si * bits_of t.bsl + bits_of t.bsl) ids → IsWithin 0 (bits_of t.bsl) (positions_of t ids)
positions_within t ids is = positions_rise t 0 ids (subst (λ (n : ℕ). IsWithin n (t.si * bits_of t.bsl + bits_of t.bsl) ids) (let e : t.si * bits_of t.bsl ≡ t.si * bits_of t.bsl + 0 = omega arith in e) is)

-- and stand for those ids
pub ids_back : (t : Triple) (low : ℕ) (ids : List ℕ) → t.si * bits_of t.bsl ≤ low → IsWithin low (t.si * bits_of t.bsl + bits_of t.bsl) ids → map (id_at t) (positions_of t ids) ≡ ids
ids_back t low [] le is = refl
ids_back t low (k ∷ ks) le is =
    let at : t.si * bits_of t.bsl + bit_position (bits_of t.bsl) k ≡ k = placed t.bsl t.si k (omega (arith, is.0)) is.1 in
    ap (λ (n : ℕ). n ∷ map (id_at t) (positions_of t ks)) at ∙ ap (λ (ns : List ℕ). k ∷ ns) (ids_back t k ks (omega (arith, is.0)) is.2)

pub ids_again : (x : DataItem) → ItemFits x → ids_in (packet_of x) ≡ x.ids
unfolding ingress_header
ids_again x fits = ids_back x.triple (x.triple.si * bits_of x.triple.bsl) x.ids (omega arith) fits.ids

-- ---- the header of a copy

code_small : (bsl : Bsl) → code_of bsl < 16
code_small B64 = omega arith
code_small B128 = omega arith
code_small B256 = omega arith
code_small B512 = omega arith
code_small B1024 = omega arith
code_small B2048 = omega arith
code_small B4096 = omega arith

pub item_header_is : (x : DataItem) → ItemFits x → IsHeader (item_header x)
unfolding ingress_header
item_header_is x fits = record {
  fields = record {
    bift = fits.bift;
    tc = omega arith;
    ttl = fits.ttl;
    nibble = omega arith;
    bsl_code = code_small x.triple.bsl;
    entropy = fits.entropy;
    oam = omega arith;
    rsv = omega arith;
    dscp = omega arith;
    proto = omega arith;
    bfir = fits.bfir;
  };
  positions = positions_within x.triple x.ids fits.ids;
}

pub item_header_reads : (kind : Kind) (x : DataItem) → ItemFits x → header_at kind x.triple.bsl (item_packet x) ≡ Ok (item_header x)
unfolding ingress_header
item_header_reads kind x fits = header_again kind (item_header x) x.payload (item_header_is x fits) (λ e. refl)

-- what follows it
pub payload_after : (x : DataItem) → drop (header_length x.triple.bsl) (item_packet x) ≡ x.payload
unfolding ingress_header
payload_after x = drop_at (header_octets (item_header x)) x.payload (header_length x.triple.bsl) (length-header_octets (item_header x))

-- its first number
first_reads : (x : DataItem) → ItemFits x → (w : ℕ) → w ≡ big_number 4 (item_packet x) → w ≡ x.bift * 4096 + 256 + x.ttl
unfolding ingress_header
first_reads x fits w is =
    let bift = fits.bift in
    let ttl = fits.ttl in
    is ∙ big_number-reads_back 4 (first_word (item_header x)) (drop 4 (item_packet x)) (omega arith) ∙ (omega arith)

-- ---- the packet

not_last : (kind : Kind) (w : ℕ) → w / 256 % 2 ≡ 1 → is_not_last kind w ≡ false
not_last Mpls w odd = ne_eqb (w / 256 % 2) 0 (λ even. omega arith)
not_last Configured w odd = refl

-- what a router looks at before the header
pub record IsHead (x : DataItem) : Type 0 where
  pub long : ltb (length (item_packet x)) 4 ≡ false
  pub last : is_not_last x.kind (big_number 4 (item_packet x)) ≡ false
  pub bift : big_number 4 (item_packet x) / 4096 ≡ x.bift

pub head_reads : (x : DataItem) → ItemFits x → IsHead x
unfolding ingress_header
head_reads x fits =
    let w = big_number 4 (item_packet x) in
    let first : w ≡ x.bift * 4096 + 256 + x.ttl = first_reads x fits w refl in
    let ttl = fits.ttl in
    record {
      long = le-ltb _ _ (omega (arith, length-append (header_octets (item_header x)) x.payload, length-header_octets (item_header x)));
      last = not_last x.kind w (omega arith);
      bift = omega arith;
    }

same_payload : (c : Control) (x : DataItem) (rest : List ℕ) → rest ≡ x.payload
    → hop_in c (record { triple = x.triple; kind = x.kind; header = item_header x; payload = rest }) x.ttl ≡ hop_in c (packet_of x) x.ttl
same_payload c x rest e = ap (λ (octets : List ℕ). hop_in c (record { triple = x.triple; kind = x.kind; header = item_header x; payload = octets }) x.ttl) e

-- a packet whose BIFT-id means its triple at the router is hopped
pub packet_taken : (c : Control) (x : DataItem) → ItemFits x → means c.conf x.kind x.bift ≡ Some x.triple → on_packet c x.kind (item_packet x) ≡ hop_in c (packet_of x) x.ttl
unfolding on_packet ingress_header
packet_taken c x fits means_so =
    let head = head_reads x fits in
    let found : means c.conf x.kind (big_number 4 (item_packet x) / 4096) ≡ Some x.triple = ap (means c.conf x.kind) head.bift ∙ means_so in
    rw (head.long, head.last, found, item_header_reads x.kind x fits) (same_payload c x (drop (header_length x.triple.bsl) (item_packet x)) (payload_after x))

-- ---- the frame

abbrev pub carried_by : Kind → List ℕ → Carried
carried_by Mpls octets = MplsPacket octets
carried_by Configured octets = BierPacket octets

pub bier_carries : (peer own : Mac) (kind : Kind) (octets : List ℕ) → length peer.0 ≡ 6 → length own.0 ≡ 6 → frame_at (bier_frame peer own kind octets) ≡ Ok (carried_by kind octets)
bier_carries peer own Mpls octets six-peer six-own = frame_again peer.0 own.0 octets (protocol_of Mpls) (MplsPacket octets) six-peer six-own (omega arith) (refl, refl)
bier_carries peer own Configured octets six-peer six-own = frame_again peer.0 own.0 octets (protocol_of Configured) (BierPacket octets) six-peer six-own (omega arith) (refl, refl)

-- what a frame carries of a copy: its packet, or the tunnel that it is in
abbrev pub carried_in : DataItem → Option Outer → Carried
carried_in x None = carried_by x.kind (item_packet x)
carried_in x (Some o) = IpPacket (tunnel (item_tunnel x o))

pub copy_carries : (peer own : Mac) (x : DataItem) (o : Option Outer) → length peer.0 ≡ 6 → length own.0 ≡ 6 → frame_at (packet_frame peer own x o) ≡ Ok (carried_in x o)
copy_carries peer own x None six-peer six-own = bier_carries peer own x.kind (item_packet x) six-peer six-own
copy_carries peer own x (Some o) six-peer six-own = frame_again peer.0 own.0 (tunnel (item_tunnel x o)) ip_type (IpPacket (tunnel (item_tunnel x o))) six-peer six-own (omega arith) (refl, refl)

pub tunnel_back : (t : TunnelPacket) → TunnelFits t → tunnel_at (tunnel t) ≡ Ok t
tunnel_back t fits = ap tunnel_at (sym (append-nil (tunnel t))) ∙ tunnel_again t [] fits

pub onward : (x : DataItem) (o : Outer) (ttl : ℕ) → OuterFits x (Some o) → tunnel_on (tunnel (item_tunnel x o)) ttl ≡ tunnel (item_tunnel x (record o { ttl = ttl }))
onward x o ttl fits = ap (λ (octets : List ℕ). tunnel_on octets ttl) (sym (append-nil (tunnel (item_tunnel x o)))) ∙ spelled_onward (item_tunnel x o) [] ttl fits

carried_so : (c : Control) (link : ℕ) (kind : Kind) (octets : List ℕ) → carried_taken c link (carried_by kind octets) ≡ unchanged c (on_packet c kind octets)
carried_so c link Mpls octets = refl
carried_so c link Configured octets = refl

copy_so : (c : Control) (link : ℕ) (x : DataItem) (o : Option Outer) → OuterFits x o → carried_taken c link (carried_in x o) ≡ unchanged c (copy_taken c x o)
unfolding on_tunnel
copy_so c link x None fits = carried_so c link x.kind (item_packet x)
copy_so c link x (Some o) fits = ap (λ (r : Result TunnelPacket IpFault). unchanged c (tunnel_read c (tunnel (item_tunnel x o)) r)) (tunnel_back (item_tunnel x o) fits)

-- a router that is up takes the packet that a frame carries, or the tunnel
pub copy_arrives : (c : Control) (link : ℕ) (level : Level) (e : End) (x : DataItem) → OuterFits x x.outer → length e.peer_mac.0 ≡ 6 → length e.own_mac.0 ≡ 6
    → get_or c.flood.up link false ≡ true → on_frame c link (frame_of level e (PacketItem x)) ≡ unchanged c (copy_taken c x x.outer)
unfolding on_frame frame_of
copy_arrives c link level e x fits six-peer six-own up = rw (up, copy_carries e.peer_mac e.own_mac x x.outer six-peer six-own) (copy_so c link x x.outer fits)
