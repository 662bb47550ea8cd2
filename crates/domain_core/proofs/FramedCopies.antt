-- Copies of packets are read off their frames again, and a router does on the frame of a copy, and where a payload enters,
-- what is made of the items.
use Rattle.std.proofs.Common.{◌≡◌, ℕ, ◌+◌, ◌≤◌, Bool, true, false, if◌then◌else◌, List, [], ◌++◌, length, slice_get, Option, Some, None, refl, sym, ap, subst, ◌∙◌, arith}
use Rattle.std.specs.Str.{bytes_eq}
use Rattle.std.proofs.lemmas.List.{length-append}
use Rattle.byteorder.specs.Endian.{big_bytes}
use Rattle.wire_base.specs.declared.limits.TheConstants.{MOST_FRAME, MOST_PAYLOAD}
use Rattle.wire_base.specs.declared.addresses.Ipv4.{Ipv4}
use Rattle.wire_base.specs.declared.bsl.Bsl.{Bsl}
use Rattle.wire_base.specs.declared.bsl.Bsl.TheVariants.{B64, B128, B256, B512, B1024, B2048, B4096}
use Rattle.wire_base.specs.declared.cause.Cause.TheVariants as cause
use Rattle.wire_base.specs.declared.conf.End.{End}
use Rattle.wire_base.specs.declared.conf.Level.{Level}
use Rattle.wire_base.specs.declared.conf.RouterConf.{RouterConf}
use Rattle.wire_base.specs.model.BierHeader.{header_length, header_octets}
use Rattle.wire_base.specs.model.Configuration.{DomainConf, IsConsistent}
use Rattle.wire_base.specs.model.Control.{Control}
use Rattle.wire_base.specs.model.Ethernet.{ethernet, ip_type}
use Rattle.wire_base.specs.model.Ingress.{IngressPacket, packets_for, edge_fault, entering, inject}
use Rattle.wire_base.specs.model.Item.{PacketItem, DataItem, Outer, router_with, outer_target, target_of, packet_frame, ingress_header, item_header, item_packet, item_tunnel, frame_of}
use Rattle.wire_base.specs.model.OnFrame.{Effects, Next, dropped, unchanged, node_place, hop_in, on_packet, in_transit, on_frame}
use Rattle.wire_base.specs.model.Place.{means}
use Rattle.wire_base.specs.model.Tunnel.{protocol_of, tunnel}
use Rattle.wire_base.specs.model.View.{control_view}
use Rattle.wire_base.proofs.HeaderLaws.{length-header_octets}
use Rattle.router_core.proofs.SizeLaws.{tunnel_length}
use Rattle.laws_item.specs.Fits as item_fits
use Rattle.laws_item.specs.Fits.{ItemFits, copy_taken}
use Rattle.laws_item.proofs.PacketFrames.{packet_taken, copy_arrives}
use Rattle.domain_model.specs.World.{is_up, peer_place, link_between}
use Rattle.domain_model.specs.Moves as moves
use Rattle.domain_model.specs.Moves.{Sending, Made, over_end, hop_made, passes_through, entering_item, inject_made}
use Rattle.domain_model.specs.Truth.{IsPrefixOf, OuterFits, MeansAt, router_at, IsTrueItem, IsTrueCopy, IsTrueControl, InjectFits}
use Rattle.frames_in_flight.specs.Framed.{frame_over, sent_of, item_sent, IsFramed, IsHopped}
use Rattle.frames_in_flight.specs.Read.{item_in}
use Rattle.domain_model.proofs.EachLaws.{each_weaker, each_both}
use Rattle.domain_model.proofs.DomainLaws.{bytes_is, sound_of}
use Rattle.domain_model.proofs.LinkLaws.{prefix_place, join_of, end_found, places_stay}
use Rattle.domain_model.proofs.CopyTruth.{SamePlaces, IsTrueSending, IsTrueMade, taken_true}
use Rattle.domain_model.proofs.EnterTruth.{IsEntry, allowed_of, packets_true, inject_true}
use Rattle.domain_model.proofs.WorldTruth.{AreOf}
use Rattle.domain_core.proofs.FramedBack.{IsAt, at_self, at_now, over_at, end_within, IsReadBack, framed_by}
use Rattle.domain_core.proofs.FramedHop.{IsCopyOver, IsSame, joined_same, hop_same, transit_same}
use Rattle.domain_core.proofs.FramedPdus.{end_of_router}
use Rattle.domain_core.proofs.ReadBack.{packet_back}

zero_plus : (n : ℕ) → 0 + n ≡ n
zero_plus n = omega arith

-- ---- the frame of a copy

fits_of : (confs : List RouterConf) (n b : ℕ) (x : DataItem) → IsTrueCopy confs n b x → ItemFits x
fits_of confs n b x t = record { bift = t.bift; ttl = t.ttl; entropy = t.entropy; bfir = t.bfir; ids = t.ids }

-- the octets of a packet and of a tunnel
packet_length : (x : DataItem) → length (item_packet x) ≡ header_length x.triple.bsl + length x.payload
unfolding ingress_header
packet_length x = omega (arith, length-append (header_octets (item_header x)) x.payload, length-header_octets (item_header x))

abbrev carried_octets : DataItem → Option Outer → List ℕ
carried_octets x None = item_packet x
carried_octets x (Some o) = tunnel (item_tunnel x o)

-- the length of a copy's frame
eth_length : (e : End) (number : ℕ) (octets : List ℕ) → length e.peer_mac.0 ≡ 6 → length e.own_mac.0 ≡ 6 → length (ethernet e.peer_mac.0 e.own_mac.0 number ++ octets) ≡ 14 + length octets
eth_length e number octets six-peer six-own =
    omega (
      arith,
      length-append (ethernet e.peer_mac.0 e.own_mac.0 number) octets,
      length-append e.peer_mac.0 (e.own_mac.0 ++ big_bytes 2 number),
      length-append e.own_mac.0 (big_bytes 2 number),
      six-peer,
      six-own,
    )

frame_length : (level : Level) (e : End) (x : DataItem) (o : Option Outer) → length e.peer_mac.0 ≡ 6 → length e.own_mac.0 ≡ 6 → length (packet_frame e.peer_mac e.own_mac x o) ≡ 14 + length (carried_octets x o)
frame_length level e x None six-peer six-own = eth_length e (protocol_of x.kind) (item_packet x) six-peer six-own
frame_length level e x (Some o) six-peer six-own = eth_length e ip_type (tunnel (item_tunnel x o)) six-peer six-own

header_short : (bsl : Bsl) → header_length bsl ≤ 524
header_short B64 = omega arith
header_short B128 = omega arith
header_short B256 = omega arith
header_short B512 = omega arith
header_short B1024 = omega arith
header_short B2048 = omega arith
header_short B4096 = omega arith

same_prefix : (p q : Ipv4) → bytes_eq p.0 q.0 ≡ true → p ≡ q
same_prefix p q h = ap (λ (octets : List ℕ). record { 0 = octets }) (bytes_is p.0 q.0 h)

-- The domain as it started, `old`, has the interfaces; the configurations of now are `confs`.
module _ (old : DomainConf) (start : IsConsistent old) (confs : List RouterConf) (of : AreOf old confs) where
  abbrev d : DomainConf
  d = record old { routers = confs }

  abbrev valid : IsConsistent d
  valid = of.valid

  places : SamePlaces old.routers confs
  places a link = places_stay old.routers confs a link of.become

  -- a tunnel among routers has room for the copy
  prefix_long : (p : Ipv4) → IsPrefixOf confs p → length p.0 ≡ 4
  prefix_long p k = ap (λ (i : Ipv4). length i.0) k.is ∙ (sound_of d valid k.router k.among).prefix.octets_are.long

  outer_fits : (x : DataItem) (o : Option Outer) → OuterFits confs o → length x.payload ≤ MOST_PAYLOAD → item_fits.OuterFits x o
  outer_fits x None k short = tt
  outer_fits x (Some o) k short =
      let h = header_short x.triple.bsl in
      let ttl = k.ttl in
      record { src = prefix_long o.src k.src; dst = prefix_long o.dst k.dst; ttl = omega (arith, ttl); size = omega (arith, packet_length x, h, short) }

  carried_short : (x : DataItem) (o : Option Outer) → OuterFits confs o → length x.payload ≤ MOST_PAYLOAD → length (carried_octets x o) ≤ 548 + MOST_PAYLOAD
  carried_short x None k short = let h = header_short x.triple.bsl in omega (arith, packet_length x, h, short)
  carried_short x (Some o) k short =
      let h = header_short x.triple.bsl in
      omega (arith, tunnel_length (item_tunnel x o), prefix_long o.src k.src, prefix_long o.dst k.dst, packet_length x, h, short)

  pub copy_short : (n b a : ℕ) (r : RouterConf) (link : ℕ) (e : End) (x : DataItem) → slice_get old.routers a ≡ Some r → slice_get r.ends link ≡ Some e → IsTrueCopy confs n b x → length (frame_over old.routers a link (PacketItem x)) ≤ MOST_FRAME
  unfolding frame_of
  copy_short n b a r link e x at there t =
      let end_fits = end_of_router old start r link e (record { place = a; there = at }) there in
      let l = ap (λ (octets : List ℕ). length octets) (over_at old.routers a r link e (PacketItem x) (at_self old.routers a r at) there) in
      let m = frame_length r.level e x x.outer end_fits.peer_mac.octets_are.long end_fits.own_mac.octets_are.long in
      let k = carried_short x x.outer t.outer t.payload in
      omega (arith, l, m, k)

  -- ---- copies that are sent

  module _ (n a : ℕ) (r : RouterConf) (at : slice_get confs a ≡ Some r) where
    here : IsAt old.routers a r
    here = at_now old.routers confs a r of.become at

    copy_again : (link : ℕ) (e : End) (x : DataItem) → slice_get r.ends link ≡ Some e → IsTrueCopy confs n (peer_place old.routers a link) x → IsReadBack old.routers confs a (Some x.number) (over_end old.routers a link (PacketItem x))
    copy_again link e x there t =
        let end_fits = end_of_router d valid r link e (record { place = a; there = at }) there in
        let b = peer_place old.routers a link in
        let item : item_sent old.routers confs a (Some x.number) (sent_of old.routers (over_end old.routers a link (PacketItem x))) ≡ PacketItem x =
        ap (item_in confs (Some (record { number = x.number; to = b }))) (over_at old.routers a r link e (PacketItem x) here there)
        ∙ packet_back confs b r.level e x (fits_of confs n b x t) (outer_fits x x.outer t.outer t.payload) t.means end_fits.peer_mac.octets_are.long end_fits.own_mac.octets_are.long in
        record {
          frame = record { within = end_within old.routers a r link e here there; is = ap (frame_over old.routers a link) (sym item) };
          is = ap (over_end old.routers a link) item;
        }

    copy_read : (number : ℕ) (s : Sending) → IsCopyOver old.routers a r number s → IsTrueSending old.routers confs n s → IsReadBack old.routers confs a (Some number) s
    copy_read number s k t =
        let true_copy = subst (λ (z : Sending). IsTrueItem confs n (peer_place old.routers z.from z.link) z.item) k.is t.item in
        subst (IsReadBack old.routers confs a (Some number)) (sym k.is)
        (subst (λ (i : ℕ). IsReadBack old.routers confs a (Some i) (over_end old.routers a s.link (PacketItem k.copy))) k.number_is (copy_again s.link k.end k.copy k.there true_copy))

    same_framed : (number : ℕ) (ids : List ℕ) (e : Effects) (m : Made) → IsSame old.routers a r number ids e m → IsTrueMade old.routers confs n m → IsFramed old.routers confs a (Some number) ids e m
    same_framed number ids e m same t =
        framed_by old.routers confs a (Some number) ids e m same.sent
        (each_weaker (λ s. IsCopyOver old.routers a r number s × IsTrueSending old.routers confs n s) (IsReadBack old.routers confs a (Some number)) (λ s h. copy_read number s h.0 h.1) m.sent
        (each_both (IsCopyOver old.routers a r number) (IsTrueSending old.routers confs n) m.sent same.copies t.sent))
        same.got same.drops

  -- ---- a copy that arrives

  module _ (b : ℕ) (c : Control) (at : slice_get confs b ≡ Some c.conf) (t : IsTrueControl confs c) where
    abbrev Taken : DataItem → Effects → Made → Type 0
    Taken x e m = IsSame old.routers b c.conf x.number x.ids e m

    -- where it is for this router it is hopped
    hopped_same : (n : ℕ) (x : DataItem) → IsTrueCopy confs n b x → router_at confs (target_of confs b x) ≡ Some c.conf → Taken x (on_packet c x.kind (item_packet x)) (hop_made old.routers b c x x.ttl)
    hopped_same n x k for_it =
        let g = control_view c in
        let means_so : means c.conf x.kind x.bift ≡ Some x.triple = subst (λ (q : Option RouterConf). MeansAt q x) for_it k.means in
        subst (λ (e : Effects). Taken x e (hop_made old.routers b c x x.ttl)) (sym (packet_taken c x (fits_of confs n b x k) means_so))
        (hop_same old.routers b c.conf (here 0 b c.conf at) g (node_place g c.conf.system) x x.ids x.ttl k.ids)

    -- the router with the prefix is this one
    this_prefix : (o : Outer) → bytes_eq o.dst.0 c.conf.prefix.0 ≡ true → router_at confs (router_with 0 confs o.dst) ≡ Some c.conf
    this_prefix o is =
        ap (λ (p : Ipv4). router_at confs (router_with 0 confs p)) (same_prefix o.dst c.conf.prefix is)
        ∙ ap (router_at confs) (prefix_place 0 confs valid.prefixes b c.conf at ∙ ap (λ (m : ℕ). Some m) (zero_plus b)) ∙ at

    taken_same : (n : ℕ) (x : DataItem) → IsTrueCopy confs n b x → (o : Option Outer) → x.outer ≡ o → Taken x (copy_taken c x o) (moves.packet_taken old.routers b c x o)
    taken_same n x k None is = hopped_same n x k (ap (λ (z : Option Outer). router_at confs (outer_target confs b z)) is ∙ at)
    taken_same n x k (Some o) is = by (bytes_eq o.dst.0 c.conf.prefix.0) refl
      where
        whole : List ℕ
        whole = tunnel (item_tunnel x o)

        by : (ends : Bool) → bytes_eq o.dst.0 c.conf.prefix.0 ≡ ends → Taken x (if ends then on_packet c x.kind (item_packet x) else in_transit c whole (item_tunnel x o)) (if ends then hop_made old.routers b c x x.ttl else passes_through old.routers b c x o)
        by true h = hopped_same n x k (ap (λ (z : Option Outer). router_at confs (outer_target confs b z)) is ∙ this_prefix o h)
        by false h = transit_same old.routers b c (here 0 b c.conf at) x o (subst (λ (z : Option Outer). item_fits.OuterFits x z) is (outer_fits x x.outer k.outer k.payload))

    pub packet_framed : (n a link back : ℕ) (x : DataItem) → link_between old.routers a b ≡ Some link → IsTrueCopy confs n b x → is_up c back ≡ true
        → (next : Control) (e : Effects) → ◌≡◌ {A = Next} (record { control = next; effects = e }) (on_frame c back (frame_over old.routers a link (PacketItem x))) → IsHopped old.routers confs b c x next e
    packet_framed n a link back x joined true_copy up next e q =
        let j = join_of old.routers a b link joined in
        let end = end_found j.near.ends j.far.system link j.toward in
        let end_fits = end_of_router old start j.near link end.at (record { place = a; there = j.near_at }) end.there in
        let made = moves.packet_taken old.routers b c x x.outer in
        let all : ◌≡◌ {A = Next} (record { control = next; effects = e }) (unchanged c (copy_taken c x x.outer)) =
        q ∙ ap (on_frame c back) (over_at old.routers a j.near link end.at (PacketItem x) (at_self old.routers a j.near j.near_at) end.there)
        ∙ copy_arrives c back j.near.level end.at x (outer_fits x x.outer true_copy.outer true_copy.payload) end_fits.peer_mac.octets_are.long end_fits.own_mac.octets_are.long up in
        record {
          control = ap (λ (k : Next). k.control) all;
          framed = subst (λ (f : Effects). IsFramed old.routers confs b (Some x.number) x.ids f made) (sym (ap (λ (k : Next). k.effects) all))
              (same_framed n b c.conf at x.number x.ids (copy_taken c x x.outer) made (taken_same n x true_copy x.outer refl) (taken_true old.routers d valid places n b c at t x true_copy));
        }

    -- ---- a payload that enters

    pub inject_framed : (n sd : ℕ) (bsl : Bsl) (ks : List ℕ) (ttl entropy : ℕ) (payload : List ℕ) → InjectFits (length old.routers) b sd ks ttl entropy payload → edge_fault c.conf sd bsl ks ≡ None
        → (e : Effects) → e ≡ inject c sd bsl ks ttl entropy payload
        → IsFramed old.routers confs b (Some (n + 1)) [] e (inject_made old.routers b c (n + 1) sd bsl ks ttl entropy payload)
    unfolding inject inject_made
    inject_framed n sd bsl ks ttl entropy payload fits ok e q =
        let packets = packets_for sd bsl ks in
        let entries = packets_true c.conf sd bsl ks (allowed_of c.conf sd bsl ks ok) fits.bfr_ids in
        let made = inject_made old.routers b c (n + 1) sd bsl ks ttl entropy payload in
        subst (λ (f : Effects). IsFramed old.routers confs b (Some (n + 1)) [] f made) (sym q)
        (same_framed (n + 1) b c.conf at (n + 1) [] (inject c sd bsl ks ttl entropy payload) made
        (joined_same old.routers b c.conf (n + 1) [] (λ (p : IngressPacket). hop_in c (entering c.conf ttl entropy payload p) (ttl + 1)) (λ (p : IngressPacket). hop_made old.routers b c (entering_item c.conf (n + 1) ttl entropy payload p) (ttl + 1)) packets
        (each_weaker (IsEntry sd bsl) (λ p. IsSame old.routers b c.conf (n + 1) [] (hop_in c (entering c.conf ttl entropy payload p) (ttl + 1)) (hop_made old.routers b c (entering_item c.conf (n + 1) ttl entropy payload p) (ttl + 1))) entered packets entries))
        (inject_true old.routers d valid places n b c at t sd bsl ks ttl entropy payload fits ok))
      where
        entered : (p : IngressPacket) → IsEntry sd bsl p → IsSame old.routers b c.conf (n + 1) [] (hop_in c (entering c.conf ttl entropy payload p) (ttl + 1)) (hop_made old.routers b c (entering_item c.conf (n + 1) ttl entropy payload p) (ttl + 1))
        entered p k =
            let g = control_view c in
            hop_same old.routers b c.conf (here 0 b c.conf at) g (node_place g c.conf.system) (entering_item c.conf (n + 1) ttl entropy payload p) [] (ttl + 1) k.ids.of_set

-- ---- an end that is down

pub down_framed : (c : Control) (back : ℕ) (octets : List ℕ) → is_up c back ≡ false → on_frame c back octets ≡ unchanged c (dropped cause.Link)
unfolding on_frame
down_framed c back octets down = rw down refl
