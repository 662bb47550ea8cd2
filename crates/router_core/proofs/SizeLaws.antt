-- How long the frames are that a router sends when it receives a frame, and where a payload enters.
use Rattle.std.proofs.Common.{◌≡◌, ℕ, ◌+◌, ◌-◌, ◌/◌, ◌%◌, ◌≤◌, ◌==◌, ◌&&◌, ◌||◌, not, nat_lt, nat_le, Bool, true, false, List, [], ◌∷◌, ◌++◌, length, map, take, drop, slice_get, slice_index, slice_index_or, option_and_then, Option, Some, None, IfSome, IfOk, Result, Ok, Err, if◌then◌else◌, refl, sym, ap, subst, arith}
use Rattle.std.proofs.lemmas.List.{length-append, length-take, length-drop}
use Rattle.std.specs.List.{AllByRecursion}
use Rattle.std.specs.Str.{bytes_eq}
use Rattle.byteorder.specs.Endian.{big_bytes, big_number}
use Rattle.wire_base.specs.declared.limits.TheConstants.{MOST_FRAME, MOST_PAYLOAD}
use Rattle.wire_base.specs.declared.addresses.SystemId.{SystemId}
use Rattle.wire_base.specs.declared.bsl.Bsl.{Bsl}
use Rattle.wire_base.specs.declared.bsl.Bsl.TheVariants.{B64, B128, B256, B512, B1024, B2048, B4096}
use Rattle.wire_base.specs.declared.cause.Cause.TheVariants as cause
use Rattle.wire_base.specs.declared.conf.End.{End}
use Rattle.wire_base.specs.declared.conf.Kind.{Kind}
use Rattle.wire_base.specs.declared.conf.Kind.TheVariants.{Mpls, Configured}
use Rattle.wire_base.specs.declared.conf.Level.{Level}
use Rattle.wire_base.specs.declared.conf.RouterConf.{RouterConf}
use Rattle.wire_base.specs.declared.entry.Age.{Age}
use Rattle.wire_base.specs.declared.entry.Age.TheVariants.{Unknown, Newer, Equal, Older, Confused}
use Rattle.wire_base.specs.declared.entry.Entry.{Entry}
use Rattle.wire_base.specs.declared.faults.FrameFault.{FrameFault}
use Rattle.wire_base.specs.declared.faults.HeadFault.{HeadFault}
use Rattle.wire_base.specs.declared.faults.HeadFault.TheVariants as head_fault
use Rattle.wire_base.specs.declared.faults.IpFault.{IpFault}
use Rattle.wire_base.specs.declared.faults.PduFault.{PduFault}
use Rattle.wire_base.specs.declared.faults.PduFault.TheVariants as pdu_fault
use Rattle.wire_base.specs.declared.flood_out.FloodOut.{FloodOut}
use Rattle.wire_base.specs.declared.flood_out.FloodOut.TheVariants as out
use Rattle.wire_base.specs.declared.triple.Summary.{Summary}
use Rattle.wire_base.specs.declared.triple.Triple.{Triple}
use Rattle.wire_base.specs.declared.view.ViewNode.{ViewNode}
use Rattle.wire_base.specs.model.BierHeader.{BierHeader, header_at, header_length, header_octets, word_of, has_wrong_nibble, version_of}
use Rattle.wire_base.specs.model.Checksum.{is_right}
use Rattle.wire_base.specs.model.Choice.{is_direct}
use Rattle.wire_base.specs.model.Configuration.{IsEnd, IsSound}
use Rattle.wire_base.specs.model.Control.{Control, Flood, is_full, is_unknown, entry_in, age_of, purge}
use Rattle.wire_base.specs.model.Ethernet.{Carried, IsisPdu, MplsPacket, BierPacket, IpPacket, OtherFrame, ethernet, ip_type, mpls_type, bier_type, most_length, typed, begins_isis, counted_out, frame_at}
use Rattle.wire_base.specs.model.Fields.{octet_at, octets_at, number_at}
use Rattle.wire_base.specs.model.Flooding.{LspAnswer, only_says, puts_marked, stores, lsp_aged, is_own_ahead, is_unheld_own, on_lsp, kept, psnp_of, answer_lsp, on_pdu}
use Rattle.wire_base.specs.model.Hop.{Outcome, Local, Copy, Expired, NoRow, hop}
use Rattle.wire_base.specs.model.Ingress.{entering, inject, packets_for}
use Rattle.wire_base.specs.model.Item.{bier_frame, ip_frame, all_routers, ingress_header, positions_of}
use Rattle.wire_base.specs.model.OnFrame.{Effects, Next, Packet, nothing, dropped, joined, unchanged, framed, pdu_frame, pdu_read, link_to, next_link, node_place, bift_at, prefix_of, copy_of, tunnel_for, sent_on, direct_copy, tunnel_copy, copy_sent, or_drop, outcome_done, choice_of, ids_in, hop_at, hop_in, header_read, meaning_read, is_not_last, on_packet, node_with, or_no_route, forwarded, in_transit, tunnel_read, on_tunnel, frame_read, on_frame}
use Rattle.wire_base.specs.model.Pdu.{Head, head_summary, Pdu, LspPdu, CsnpPdu, PsnpPdu, HelloPdu, OtherPdu, sized_at, lsp_at, csnp_at, psnp_at, body_at, pdu_at, is_hello, lsp_type, csnp_type, psnp_type, tlvs_pass, psnp, row_tlvs, blocks_within}
use Rattle.wire_base.specs.model.Place.{means, own_id}
use Rattle.wire_base.specs.model.Tlv.{lsp_id, lsp_id_at, row}
use Rattle.wire_base.specs.model.Tunnel.{TunnelPacket, plain_ip, ip_header, ip_checksum, gre, protocol_of, tunnel_head, tunnel, total_of, gre_at, tunnel_at, ones_sum, word_sum, is_right_header, header_with, tunnel_on}
use Rattle.wire_base.specs.model.View.{control_view}
use Rattle.wire_base.proofs.HeaderLaws.{length-header_octets}
use Rattle.router_core.specs.Bounds.{most_octets, FitsRecord, FitRecords}
use Rattle.router_core.proofs.AddressLaws.{if_both, all_got, all_flat_of, all_made, some_mapped, some_then, Reads, good, refused, either, unless, then_read, after, octets_few, IsAddress, prefix_is}

-- ---- frames on an interface

eth_length : (to from octets : List ℕ) (number : ℕ) → length to ≡ 6 → length from ≡ 6 → length (ethernet to from number ++ octets) ≡ 14 + length octets
eth_length to from octets number six_to six_from =
    omega (arith, length-append (ethernet to from number) octets, length-append to (from ++ big_bytes 2 number), length-append from (big_bytes 2 number), six_to, six_from)

pub tunnel_length : (t : TunnelPacket) → length (tunnel t) ≡ 16 + length t.src.0 + length t.dst.0 + length t.carried
unfolding tunnel_head
tunnel_length t =
    let total = 24 + length t.carried in
    let sum = ip_checksum plain_ip total t.ttl t.src t.dst in
    let ends = t.src.0 ++ t.dst.0 in
    let rest = t.ttl ∷ 47 ∷ (big_bytes 2 sum ++ ends) in
    omega (
      arith,
      length-append (tunnel_head t) t.carried,
      length-append (ip_header plain_ip total t.ttl t.src t.dst sum) (gre t.inner),
      length-append (big_bytes 2 total) (big_bytes 2 0 ++ (big_bytes 2 16384 ++ rest)),
      length-append (big_bytes 2 0) (big_bytes 2 16384 ++ rest),
      length-append (big_bytes 2 16384) rest,
      length-append (big_bytes 2 sum) ends,
      length-append t.src.0 t.dst.0,
    )

header_short : (bsl : Bsl) → header_length bsl ≤ 524
header_short B64 = omega arith
header_short B128 = omega arith
header_short B256 = omega arith
header_short B512 = omega arith
header_short B1024 = omega arith
header_short B2048 = omega arith
header_short B4096 = omega arith

-- the longest packet with a header
abbrev IsShort : Packet → Type 0
IsShort p = header_length p.header.bsl + length p.payload ≤ MOST_FRAME

-- ---- a packet that is forwarded

abbrev AreShort : Effects → Type 0
AreShort e = FitRecords e.sent

on_link : (r : RouterConf) (link : Option ℕ) (frame : End → List ℕ) → AllByRecursion IsEnd r.ends → ((e : End) → IsEnd e → length (frame e) ≤ most_octets) → IfSome (sent_on r link frame) AreShort
on_link r None frame ends short = tt
on_link r (Some link) frame ends short =
    some_mapped IsEnd AreShort (λ e. record nothing { sent = record { link = link; octets = frame e } ∷ [] }) (λ e h. (short e h, tt)) (slice_get r.ends link) (all_got IsEnd r.ends link ends)

or_lost : (o : Option Effects) → IfSome o AreShort → AreShort (or_no_route o)
or_lost None h = tt
or_lost (Some e) h = h

joined_short : {X : Type 0} (f : X → Effects) → ((x : X) → AreShort (f x)) → (xs : List X) → AreShort (joined (map f xs))
joined_short f each xs = all_flat_of AreShort FitsRecord (λ e. e.sent) (λ e h. h) (map f xs) (all_made AreShort f each xs)

-- a tunnel packet that is forwarded is at most as long as before, apart from its header
onward_length : (octets : List ℕ) (ttl : ℕ) → length (tunnel_on octets ttl) ≤ 20 + length octets
unfolding tunnel_on
onward_length octets ttl =
    let sum = 65535 - ones_sum (word_sum (header_with octets ttl 0)) in
    let whole = take (total_of octets) octets in
    let last = take 8 (drop 12 octets) in
    omega (
      arith,
      length-append (header_with octets ttl sum) (drop 20 whole),
      length-append (take 8 octets) (ttl ∷ slice_index octets 9 ∷ (big_bytes 2 sum ++ last)),
      length-append (big_bytes 2 sum) last,
      length-take 8 octets,
      length-take 8 (drop 12 octets),
      length-drop 20 whole,
      length-take (total_of octets) octets,
    )

some_of : {X : Type 0} (o : Option X) → IfSome o (λ x. Unit {0})
some_of None = tt
some_of (Some x) = tt

module _ (r : RouterConf) (g : List ViewNode) (u : ℕ) (ends : AllByRecursion IsEnd r.ends) (four : length r.prefix.0 ≤ 4) (addresses : (sd x : ℕ) → IfSome (prefix_of g sd x) IsAddress) where
  direct_short : (p : Packet) (x : ℕ) (octets : List ℕ) → length octets ≤ MOST_FRAME → IfSome (direct_copy r g p x octets) AreShort
  direct_short p x octets short =
      on_link r (link_to r g x) (λ e. bier_frame e.peer_mac e.own_mac p.kind octets) ends
      (λ e h. omega (arith, eth_length e.peer_mac.0 e.own_mac.0 octets (protocol_of p.kind) h.peer_mac.octets_are.long h.own_mac.octets_are.long, short))

  tunneled_short : (p : Packet) (x : ℕ) (octets : List ℕ) → length octets ≤ MOST_FRAME → IfSome (tunnel_copy r g u p x octets) AreShort
  tunneled_short p x octets short =
      some_then IsAddress AreShort (λ dst. sent_on r (next_link r g u x) (λ e. ip_frame e.peer_mac e.own_mac (tunnel (tunnel_for r p octets dst))))
      (λ dst few. on_link r (next_link r g u x) (λ e. ip_frame e.peer_mac e.own_mac (tunnel (tunnel_for r p octets dst))) ends
      (λ e h. omega (arith, eth_length e.peer_mac.0 e.own_mac.0 (tunnel (tunnel_for r p octets dst)) ip_type h.peer_mac.octets_are.long h.own_mac.octets_are.long, tunnel_length (tunnel_for r p octets dst), four, few, short)))
      (prefix_of g p.triple.sd x) (addresses p.triple.sd x)

  or_dropped : (p : Packet) (ids : List ℕ) (o : Option Effects) → IfSome o AreShort → AreShort (or_drop p ids o)
  or_dropped p ids None h = tt
  or_dropped p ids (Some e) h = h

  copy_short : (p : Packet) (bift : ℕ) (ids : List ℕ) (ttl : ℕ) → IsShort p → length (copy_of p bift ids ttl) ≤ MOST_FRAME
  copy_short p bift ids ttl short =
      let h = record p.header { bift = bift; ttl = ttl; positions = positions_of p.triple ids } in
      omega (arith, length-append (header_octets h) p.payload, length-header_octets h, short)

  outcome_short : (p : Packet) → IsShort p → (o : Outcome) → AreShort (outcome_done r g u p o)
  outcome_short p short (Local id) = tt
  outcome_short p short (Copy x ids ttl) =
      or_dropped p ids _
      (some_then (λ bift. Unit {0}) AreShort (λ bift. copy_sent r g u p x (copy_of p bift ids ttl))
      (λ bift _. let octets = copy_of p bift ids ttl in let few = copy_short p bift ids ttl short in
      if_both (λ o. IfSome o AreShort) (is_direct g u x) (direct_copy r g p x octets) (tunnel_copy r g u p x octets) (direct_short p x octets few) (tunneled_short p x octets few))
      (bift_at r g p.triple x) (some_of (bift_at r g p.triple x)))
  outcome_short p short (Expired ids) = tt
  outcome_short p short (NoRow ids) = tt

  hop_short : (p : Packet) (ttl : ℕ) → IsShort p → AreShort (hop_at r g u p ttl)
  unfolding hop_at
  hop_short p ttl short = joined_short (outcome_done r g u p) (outcome_short p short) (hop (own_id r p.triple.sd) (choice_of r g u p) (ids_in p) ttl)

  transit_short : (octets : List ℕ) (t : TunnelPacket) → length octets ≤ MOST_FRAME → AreShort (forwarded r g u octets t)
  transit_short octets t short =
      or_lost _
      (on_link r (option_and_then (next_link r g u) (node_with g t.dst)) (λ e. ip_frame e.peer_mac e.own_mac (tunnel_on octets (t.ttl - 1))) ends
      (λ e h. omega (arith, eth_length e.peer_mac.0 e.own_mac.0 (tunnel_on octets (t.ttl - 1)) ip_type h.peer_mac.octets_are.long h.own_mac.octets_are.long, onward_length octets (t.ttl - 1), short)))

-- ---- what is read of a frame

-- a header that was read has the length that it was read with
header_of_length : (kind : Kind) (bsl : Bsl) (octets : List ℕ) → Reads (λ h. h.bsl ≡ bsl) (header_at kind bsl octets)
unfolding header_at
header_of_length kind bsl octets =
    unless (nat_lt (length octets) (header_length bsl)) _ (unless (has_wrong_nibble kind (word_of octets 4)) _ (unless (not (version_of (word_of octets 4) == 0)) _ (good refl)))

-- the packet in a tunnel is no longer than the tunnel's octets
abbrev CarriesFew : ℕ → TunnelPacket → Type 0
CarriesFew n t = length t.carried ≤ n

gre_few : (octets : List ℕ) → Reads (CarriesFew (length octets)) (gre_at octets)
gre_few octets =
    let few : length (drop 24 (take (total_of octets) octets)) ≤ length octets = omega (arith, length-drop 24 (take (total_of octets) octets), length-take (total_of octets) octets) in
    unless (nat_lt (total_of octets) 24) _ (unless (not (big_number 2 (drop 20 octets) == 0)) _
    (either (big_number 2 (drop 22 octets) == mpls_type) (good few) (either (big_number 2 (drop 22 octets) == bier_type) (good few) refused)))

tunnel_few : (octets : List ℕ) → Reads (CarriesFew (length octets)) (tunnel_at octets)
unfolding tunnel_at
tunnel_few octets =
    unless (nat_lt (length octets) 20) _ (unless (not (slice_index octets 0 / 16 == 4)) _ (unless (not (slice_index octets 0 % 16 == 5)) _ (unless (nat_lt (total_of octets) 20) _
    (unless (nat_lt (length octets) (total_of octets)) _ (unless (not (is_right_header (take 20 octets))) _ (unless (not (big_number 2 (drop 6 octets) % 16384 == 0)) _ (unless (not (slice_index octets 9 == 47)) _ (gre_few octets))))))))

-- what a frame carries is no longer than the frame
abbrev HoldsFew : ℕ → Carried → Type 0
HoldsFew n (IsisPdu octets) = Unit {0}
HoldsFew n (MplsPacket octets) = length octets ≤ n
HoldsFew n (BierPacket octets) = length octets ≤ n
HoldsFew n (IpPacket octets) = length octets ≤ n
HoldsFew n OtherFrame = Unit {0}

typed_few : (number : ℕ) (rest : List ℕ) → length rest ≤ MOST_FRAME → HoldsFew MOST_FRAME (typed number rest)
typed_few number rest few =
    if_both (HoldsFew MOST_FRAME) (number == mpls_type) (MplsPacket rest) _ few
    (if_both (HoldsFew MOST_FRAME) (number == bier_type) (BierPacket rest) _ few (if_both (HoldsFew MOST_FRAME) (number == ip_type) (IpPacket rest) OtherFrame few tt))

counted_few : (octets : List ℕ) → HoldsFew MOST_FRAME (counted_out octets)
counted_few octets = if_both (HoldsFew MOST_FRAME) (begins_isis octets) (IsisPdu (drop 3 octets)) OtherFrame tt tt

frame_few : (frame : List ℕ) → length frame ≤ MOST_FRAME → Reads (HoldsFew MOST_FRAME) (frame_at frame)
unfolding frame_at
frame_few frame short =
    let number = big_number 2 (drop 12 frame) in
    let few : length (drop 14 frame) ≤ MOST_FRAME = omega (arith, length-drop 14 frame, short) in
    unless (nat_lt (length frame) 14) _
    (either (nat_lt most_length number) (good (typed_few number (drop 14 frame) few)) (unless (nat_lt (length (drop 14 frame)) number) _ (good (counted_few (take number (drop 14 frame))))))

-- the system of an LSP that was read has at most six octets
abbrev HasShortId : Pdu → Type 0
HasShortId (LspPdu h tlvs) = length h.id.system.0 ≤ 6
HasShortId (CsnpPdu source start last tlvs) = Unit {0}
HasShortId (PsnpPdu source tlvs) = Unit {0}
HasShortId HelloPdu = Unit {0}
HasShortId (OtherPdu number) = Unit {0}

id_few : (octets : List ℕ) → Reads (λ x. length x.0.system.0 ≤ 6) (lsp_id_at pdu_fault.PduLength octets)
id_few octets =
    then_read (λ x. length x.0 ≤ 6) (λ x. length x.0.system.0 ≤ 6) (octets_at pdu_fault.PduLength 6 octets) _ (octets_few pdu_fault.PduLength 6 octets) (λ system few.
    after (λ x. length x.0.system.0 ≤ 6) (octet_at pdu_fault.PduLength system.1) _ (λ pseudonode.
    after (λ x. length x.0.system.0 ≤ 6) (octet_at pdu_fault.PduLength pseudonode.1) _ (λ fragment. good few)))

lsp_few : (octets : List ℕ) → Reads HasShortId (lsp_at octets)
unfolding lsp_at
lsp_few octets =
    after HasShortId (sized_at 27 octets) _ (λ body. after HasShortId (number_at pdu_fault.PduLength 2 body.0) _ (λ life.
    then_read (λ x. length x.0.system.0 ≤ 6) HasShortId (lsp_id_at pdu_fault.PduLength life.1) _ (id_few life.1) (λ id few.
    after HasShortId (number_at pdu_fault.PduLength 4 id.1) _ (λ seq. after HasShortId (number_at pdu_fault.PduLength 2 seq.1) _ (λ check.
    after HasShortId (octet_at pdu_fault.PduLength check.1) _ (λ flags. unless (nat_lt 0 life.0 && not (is_right life.1)) _ (either (tlvs_pass false flags.1) (good few) refused)))))))

csnp_few : (octets : List ℕ) → Reads HasShortId (csnp_at octets)
unfolding csnp_at
csnp_few octets =
    after HasShortId (sized_at 33 octets) _ (λ body. after HasShortId (octets_at pdu_fault.PduLength 6 body.0) _ (λ source. after HasShortId (octet_at pdu_fault.PduLength source.1) _ (λ circuit.
    after HasShortId (lsp_id_at pdu_fault.PduLength circuit.1) _ (λ start. after HasShortId (lsp_id_at pdu_fault.PduLength start.1) _ (λ last. either (tlvs_pass true last.1) (good tt) refused)))))

psnp_few : (octets : List ℕ) → Reads HasShortId (psnp_at octets)
unfolding psnp_at
psnp_few octets =
    after HasShortId (sized_at 17 octets) _ (λ body. after HasShortId (octets_at pdu_fault.PduLength 6 body.0) _ (λ source. after HasShortId (octet_at pdu_fault.PduLength source.1) _ (λ circuit. either (tlvs_pass true circuit.1) (good tt) refused)))

body_few : (level : Level) (size number : ℕ) (octets : List ℕ) → Reads HasShortId (body_at level size number octets)
unfolding body_at
body_few level size number octets =
    either (number == lsp_type level) (either (size == 27) (lsp_few octets) refused)
    (either (number == csnp_type level) (either (size == 33) (csnp_few octets) refused)
    (either (number == psnp_type level) (either (size == 17) (psnp_few octets) refused) (either (is_hello number) (good tt) (good tt))))

pdu_few : (level : Level) (octets : List ℕ) → Reads HasShortId (pdu_at level octets)
unfolding pdu_at
pdu_few level octets =
    unless (nat_lt (length octets) 8) _ (unless (not (slice_index octets 0 == 131)) _ (unless (not ((slice_index octets 2 == 1) && (slice_index octets 5 == 1))) _
    (unless (not ((slice_index octets 3 == 0) || (slice_index octets 3 == 6))) _ (body_few level (slice_index octets 1) (slice_index octets 4 % 32) (drop 8 octets)))))

-- ---- the acknowledgement of an LSP

abbrev IsShortAnswer : FloodOut → Type 0
IsShortAnswer out.Kept = Unit {0}
IsShortAnswer (out.Reissue s) = Unit {0}
IsShortAnswer (out.Ack s) = length s.id.system.0 ≤ 6
IsShortAnswer out.Full = Unit {0}
IsShortAnswer out.Zero = Unit {0}

abbrev AnswersShort : LspAnswer → Type 0
AnswersShort a = IsShortAnswer a.answer

aged_answer : (f : Flood) (es : List Entry) (link : ℕ) (h : Head) (tlvs : List ℕ) (age : Age) → length h.id.system.0 ≤ 6 → AnswersShort (lsp_aged f es link h tlvs age)
aged_answer f es link h tlvs Unknown few =
    if_both AnswersShort (h.life == 0) (only_says f es (out.Ack (head_summary h))) _ few (if_both AnswersShort (is_full es) (only_says f es out.Full) (stores f es link (kept h tlvs)) tt tt)
aged_answer f es link h tlvs Newer few = tt
aged_answer f es link h tlvs Equal few = tt
aged_answer f es link h tlvs Older few = tt
aged_answer f es link h tlvs Confused few = tt

lsp_answer : (f : Flood) (es : List Entry) (link : ℕ) (h : Head) (tlvs : List ℕ) (spent : Bool) → length h.id.system.0 ≤ 6 → AnswersShort (on_lsp f es link h tlvs spent)
unfolding on_lsp
lsp_answer f es link h tlvs spent few = cases (h.seq == 0) (is_own_ahead f h.id spent age) (is_unheld_own f h age) (is_unknown age && is_full es)
  where
    age : Age
    age = age_of (entry_in es h.id) (head_summary h)

    cases : (none ahead stray full : Bool)
        → AnswersShort (if none then only_says f es out.Zero else if ahead then only_says f es (out.Reissue h.seq) else if stray then (if full then only_says f es out.Full else puts_marked f es (purge h.id h.seq)) else lsp_aged f es link h tlvs age)
    cases true ahead stray full = tt
    cases false true stray full = tt
    cases false false true true = tt
    cases false false true false = tt
    cases false false false full = aged_answer f es link h tlvs age few

-- a PSNP with one entry
psnp_length : (level : Level) (source : SystemId) (s : Summary) → length source.0 ≤ 6 → length s.id.system.0 ≤ 6 → length (psnp level source (row_tlvs (s ∷ []))) ≤ 1497
unfolding row_tlvs blocks_within
psnp_length level source s six few =
    let tail = big_bytes 4 s.seq ++ big_bytes 2 s.sum in
    omega (
      arith,
      length-append source.0 (0 ∷ row_tlvs (s ∷ [])),
      length-append (row s ++ []) [],
      length-append (row s) [],
      length-append (big_bytes 2 s.life) (lsp_id s.id ++ tail),
      length-append (lsp_id s.id) tail,
      length-append s.id.system.0 (s.id.pseudonode ∷ s.id.fragment ∷ []),
      length-append (big_bytes 4 s.seq) (big_bytes 2 s.sum),
      six,
      few,
    )

-- ---- what a router does

module _ (c : Control) (sound : IsSound c.conf) where
  acknowledged : (e : Option End) (s : Summary) → IfSome e IsEnd → length s.id.system.0 ≤ 6 → length (pdu_frame c.conf e (psnp_of c (s ∷ []))) ≤ most_octets
  acknowledged None s h few = omega arith
  acknowledged (Some e) s h few =
      let octets = psnp c.conf.level c.conf.system (row_tlvs (s ∷ [])) in
      let six = sound.system.long in
      let short = psnp_length c.conf.level c.conf.system s (omega (arith, six)) few in
      omega (arith, eth_length all_routers e.own_mac.0 (254 ∷ 254 ∷ 3 ∷ octets) (3 + length octets) refl h.own_mac.octets_are.long, short)

  answer_short : (f : Flood) (es : List Entry) (link : ℕ) (o : FloodOut) → IsShortAnswer o → AreShort (framed link (answer_lsp (record c { flood = f; entries = es }) o)).effects
  unfolding framed
  answer_short f es link out.Kept short = tt
  answer_short f es link (out.Reissue s) short = tt
  answer_short f es link (out.Ack s) short = (acknowledged (slice_get c.conf.ends link) s (all_got IsEnd c.conf.ends link sound.ends) short, tt)
  answer_short f es link out.Full short = tt
  answer_short f es link out.Zero short = tt

  pdu_short : (link : ℕ) (p : Result Pdu PduFault) → Reads HasShortId p → AreShort (pdu_read c link p).effects
  unfolding on_pdu framed
  pdu_short link (Ok (LspPdu h tlvs)) few =
      let a = on_lsp c.flood c.entries link h tlvs c.spent in answer_short a.flood a.entries link a.answer (lsp_answer c.flood c.entries link h tlvs c.spent few.holds)
  pdu_short link (Ok (CsnpPdu source start last tlvs)) few = tt
  pdu_short link (Ok (PsnpPdu source tlvs)) few = tt
  pdu_short link (Ok HelloPdu) few = tt
  pdu_short link (Ok (OtherPdu number)) few = tt
  pdu_short link (Err fault) few = tt

  four : length c.conf.prefix.0 ≤ 4
  four = let long = sound.prefix.octets_are.long in omega (arith, long)

  hopped_short : (p : Packet) (ttl : ℕ) → IsShort p → AreShort (hop_in c p ttl)
  hopped_short p ttl short =
      hop_short c.conf (control_view c) (node_place (control_view c) c.conf.system) sound.ends four (λ sd x. prefix_is c sd x four) p ttl short

  packet_short : (kind : Kind) (octets : List ℕ) → length octets ≤ MOST_FRAME → AreShort (on_packet c kind octets)
  unfolding on_packet
  packet_short kind octets short = by (nat_lt (length octets) 4) (is_not_last kind (big_number 4 octets)) (means c.conf kind (big_number 4 octets / 4096))
    where
      header : (t : Triple) (read : Result BierHeader HeadFault) → Reads (λ h. h.bsl ≡ t.bsl) read → AreShort (header_read c kind t octets read)
      header t (Ok h) same =
          hopped_short (record { triple = t; kind = kind; header = h; payload = drop (header_length t.bsl) octets }) h.ttl
          (omega (arith, ap header_length same.holds, header_short t.bsl, length-drop (header_length t.bsl) octets, short))
      header t (Err fault) same = tt

      by : (few last : Bool) (t : Option Triple) → AreShort (if few then dropped (cause.Head head_fault.Short) else if last then dropped cause.Label else meaning_read c kind octets t)
      by true last t = tt
      by false true t = tt
      by false false None = tt
      by false false (Some t) = header t (header_at kind t.bsl octets) (header_of_length kind t.bsl octets)

  tunnel_short : (octets : List ℕ) (read : Result TunnelPacket IpFault) → length octets ≤ MOST_FRAME → Reads (CarriesFew (length octets)) read → AreShort (tunnel_read c octets read)
  tunnel_short octets (Ok t) short few =
      if_both AreShort (bytes_eq t.dst.0 c.conf.prefix.0) (on_packet c t.inner t.carried) (in_transit c octets t) (packet_short t.inner t.carried (let less = few.holds in omega (arith, short, less)))
      (if_both AreShort (nat_le t.ttl 1) (dropped cause.Outer) (forwarded c.conf (control_view c) (node_place (control_view c) c.conf.system) octets t) tt
      (transit_short c.conf (control_view c) (node_place (control_view c) c.conf.system) sound.ends four (λ sd x. prefix_is c sd x four) octets t short))
  tunnel_short octets (Err fault) short few = tt

  carried_short : (link : ℕ) (read : Result Carried FrameFault) → Reads (HoldsFew MOST_FRAME) read → AreShort (frame_read c link read).effects
  unfolding on_tunnel
  carried_short link (Ok (IsisPdu octets)) few = pdu_short link (pdu_at c.conf.level octets) (pdu_few c.conf.level octets)
  carried_short link (Ok (MplsPacket octets)) few = packet_short Mpls octets few.holds
  carried_short link (Ok (BierPacket octets)) few = packet_short Configured octets few.holds
  carried_short link (Ok (IpPacket octets)) few = tunnel_short octets (tunnel_at octets) few.holds (tunnel_few octets)
  carried_short link (Ok OtherFrame) few = tt
  carried_short link (Err fault) few = tt

  frame_short : (link : ℕ) (octets : List ℕ) → length octets ≤ MOST_FRAME → FitRecords (on_frame c link octets).effects.sent
  unfolding on_frame
  frame_short link octets short =
      if_both (λ (n : Next). AreShort n.effects) (slice_index_or c.flood.up link false) (frame_read c link (frame_at octets)) (unchanged c (dropped cause.Link)) (carried_short link (frame_at octets) (frame_few octets short)) tt

  inject_short : (sd : ℕ) (bsl : Bsl) (ids : List ℕ) (ttl entropy : ℕ) (payload : List ℕ) → length payload ≤ MOST_PAYLOAD → FitRecords (inject c sd bsl ids ttl entropy payload).sent
  unfolding inject ingress_header
  inject_short sd bsl ids ttl entropy payload short =
      joined_short (λ p. hop_in c (entering c.conf ttl entropy payload p) (ttl + 1))
      (λ p. hopped_short (entering c.conf ttl entropy payload p) (ttl + 1) (omega (arith, header_short p.triple.bsl, short))) (packets_for sd bsl ids)

-- ---- of what the code gives

pub frame_fits : (c new : Control) (e : Effects) (link : ℕ) (octets : List ℕ) → ◌≡◌ {A = Next} (record { control = new; effects = e }) (on_frame c link octets) → IsSound c.conf → length octets ≤ MOST_FRAME → FitRecords e.sent
frame_fits c new e link octets next sound short = subst (λ (n : Next). FitRecords n.effects.sent) (sym next) (frame_short c sound link octets short)

pub inject_fits : {E : Type 0} (r : Result Effects E) (c : Control) (sd : ℕ) (bsl : Bsl) (ids : List ℕ) (ttl entropy : ℕ) (payload : List ℕ) → IfOk r (λ e. e ≡ inject c sd bsl ids ttl entropy payload) → IsSound c.conf → length payload ≤ MOST_PAYLOAD → IfOk r (λ e. FitRecords e.sent)
inject_fits (Ok e) c sd bsl ids ttl entropy payload is sound short = subst (λ (x : Effects). FitRecords x.sent) (sym is) (inject_short c sound sd bsl ids ttl entropy payload short)
inject_fits (Err why) c sd bsl ids ttl entropy payload is sound short = tt
