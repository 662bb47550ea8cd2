-- A frame of any octets: which drops leave the control state as it was, and how many frames it makes the router send.
use Rattle.std.proofs.Common.{◌≡◌, ◌∙◌, ℕ, zero, suc, ◌+◌, ◌≤◌, ◌/◌, ◌==◌, ◌&&◌, nat_lt, nat_le, not, Bool, true, false, List, [], ◌∷◌, ◌++◌, length, map, filter, replicate, drop, slice_get, slice_index_or, ◌-◌, Option, Some, None, is_some, option_map, option_and_then, Result, Ok, Err, if◌then◌else◌, refl, sym, ap, subst, length-append, arith}
use Rattle.std.proofs.lemmas.Bool.{false≢true}
use Rattle.std.specs.List.{flat_map, filter_map, list_any, cons_option}
use Rattle.std.specs.Str.{bytes_eq}
use Rattle.byteorder.specs.Endian.{big_number}
use Rattle.wire_base.specs.declared.cause.Cause.TheVariants as cause
use Rattle.wire_base.specs.declared.conf.Kind.{Kind}
use Rattle.wire_base.specs.declared.conf.Kind.TheVariants.{Mpls, Configured}
use Rattle.wire_base.specs.declared.conf.RouterConf.{RouterConf}
use Rattle.wire_base.specs.declared.entry.Age.{Age}
use Rattle.wire_base.specs.declared.entry.Age.TheVariants.{Unknown, Newer, Equal, Older, Confused}
use Rattle.wire_base.specs.declared.entry.Entry.{Entry}
use Rattle.wire_base.specs.declared.addresses.Ipv4.{Ipv4}
use Rattle.wire_base.specs.declared.conf.End.{End}
use Rattle.wire_base.specs.declared.faults.FrameFault.{FrameFault}
use Rattle.wire_base.specs.declared.faults.HeadFault.{HeadFault}
use Rattle.wire_base.specs.declared.faults.HeadFault.TheVariants as head_fault
use Rattle.wire_base.specs.declared.faults.IpFault.{IpFault}
use Rattle.wire_base.specs.declared.faults.PduFault.{PduFault}
use Rattle.wire_base.specs.declared.flood_out.FloodOut.{FloodOut}
use Rattle.wire_base.specs.declared.flood_out.FloodOut.TheVariants as out
use Rattle.wire_base.specs.declared.triple.Triple.{Triple}
use Rattle.wire_base.specs.declared.view.ViewNode.{ViewNode}
use Rattle.wire_base.specs.model.BierHeader.{BierHeader, header_at, header_length}
use Rattle.wire_base.specs.model.Control.{Control, Flood, entry_in, is_full, is_unknown, age_of, purge}
use Rattle.wire_base.specs.model.Ethernet.{Carried, IsisPdu, MplsPacket, BierPacket, IpPacket, OtherFrame, frame_at}
use Rattle.wire_base.specs.model.Flooding.{LspAnswer, SnpAnswer, only_says, puts_marked, stores, lsp_aged, is_own_ahead, is_unheld_own, on_lsp, answer_lsp, snp_done, on_csnp, on_psnp, on_pdu, kept}
use Rattle.wire_base.specs.model.Hop.{Outcome, Local, Copy, Expired, NoRow, has, is_this, distinct, forward, local, unless_empty, hop}
use Rattle.wire_base.specs.model.OnFrame.{Effects, Next, Packet, nothing, dropped, joined, unchanged, framed, pdu_read, outcome_done, link_to, next_link, node_place, bift_at, prefix_of, copy_of, tunnel_for, copy_sent, direct_copy, sent_on, or_drop, choice_of, ids_in, hop_at, header_read, meaning_read, is_not_last, on_packet, forwarded, node_with, or_no_route, in_transit, tunnel_read, on_tunnel, frame_read, on_frame}
use Rattle.wire_base.specs.model.Pdu.{Head, head_summary, Pdu, LspPdu, CsnpPdu, PsnpPdu, HelloPdu, OtherPdu, pdu_at}
use Rattle.wire_base.specs.model.Place.{id_at, means, own_id}
use Rattle.wire_base.specs.model.Tunnel.{TunnelPacket, tunnel, tunnel_at, tunnel_on}
use Rattle.wire_base.specs.model.Choice.{is_direct}
use Rattle.wire_base.specs.model.Item.{bier_frame, ip_frame}
use Rattle.wire_base.specs.model.View.{control_view}
use Rattle.bier_forward.specs.Packets.{packet_at, with_meaning, with_header}
use Rattle.router_core.specs.Bounds.{leaves_state, packet_read, packet_inside, packet_carried, packet_hopped, most_sent}

-- ---- drops that leave the control state as it was

abbrev Untaken : Control → Next → Type 0
Untaken c n = list_any leaves_state n.effects.drops ≡ true → n.control ≡ c

-- what has the sequence number 0 changes nothing
abbrev ZeroSame : Flood → List Entry → LspAnswer → Type 0
ZeroSame f es a = a.answer ≡ out.Zero → (a.flood ≡ f) × (a.entries ≡ es)

aged_zero : (f : Flood) (es : List Entry) (link : ℕ) (h : Head) (tlvs : List ℕ) (age : Age) → ZeroSame f es (lsp_aged f es link h tlvs age)
aged_zero f es link h tlvs Unknown = unknown (h.life == 0) (is_full es)
  where
    unknown : (dead full : Bool) → ZeroSame f es (if dead then only_says f es (out.Ack (head_summary h)) else (if full then only_says f es out.Full else stores f es link (kept h tlvs)))
    unknown true full q = (refl, refl)
    unknown false true q = (refl, refl)
    unknown false false q = cc
aged_zero f es link h tlvs Newer = λ q. cc
aged_zero f es link h tlvs Equal = λ q. cc
aged_zero f es link h tlvs Older = λ q. cc
aged_zero f es link h tlvs Confused = λ q. cc

lsp_zero : (f : Flood) (es : List Entry) (link : ℕ) (h : Head) (tlvs : List ℕ) (spent : Bool) → ZeroSame f es (on_lsp f es link h tlvs spent)
unfolding on_lsp
lsp_zero f es link h tlvs spent = cases (h.seq == 0) (is_own_ahead f h.id spent age) (is_unheld_own f h age) (is_unknown age && is_full es)
  where
    age : Age
    age = age_of (entry_in es h.id) (head_summary h)

    cases : (none ahead stray full : Bool)
        → ZeroSame f es (if none then only_says f es out.Zero else if ahead then only_says f es (out.Reissue h.seq) else if stray then (if full then only_says f es out.Full else puts_marked f es (purge h.id h.seq)) else lsp_aged f es link h tlvs age)
    cases true ahead stray full q = (refl, refl)
    cases false true stray full q = (refl, refl)
    cases false false true true q = (refl, refl)
    cases false false true false q = cc
    cases false false false full q = aged_zero f es link h tlvs age q

answered : (c : Control) (link : ℕ) (a : LspAnswer) (o : FloodOut) → (o ≡ out.Zero → (a.flood ≡ c.flood) × (a.entries ≡ c.entries)) → Untaken c (framed link (answer_lsp (record c { flood = a.flood; entries = a.entries }) o))
unfolding framed
answered c link a out.Kept same h = absurd (false≢true h)
answered c link a (out.Reissue s) same h = absurd (false≢true h)
answered c link a (out.Ack s) same h = absurd (false≢true h)
answered c link a out.Full same h = absurd (false≢true h)
answered c link a out.Zero same h =
    let is = same refl in
    ap (λ (f : Flood). record c { flood = f; entries = a.entries }) is.0 ∙ ap (λ (es : List Entry). record c { flood = c.flood; entries = es }) is.1

fulls : (n : ℕ) → list_any leaves_state (map (λ why. record { cause = why; set = None }) (replicate n cause.Full)) ≡ false
fulls zero = refl
fulls (suc n) = fulls n

listed : (c : Control) (link : ℕ) (a : SnpAnswer) → Untaken c (framed link (snp_done c a))
unfolding framed
listed c link a h = absurd (false≢true (sym (fulls a.answer.full) ∙ h))

pdu_untaken : (c : Control) (link : ℕ) (p : Result Pdu PduFault) → Untaken c (pdu_read c link p)
unfolding on_pdu
pdu_untaken c link (Ok (LspPdu h tlvs)) =
    let a = on_lsp c.flood c.entries link h tlvs c.spent in answered c link a a.answer (lsp_zero c.flood c.entries link h tlvs c.spent)
pdu_untaken c link (Ok (CsnpPdu source start last tlvs)) = listed c link (on_csnp c.flood c.entries link start last tlvs c.spent)
pdu_untaken c link (Ok (PsnpPdu source tlvs)) = listed c link (on_psnp c.flood c.entries link tlvs c.spent)
pdu_untaken c link (Ok HelloPdu) = λ h. refl
pdu_untaken c link (Ok (OtherPdu number)) = λ h. refl
pdu_untaken c link (Err fault) = λ h. refl

carried_untaken : (c : Control) (link : ℕ) (carried : Result Carried FrameFault) → Untaken c (frame_read c link carried)
carried_untaken c link (Ok (IsisPdu octets)) = pdu_untaken c link (pdu_at c.conf.level octets)
carried_untaken c link (Ok (MplsPacket octets)) = λ h. refl
carried_untaken c link (Ok (BierPacket octets)) = λ h. refl
carried_untaken c link (Ok (IpPacket octets)) = λ h. refl
carried_untaken c link (Ok OtherFrame) = λ h. refl
carried_untaken c link (Err fault) = λ h. refl

pub untaken : (c : Control) (link : ℕ) (octets : List ℕ) → list_any leaves_state (on_frame c link octets).effects.drops ≡ true → (on_frame c link octets).control ≡ c
unfolding on_frame
untaken c link octets = cases (slice_index_or c.flood.up link false)
  where
    cases : (b : Bool) → Untaken c (if b then frame_read c link (frame_at octets) else unchanged c (dropped cause.Link))
    cases true = carried_untaken c link (frame_at octets)
    cases false = λ h. refl

-- ---- how much is sent

left_of : {X : Type 0} → (p : X → Bool) (xs : List X) → length (filter p xs) ≤ length xs
left_of p [] = omega arith
left_of p (x ∷ xs) = cases (p x) (left_of p xs)
  where
    cases : (b : Bool) → length (filter p xs) ≤ length xs → length (if b then x ∷ filter p xs else filter p xs) ≤ suc (length xs)
    cases true le = omega (arith, le)
    cases false le = omega (arith, le)

fewer : (xs : List ℕ) → length (distinct xs) ≤ length xs
fewer [] = omega arith
fewer (x ∷ xs) = omega (arith, left_of (λ y. not (y == x)) (distinct xs), fewer xs)

chosen : (choose : ℕ → Option ℕ) (xs : List ℕ) → length (filter_map choose xs) ≤ length xs
chosen choose [] = omega arith
chosen choose (x ∷ xs) = cases (choose x) (chosen choose xs)
  where
    cases : (o : Option ℕ) → length (filter_map choose xs) ≤ length xs → length (cons_option o (filter_map choose xs)) ≤ suc (length xs)
    cases None le = omega (arith, le)
    cases (Some y) le = omega (arith, le)

mapped : {X Y : Type 0} → (f : X → Y) (xs : List X) → length (map f xs) ≡ length xs
mapped f [] = refl
mapped f (x ∷ xs) = ap (λ n. suc n) (mapped f xs)

one_at_most : (r : RouterConf) (link : Option ℕ) (frame : End → List ℕ) (p : Packet) (ids : List ℕ) → length (or_drop p ids (sent_on r link frame)).sent ≤ 1
one_at_most r None frame p ids = omega arith
one_at_most r (Some link) frame p ids = cases (slice_get r.ends link)
  where
    cases : (e : Option End) → length (or_drop p ids (option_map (λ e. record nothing { sent = record { link = link; octets = frame e } ∷ [] }) e)).sent ≤ 1
    cases None = omega arith
    cases (Some e) = omega arith

one_no_route : (r : RouterConf) (link : Option ℕ) (frame : End → List ℕ) → length (or_no_route (sent_on r link frame)).sent ≤ 1
one_no_route r None frame = omega arith
one_no_route r (Some link) frame = cases (slice_get r.ends link)
  where
    cases : (e : Option End) → length (or_no_route (option_map (λ e. record nothing { sent = record { link = link; octets = frame e } ∷ [] }) e)).sent ≤ 1
    cases None = omega arith
    cases (Some e) = omega arith

module _ (r : RouterConf) (g : List ViewNode) (u : ℕ) (p : Packet) where
  abbrev sends : Outcome → ℕ
  sends o = length (outcome_done r g u p o).sent

  copy_few : (x : ℕ) (ids : List ℕ) (octets : List ℕ) → length (or_drop p ids (copy_sent r g u p x octets)).sent ≤ 1
  copy_few x ids octets = by (is_direct g u x) (prefix_of g p.triple.sd x)
    where
      by : (b : Bool) (o : Option Ipv4) → length (or_drop p ids (if b then direct_copy r g p x octets else option_and_then (λ dst. sent_on r (next_link r g u x) (λ e. ip_frame e.peer_mac e.own_mac (tunnel (tunnel_for r p octets dst)))) o)).sent ≤ 1
      by true o = one_at_most r (link_to r g x) (λ e. bier_frame e.peer_mac e.own_mac p.kind octets) p ids
      by false None = omega arith
      by false (Some dst) = one_at_most r (next_link r g u x) (λ e. ip_frame e.peer_mac e.own_mac (tunnel (tunnel_for r p octets dst))) p ids

  sends_one : (x : ℕ) (ids : List ℕ) (ttl : ℕ) → sends (Copy x ids ttl) ≤ 1
  sends_one x ids ttl = by (bift_at r g p.triple x)
    where
      by : (o : Option ℕ) → length (or_drop p ids (option_and_then (λ bift. copy_sent r g u p x (copy_of p bift ids ttl)) o)).sent ≤ 1
      by None = omega arith
      by (Some bift) = copy_few x ids (copy_of p bift ids ttl)

  abbrev total : List Outcome → ℕ
  total [] = 0
  total (o ∷ os) = sends o + total os

  joined_total : (os : List Outcome) → length (joined (map (outcome_done r g u p) os)).sent ≡ total os
  joined_total [] = refl
  joined_total (o ∷ os) = length-append (outcome_done r g u p o).sent (flat_map (λ e. e.sent) (map (outcome_done r g u p) os)) ∙ ap (λ n. sends o + n) (joined_total os)

  total_append : (xs ys : List Outcome) → total (xs ++ ys) ≡ total xs + total ys
  total_append [] ys = omega arith
  total_append (x ∷ xs) ys = let more = total_append xs ys in omega (arith, more)

  expired_none : (ids : List ℕ) → total (unless_empty Expired ids) ≡ 0
  expired_none [] = refl
  expired_none (k ∷ ks) = refl

  no_row_none : (ids : List ℕ) → total (unless_empty NoRow ids) ≡ 0
  no_row_none [] = refl
  no_row_none (k ∷ ks) = refl

  local_none : (own : Option ℕ) (ids : List ℕ) → total (local own ids) ≡ 0
  local_none None ids = refl
  local_none (Some o) ids = by (has ids o)
    where
      by : (b : Bool) → total (if b then Local o ∷ [] else []) ≡ 0
      by true = refl
      by false = refl

  each_one : (group : ℕ → List ℕ) (ttl : ℕ) (xs : List ℕ) → total (map (λ x. Copy x (group x) ttl) xs) ≤ length xs
  each_one group ttl [] = omega arith
  each_one group ttl (x ∷ xs) = let one = sends_one x (group x) ttl in let more = each_one group ttl xs in omega (arith, one, more)

  forward_few : (choose : ℕ → Option ℕ) (ids : List ℕ) (ttl : ℕ) → total (forward choose ids ttl) ≤ length ids
  forward_few choose ids zero = let none = expired_none (filter (λ k. is_some (choose k)) ids) in omega (arith, none)
  forward_few choose ids (suc ttl) =
      let one = each_one (λ x. filter (λ k. is_this (choose k) x) ids) (suc ttl) (distinct (filter_map choose ids)) in
      let less = fewer (filter_map choose ids) in
      let some = chosen choose ids in
      omega (arith, one, less, some)

  hop_few : (own : Option ℕ) (choose : ℕ → Option ℕ) (ids : List ℕ) (ttl : ℕ) → total (hop own choose ids ttl) ≤ length ids
  unfolding hop
  hop_few own choose ids zero = let none = expired_none ids in omega (arith, none)
  hop_few own choose ids (suc ttl) =
      let others = filter (λ k. not (is_this own k)) ids in
      let lost = filter (λ k. not (is_some (choose k)) && not (is_this own k)) ids in
      let one = total_append (local own ids ++ forward choose others ttl) (unless_empty NoRow lost) in
      let two = total_append (local own ids) (forward choose others ttl) in
      let a = local_none own ids in
      let b = forward_few choose others ttl in
      let d = no_row_none lost in
      let e = left_of (λ k. not (is_this own k)) ids in
      let whole : total ((local own ids ++ forward choose others ttl) ++ unless_empty NoRow lost) ≤ length ids = omega (arith, one, two, a, b, d, e) in
      whole

  hop_sent : (ttl : ℕ) → length (hop_at r g u p ttl).sent ≤ length p.header.positions
  unfolding hop_at
  hop_sent ttl =
      let is = joined_total (hop (own_id r p.triple.sd) (choice_of r g u p) (ids_in p) ttl) in
      let few = hop_few (own_id r p.triple.sd) (choice_of r g u p) (ids_in p) ttl in
      let long = mapped (id_at p.triple) p.header.positions in
      omega (arith, is, few, long)

packet_few : (c : Control) (kind : Kind) (octets : List ℕ) → length (on_packet c kind octets).sent ≤ most_sent (packet_read (packet_at c.conf kind octets))
unfolding on_packet packet_at
packet_few c kind octets = by (nat_lt (length octets) 4) (is_not_last kind (big_number 4 octets)) (means c.conf kind (big_number 4 octets / 4096))
  where
    header : (t : Triple) (read : Result BierHeader HeadFault) → length (header_read c kind t octets read).sent ≤ most_sent (packet_read (with_header kind t octets read))
    header t (Ok h) = hop_sent c.conf (control_view c) (node_place (control_view c) c.conf.system) (record { triple = t; kind = kind; header = h; payload = drop (header_length t.bsl) octets }) h.ttl
    header t (Err fault) = omega arith

    by : (short last : Bool) (t : Option Triple)
        → length (if short then dropped (cause.Head head_fault.Short) else if last then dropped cause.Label else meaning_read c kind octets t).sent
        ≤ most_sent (packet_read (if short then Err (cause.Head head_fault.Short) else if last then Err cause.Label else with_meaning kind octets t))
    by true last t = omega arith
    by false true t = omega arith
    by false false None = omega arith
    by false false (Some t) = header t (header_at kind t.bsl octets)

transit_few : (c : Control) (octets : List ℕ) (t : TunnelPacket) → length (in_transit c octets t).sent ≤ 1
transit_few c octets t = by (nat_le t.ttl 1)
  where
    by : (b : Bool) → length (if b then dropped cause.Outer else forwarded c.conf (control_view c) (node_place (control_view c) c.conf.system) octets t).sent ≤ 1
    by true = omega arith
    by false = one_no_route c.conf (option_and_then (next_link c.conf (control_view c) (node_place (control_view c) c.conf.system)) (node_with (control_view c) t.dst)) (λ e. ip_frame e.peer_mac e.own_mac (tunnel_on octets (t.ttl - 1)))

tunnel_few : (c : Control) (octets : List ℕ) (read : Result TunnelPacket IpFault) → length (tunnel_read c octets read).sent ≤ most_sent (packet_inside c.conf read)
tunnel_few c octets (Ok t) = by (bytes_eq t.dst.0 c.conf.prefix.0)
  where
    by : (b : Bool) → length (if b then on_packet c t.inner t.carried else in_transit c octets t).sent ≤ most_sent (if b then packet_read (packet_at c.conf t.inner t.carried) else None)
    by true = packet_few c t.inner t.carried
    by false = transit_few c octets t
tunnel_few c octets (Err fault) = omega arith

answer_few : (c : Control) (link : ℕ) (o : FloodOut) → length (framed link (answer_lsp c o)).effects.sent ≤ 1
unfolding framed
answer_few c link out.Kept = omega arith
answer_few c link (out.Reissue s) = omega arith
answer_few c link (out.Ack s) = omega arith
answer_few c link out.Full = omega arith
answer_few c link out.Zero = omega arith

list_none : (c : Control) (link : ℕ) (a : SnpAnswer) → length (framed link (snp_done c a)).effects.sent ≤ 1
unfolding framed
list_none c link a = omega arith

pdu_few : (c : Control) (link : ℕ) (p : Result Pdu PduFault) → length (pdu_read c link p).effects.sent ≤ 1
unfolding on_pdu
pdu_few c link (Ok (LspPdu h tlvs)) =
    let a = on_lsp c.flood c.entries link h tlvs c.spent in answer_few (record c { flood = a.flood; entries = a.entries }) link a.answer
pdu_few c link (Ok (CsnpPdu source start last tlvs)) = list_none c link (on_csnp c.flood c.entries link start last tlvs c.spent)
pdu_few c link (Ok (PsnpPdu source tlvs)) = list_none c link (on_psnp c.flood c.entries link tlvs c.spent)
pdu_few c link (Ok HelloPdu) = omega arith
pdu_few c link (Ok (OtherPdu number)) = omega arith
pdu_few c link (Err fault) = omega arith

carried_few : (c : Control) (link : ℕ) (carried : Result Carried FrameFault) → length (frame_read c link carried).effects.sent ≤ most_sent (packet_carried c.conf carried)
unfolding on_tunnel
carried_few c link (Ok (IsisPdu octets)) = pdu_few c link (pdu_at c.conf.level octets)
carried_few c link (Ok (MplsPacket octets)) = packet_few c Mpls octets
carried_few c link (Ok (BierPacket octets)) = packet_few c Configured octets
carried_few c link (Ok (IpPacket octets)) = tunnel_few c octets (tunnel_at octets)
carried_few c link (Ok OtherFrame) = omega arith
carried_few c link (Err fault) = omega arith

pub sent_few : (c : Control) (link : ℕ) (octets : List ℕ) → length (on_frame c link octets).effects.sent ≤ most_sent (packet_hopped c.conf octets)
unfolding on_frame packet_hopped
sent_few c link octets = by (slice_index_or c.flood.up link false)
  where
    none : (o : Option Packet) → 0 ≤ most_sent o
    none o = omega arith

    by : (b : Bool) → length (if b then frame_read c link (frame_at octets) else unchanged c (dropped cause.Link)).effects.sent ≤ most_sent (packet_carried c.conf (frame_at octets))
    by true = carried_few c link (frame_at octets)
    by false = none (packet_carried c.conf (frame_at octets))

-- ---- of what the code gives

module _ (c new old : Control) (e : Effects) (link : ℕ) (octets : List ℕ) (next : (let n : Next = record { control = new; effects = e } in n ≡ on_frame c link octets)) (is : c ≡ old) where
  pub untaken_stays : list_any leaves_state e.drops ≡ true → new ≡ old
  untaken_stays h = ap (λ (n : Next). n.control) next ∙ untaken c link octets (ap (λ (n : Next). list_any leaves_state n.effects.drops) (sym next) ∙ h) ∙ is

  pub few_sent : length e.sent ≤ most_sent (packet_hopped old.conf octets)
  few_sent =
      subst (λ (x : Control). length e.sent ≤ most_sent (packet_hopped x.conf octets)) is
      (subst (λ (n : Next). length n.effects.sent ≤ most_sent (packet_hopped c.conf octets)) (sym next) (sent_few c link octets))
