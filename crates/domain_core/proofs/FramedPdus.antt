-- PDUs are read off their frames again, and a router does on the frame of a PDU, and where it sends what is due, what flooding
-- does with the items.
use Rattle.std.proofs.Common.{◌≡◌, ◌⊎◌, inl, inr, ℕ, ◌+◌, ◌<◌, ◌≤◌, ◌^◌, true, List, [], ◌∷◌, ◌++◌, length, map, slice_get, Option, Some, None, refl, sym, ap, subst, ◌∙◌, arith}
use Rattle.std.specs.List.{AllByRecursion}
use Rattle.std.proofs.lemmas.List.{length-append}
use Rattle.byteorder.specs.Endian.{big_bytes}
use Rattle.wire_base.specs.declared.limits.TheConstants.{MOST_FRAME}
use Rattle.wire_base.specs.declared.addresses.LspId.{LspId}
use Rattle.wire_base.specs.declared.addresses.SystemId.{SystemId}
use Rattle.wire_base.specs.declared.cause.Cause.{Cause}
use Rattle.wire_base.specs.declared.conf.End.{End}
use Rattle.wire_base.specs.declared.conf.Level.{Level}
use Rattle.wire_base.specs.declared.conf.RouterConf.{RouterConf}
use Rattle.wire_base.specs.declared.effects.Sent.{Sent}
use Rattle.wire_base.specs.declared.entry.Entry.{Entry}
use Rattle.wire_base.specs.declared.triple.Summary.{Summary}
use Rattle.wire_base.specs.model.Configuration.{DomainConf, IsConsistent, IsSound, IsEnd}
use Rattle.wire_base.specs.model.Control.{Control, fragment_0}
use Rattle.wire_base.specs.model.Ethernet.{ethernet}
use Rattle.wire_base.specs.model.Flooding.{Reply, on_pdu, send}
use Rattle.wire_base.specs.model.Item.{ControlItem, all_routers, frame_of}
use Rattle.wire_base.specs.model.OnFrame.{Effects, Next, Drop, pdu_frame, frames_of, framed, on_frame}
use Rattle.wire_base.specs.model.OwnLsp.{own_flags}
use Rattle.wire_base.specs.model.Pdu.{Head, Pdu, LspPdu, CsnpPdu, PsnpPdu, HelloPdu, OtherPdu, lsp_sum, tlvs_pass, pdu}
use Rattle.wire_base.specs.model.Tlv.{SummaryFits}
use Rattle.laws_format.proofs.TlvListLaws.{row_tlvs_pass, passes_are}
use Rattle.laws_item.specs.Fits.{IsSendable, EntryFits}
use Rattle.laws_item.proofs.ControlFrames.{sendable_short, control_taken}
use Rattle.laws_item.proofs.OwnLaws.{own_fits, dead_fits}
use Rattle.laws_item.proofs.RowLaws.{rows_short}
use Rattle.domain_model.specs.declared.lines.DropLine.{DropLine}
use Rattle.domain_model.specs.World.{is_up, link_between}
use Rattle.domain_model.specs.Moves.{over_end, control_lost, replied}
use Rattle.domain_model.specs.Truth.{IsAmong, IsOwnLsp, IsDeadLsp, IsTrueLsp, IsTrueRow, IsSource, IsTruePdu, IsTrueControl}
use Rattle.frames_in_flight.specs.Framed.{frame_over, sent_of, item_sent, drop_line, IsFramed, IsFlooded}
use Rattle.frames_in_flight.specs.Read.{item_in}
use Rattle.domain_model.proofs.EachLaws.{each_weaker, each_mapped, each_got}
use Rattle.domain_model.proofs.DomainLaws.{sound_of, alike, own_earlier}
use Rattle.domain_model.proofs.LinkLaws.{join_of, end_found}
use Rattle.domain_model.proofs.ControlTruth.{IsTrueReply, state_of, named_fits, row_fits, on_pdu_true}
use Rattle.domain_model.proofs.SendTruth.{send_true}
use Rattle.domain_model.proofs.WorldTruth.{AreOf}
use Rattle.domain_core.proofs.FramedBack.{up_within, IsAt, at_self, at_now, over_at, end_within, IsReadBack, framed_by}
use Rattle.domain_core.proofs.ReadBack.{got_some, pdu_back}

-- ---- a true PDU can be sent

module _ (confs : List RouterConf) (sound : AllByRecursion IsSound confs) where
  sound_among : (r : RouterConf) → IsAmong confs r → IsSound r
  sound_among r among = each_got IsSound confs among.place r sound among.there

  lsp_fits : (h : Head) (tlvs : List ℕ) → IsTrueLsp confs h tlvs → EntryFits (record { id = h.id; seq = h.seq; life = h.life; hold = 0; sum = h.sum; flags = h.flags; content = tlvs })
  lsp_fits h tlvs t = by t.says
    where
      e : Entry
      e = record { id = h.id; seq = h.seq; life = h.life; hold = 0; sum = h.sum; flags = h.flags; content = tlvs }

      by : IsOwnLsp confs h tlvs ⊎ IsDeadLsp h tlvs → EntryFits e
      by (inl own) =
          let r = own.router in
          let low : h.seq < 2 ^ 32 = omega (arith, t.seq) in
          let fresh : h.life < 2 ^ 16 = omega (arith, own.fresh) in
          own_fits r own.up e own.earlier.sound
          (record {
            id = own.is;
            content = own.content;
            flags = own.flags;
            sum = own.sum ∙ ap (λ (i : LspId). lsp_sum (record { life = 0; id = i; seq = h.seq; sum = 0; flags = h.flags }) tlvs) own.is
                ∙ ap (λ (f : ℕ). lsp_sum (record { life = 0; id = fragment_0 r.system; seq = h.seq; sum = 0; flags = f }) tlvs) own.flags
                ∙ ap (λ (l : List ℕ). lsp_sum (record { life = 0; id = fragment_0 r.system; seq = h.seq; sum = 0; flags = own_flags r }) l) own.content;
          })
          low fresh
      by (inr dead) =
          let low : h.seq < 2 ^ 32 = omega (arith, t.seq) in
          let sum : h.sum < 2 ^ 16 = omega (arith, dead.sum) in
          let flags : h.flags < 256 = omega (arith, dead.flags) in
          dead_fits e (named_fits confs h.id sound t.named) low dead.dead sum flags dead.empty

  source_six : (s : SystemId) → IsSource confs s → length s.0 ≡ 6
  source_six s t = ap (λ (i : SystemId). length i.0) t.is ∙ (sound_among t.router t.among).system.long

  fits_each : (rows : List Summary) → AllByRecursion (IsTrueRow confs) rows → AllByRecursion SummaryFits rows
  fits_each rows all = each_weaker (IsTrueRow confs) SummaryFits (row_fits confs sound) rows all

  pub true_sendable : (p : Pdu) → IsTruePdu confs p → IsSendable p
  true_sendable (LspPdu h tlvs) t = let k = lsp_fits h tlvs t.says in (k.lsp, k.short)
  true_sendable (CsnpPdu source start last tlvs) t =
      let fits = fits_each t.lists.rows t.lists.each in
      let short = rows_short t.lists.rows fits t.lists.few in
      let l = ap (λ (o : List ℕ). length o) t.lists.spelled in
      let room : length tlvs ≤ 1464 = omega (arith, l, short) in
      (record { source_long = source_six source t.source; start_fits = t.start_fits; last_fits = t.last_fits; size = omega (arith, room); tlvs_are = passes_are true tlvs (ap (tlvs_pass true) t.lists.spelled ∙ row_tlvs_pass t.lists.rows fits) }, room)
  true_sendable (PsnpPdu source tlvs) t =
      let fits = fits_each t.lists.rows t.lists.each in
      let short = rows_short t.lists.rows fits t.lists.few in
      let l = ap (λ (o : List ℕ). length o) t.lists.spelled in
      let room : length tlvs ≤ 1480 = omega (arith, l, short) in
      (record { source_long = source_six source t.source; size = omega (arith, room); tlvs_are = passes_are true tlvs (ap (tlvs_pass true) t.lists.spelled ∙ row_tlvs_pass t.lists.rows fits) }, room)
  true_sendable HelloPdu t = absurd t
  true_sendable (OtherPdu number) t = absurd t

-- ---- the frame of a PDU

frame_length : (level : Level) (e : End) (p : Pdu) → length e.own_mac.0 ≡ 6 → length (frame_of level e (ControlItem p)) ≡ 17 + length (pdu level p)
unfolding frame_of
frame_length level e p six =
    let octets = pdu level p in
    let number = 3 + length octets in
    omega (
      arith,
      length-append (ethernet all_routers e.own_mac.0 number) (254 ∷ 254 ∷ 3 ∷ octets),
      length-append all_routers (e.own_mac.0 ++ big_bytes 2 number),
      length-append e.own_mac.0 (big_bytes 2 number),
      six,
    )

abbrev over_link : ℕ → List ℕ → Sent
over_link link octets = record { link = link; octets = octets }

abbrev whole : Cause → Drop
whole why = record { cause = why; set = None }

framed_control : (link : ℕ) (r : Reply) → (framed link r).control ≡ r.control
unfolding framed
framed_control link r = refl

pub end_of_router : (d : DomainConf) → IsConsistent d → (r : RouterConf) (link : ℕ) (e : End) → IsAmong d.routers r → slice_get r.ends link ≡ Some e → IsEnd e
end_of_router d valid r link e among there = each_got IsEnd r.ends link e (sound_of d valid r among).ends there

-- The domain as it started, `old`, has the interfaces; the configurations of now are `confs`.
module _ (old : DomainConf) (start : IsConsistent old) (confs : List RouterConf) (of : AreOf old confs) where
  abbrev d : DomainConf
  d = record old { routers = confs }

  abbrev valid : IsConsistent d
  valid = of.valid

  pub pdu_short : (a : ℕ) (r : RouterConf) (link : ℕ) (e : End) (p : Pdu) → slice_get old.routers a ≡ Some r → slice_get r.ends link ≡ Some e → IsTruePdu confs p → length (frame_over old.routers a link (ControlItem p)) ≤ MOST_FRAME
  pdu_short a r link e p at there t =
      let end_fits = end_of_router old start r link e (record { place = a; there = at }) there in
      let l = ap (λ (octets : List ℕ). length octets) (over_at old.routers a r link e (ControlItem p) (at_self old.routers a r at) there) in
      let m = frame_length r.level e p end_fits.own_mac.octets_are.long in
      let s = sendable_short r.level p (true_sendable confs valid.sound p t) in
      omega (arith, l, m, s)

  -- ---- what a router sends and does

  module _ (b : ℕ) (c : Control) (at : slice_get confs b ≡ Some c.conf) (t : IsTrueControl confs c) where
    here : IsAt old.routers b c.conf
    here = at_now old.routers confs b c.conf of.become at

    pdu_again : (link : ℕ) (e : End) (p : Pdu) → slice_get c.conf.ends link ≡ Some e → IsTruePdu confs p → IsReadBack old.routers confs b None (over_end old.routers b link (ControlItem p))
    pdu_again link e p there true_pdu =
        let end_fits = end_of_router d valid c.conf link e t.among there in
        let sendable = true_sendable confs valid.sound p true_pdu in
        let item : item_sent old.routers confs b None (sent_of old.routers (over_end old.routers b link (ControlItem p))) ≡ ControlItem p =
        ap (item_in confs None) (over_at old.routers b c.conf link e (ControlItem p) here there) ∙ pdu_back d valid c.conf t.among e p sendable end_fits.own_mac.octets_are.long in
        record {
          frame = record { within = end_within old.routers b c.conf link e here there; is = ap (frame_over old.routers b link) (sym item) };
          is = ap (over_end old.routers b link) item;
        }

    frame_same : (r : RouterConf) (link : ℕ) (e : End) (p : Pdu) → IsAt old.routers b r → slice_get r.ends link ≡ Some e → pdu_frame r (slice_get r.ends link) p ≡ frame_over old.routers b link (ControlItem p)
    unfolding frame_of
    frame_same r link e p is there = ap (λ (o : Option End). pdu_frame r o p) there ∙ sym (over_at old.routers b r link e (ControlItem p) is there)

    frames_same : (r : RouterConf) (link : ℕ) (e : End) → IsAt old.routers b r → slice_get r.ends link ≡ Some e → (pdus : List Pdu) → frames_of r link pdus ≡ map (sent_of old.routers) (map (λ p. over_end old.routers b link (ControlItem p)) pdus)
    frames_same r link e is there [] = refl
    frames_same r link e is there (p ∷ pdus) =
        ap (λ (octets : List ℕ). over_link link octets ∷ frames_of r link pdus) (frame_same r link e p is there)
        ∙ ap (λ (l : List Sent). sent_of old.routers (over_end old.routers b link (ControlItem p)) ∷ l) (frames_same r link e is there pdus)

    drops_same : (drops : List Cause) → map (control_lost b) drops ≡ map (drop_line b None []) (map whole drops)
    drops_same [] = refl
    drops_same (why ∷ drops) = ap (λ (l : List DropLine). control_lost b why ∷ l) (drops_same drops)

    reply_framed : (link : ℕ) (e : End) (r : Reply) → slice_get c.conf.ends link ≡ Some e → IsTrueReply confs c r → IsFramed old.routers confs b None [] (framed link r).effects (replied old.routers b link r)
    unfolding framed
    reply_framed link e r there true_reply =
        framed_by old.routers confs b None [] (framed link r).effects (replied old.routers b link r)
        (ap (λ (q : RouterConf). frames_of q link r.sent) true_reply.next.conf ∙ frames_same c.conf link e here there r.sent)
        (each_mapped (IsReadBack old.routers confs b None) (λ p. over_end old.routers b link (ControlItem p)) r.sent
        (each_weaker (IsTruePdu confs) (λ p. IsReadBack old.routers confs b None (over_end old.routers b link (ControlItem p))) (λ p h. pdu_again link e p there h) r.sent true_reply.says))
        refl (drops_same r.drops)

    flooded : (link : ℕ) (e : End) (r : Reply) → slice_get c.conf.ends link ≡ Some e → IsTrueReply confs c r → (next : Control) (f : Effects) → ◌≡◌ {A = Next} (record { control = next; effects = f }) (framed link r) → IsFlooded old.routers confs b link c r next f
    flooded link e r there true_reply next f q = record {
      control = ap (λ (k : Next). k.control) q ∙ framed_control link r;
      framed = subst (λ (g : Effects). IsFramed old.routers confs b None [] g (replied old.routers b link r)) (sym (ap (λ (k : Next). k.effects) q)) (reply_framed link e r there true_reply);
    }

    -- what flooding answers
    pub pdu_reply : (back : ℕ) (p : Pdu) → IsTruePdu confs p → IsTrueReply confs c (on_pdu c back p)
    pdu_reply back p true_pdu = on_pdu_true confs valid.few valid.sound c t.among (own_earlier d valid c.conf t.among) t.kept.control.links (state_of confs c t) back p true_pdu

    pub send_reply : (link : ℕ) → IsTrueReply confs c (send c link)
    send_reply link = send_true confs valid.sound c t.among (state_of confs c t) link

    -- a PDU that arrives
    pub pdu_framed : (a link back : ℕ) (p : Pdu) → link_between old.routers a b ≡ Some link → IsTruePdu confs p → is_up c back ≡ true
        → (next : Control) (f : Effects) → ◌≡◌ {A = Next} (record { control = next; effects = f }) (on_frame c back (frame_over old.routers a link (ControlItem p))) → IsFlooded old.routers confs b back c (on_pdu c back p) next f
    pdu_framed a link back p joined true_pdu up next f q =
        let j = join_of old.routers a b link joined in
        let far = end_found j.near.ends j.far.system link j.toward in
        let among : IsAmong old.routers j.near = record { place = a; there = j.near_at } in
        let end_fits = end_of_router old start j.near link far.at among far.there in
        let level : j.near.level ≡ c.conf.level = sym (alike old start j.near here.there among (record { place = b; there = here.at })).level ∙ here.level in
        let over = over_at old.routers a j.near link far.at (ControlItem p) (at_self old.routers a j.near j.near_at) far.there ∙ ap (λ (l : Level). frame_of l far.at (ControlItem p)) level in
        let near = got_some c.conf.ends back (subst (λ (n : ℕ). back < n) t.kept.control.links (up_within c.flood.up back up)) in
        flooded back near.0 (on_pdu c back p) near.1 (pdu_reply back p true_pdu) next f
        (q ∙ ap (on_frame c back) over ∙ control_taken c back far.at p (true_sendable confs valid.sound p true_pdu) end_fits.own_mac.octets_are.long up)

    -- what is due
    pub send_framed : (link : ℕ) → link < length c.conf.ends → (next : Control) (f : Effects) → ◌≡◌ {A = Next} (record { control = next; effects = f }) (framed link (send c link)) → IsFlooded old.routers confs b link c (send c link) next f
    send_framed link within next f q =
        let near = got_some c.conf.ends link within in
        flooded link near.0 (send c link) near.1 (send_reply link) next f q
