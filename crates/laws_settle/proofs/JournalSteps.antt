-- Gentle events keep the journal, and each router's own LSP the newest.
use Rattle.std.proofs.Common.{◌≡◌, ℕ, ◌+◌, ◌<◌, ◌≤◌, ◌==◌, Bool, true, false, if◌then◌else◌, List, [], ◌∷◌, length, map, slice_get, Some, None, refl, sym, ap, subst, arith}
use Rattle.std.specs.List.{AllByRecursion}
use Rattle.std.proofs.lemmas.Bool.{cond_both, eqb-true}
use Rattle.wire_base.specs.declared.addresses.LspId.{LspId}
use Rattle.wire_base.specs.declared.bsl.Bsl.{Bsl}
use Rattle.wire_base.specs.declared.cause.Cause.{Cause}
use Rattle.wire_base.specs.declared.cause.Cause.TheVariants as cause
use Rattle.wire_base.specs.declared.conf.RouterConf.{RouterConf}
use Rattle.wire_base.specs.declared.entry.Entry.{Entry}
use Rattle.wire_base.specs.model.Control.{Control, fragment_0, own_entry_in, purge, seq_of, summary_of}
use Rattle.wire_base.specs.model.Flooding.{Reply, aged_all, end_down, end_up, is_stale, join, leave, link_down, link_up, on_pdu, quiet, reissue, reissue_unless_spent, relabel, send, send_of, sent_on, tick, wanted}
use Rattle.wire_base.specs.model.Item.{Item, ControlItem, PacketItem}
use Rattle.wire_base.specs.model.Membership.{left, rejoined, relabelled}
use Rattle.wire_base.specs.model.Pdu.{Pdu, LspPdu, CsnpPdu, PsnpPdu, HelloPdu, OtherPdu}
use Rattle.wire_base.specs.model.Tlv.{rows_of}
use Rattle.replay_text.specs.declared.event.Event.{Event}
use Rattle.replay_text.specs.declared.event.Event.TheVariants.{Inject, Take, Lose, Again, Down, Up, Send, Tick, Restart, Relabel, Leave, Join}
use Rattle.domain_model.specs.Faults.{event_fault}
use Rattle.domain_model.specs.Moves.{Made, Sending, inject_made, item_lost, over_end, packet_taken, replied}
use Rattle.domain_model.specs.Step.{Happened, counted, doing, happens, makes, push_all, push_sending, replies, same_world, taken_off, takes, turns}
use Rattle.domain_model.specs.Truth.{EventFits, IsTrueEntry, IsTrueItem, IsTruePdu, IsTruthful, confs_now, head_of}
use Rattle.domain_model.specs.World.{WorldState, peer_place, push_item, queue_at, without_item}
use Rattle.domain_model.proofs.ControlTruth.{row_fits}
use Rattle.domain_model.proofs.EachLaws.{each_from, each_got, each_mapped, each_weaker, fold_keeps}
use Rattle.domain_model.proofs.FloodTruth.{row_true}
use Rattle.domain_model.proofs.QueueLaws.{AllQueues, item_gone, item_pushed}
use Rattle.laws_quiet.specs.Quiet.{lsdb_of}
use Rattle.laws_settle.specs.Fresh.{IsFresh, IsItemOfJournal, IsItemWithin, IsOfJournal, IsOwnNewest, IsPduOfJournal, IsRowOfJournal, IsWithin, number_at}
use Rattle.laws_settle.specs.Gentle.{IsGentle}
use Rattle.laws_settle.proofs.EventCases.{after_again, after_change, after_end, after_inject, after_lose, after_send, after_take}
use Rattle.laws_settle.proofs.JournalIssue.{Journal, Reissues, UpTo, reissue_next, unless_next}
use Rattle.laws_settle.proofs.JournalPdu.{IfLsp, IsAnothers, PduBrings, PduTakes, of_wanted, pdu_takes}
use Rattle.laws_settle.proofs.JournalSecond.{second_low, second_number, second_of}
use Rattle.laws_settle.proofs.JournalTurn.{IsCarried, IsKeptBy, carried_step, carries, issued_step, newest_at, number_left, same_step, told_at, true_at, unspent_then, up_to}
use Rattle.laws_settle.proofs.PacketSends.{inject_packets, taken_packets}
use Rattle.laws_settle.proofs.SentPdus.{EntrySays, PduSays, sends_say}

-- ---- what a PDU may bring

brings_of : (journal : Journal) (p : Pdu) → IsPduOfJournal journal p → IfLsp (λ h. 0 < h.seq) p → PduBrings (λ e. IsOfJournal journal (head_of e) e.content) p
brings_of journal (LspPdu h tlvs) of some =
    let lives = of.live some in
    cond_both (h.life == 0) (purge h.id h.seq) (record { id = h.id; seq = h.seq; life = h.life; hold = 0; sum = h.sum; flags = h.flags; content = tlvs }) (λ (e : Entry). IsOfJournal journal (head_of e) e.content)
    (λ dead. absurd (let z = eqb-true h.life 0 dead in omega (arith, z, lives))) (λ live. of)
brings_of journal (CsnpPdu source start last tlvs) of some = each_from (λ s. IsOfJournal journal (head_of (wanted s)) []) (of_wanted journal) (rows_of tlvs)
brings_of journal (PsnpPdu source tlvs) of some = each_from (λ s. IsOfJournal journal (head_of (wanted s)) []) (of_wanted journal) (rows_of tlvs)
brings_of journal HelloPdu of some = tt
brings_of journal (OtherPdu number) of some = tt

brings_low : (id : LspId) (n : ℕ) (most : LspId → ℕ) → most id ≤ n → (p : Pdu) → IsWithin most p → PduBrings (UpTo id n) p
brings_low id n most bound (LspPdu h tlvs) low =
    cond_both (h.life == 0) (purge h.id h.seq) (record { id = h.id; seq = h.seq; life = h.life; hold = 0; sum = h.sum; flags = h.flags; content = tlvs }) (UpTo id n) (λ dead is. below is) (λ live is. below is)
  where
    below : h.id ≡ id → h.seq ≤ n
    below is = let same = ap most is in omega (arith, same, low, bound)
brings_low id n most bound (CsnpPdu source start last tlvs) low = each_from (λ s. UpTo id n (wanted s)) (λ s is. omega arith) (rows_of tlvs)
brings_low id n most bound (PsnpPdu source tlvs) low = each_from (λ s. UpTo id n (wanted s)) (λ s is. omega arith) (rows_of tlvs)
brings_low id n most bound HelloPdu low = tt
brings_low id n most bound (OtherPdu number) low = tt

pub lsp_some : (confs : List RouterConf) (p : Pdu) → IsTruePdu confs p → IfLsp (λ h. 0 < h.seq) p
lsp_some confs (LspPdu h tlvs) says = says.some
lsp_some confs other says = tt

pub lsp_anothers : (confs : List RouterConf) (own : LspId) (n : ℕ) (most : LspId → ℕ) → most own ≤ n → (p : Pdu) → IsTruePdu confs p → IsWithin most p → IfLsp (IsAnothers own n) p
lsp_anothers confs own n most bound (LspPdu h tlvs) says low =
    record { some = says.some; system = says.says.named.router.system; is = says.says.named.is; low = λ is. (let same = ap most is in omega (arith, same, low, bound)) }
lsp_anothers confs own n most bound other says low = tt

-- ---- what a router does by itself

down_is : (c : Control) (link : ℕ) → (end_down c link).control ≡ reissue_unless_spent (record c { flood = link_down c.flood link })
unfolding end_down
down_is c link = refl

up_is : (c : Control) (link : ℕ) → (end_up c link).control ≡ reissue_unless_spent (record c { flood = link_up c.flood c.entries link })
unfolding end_up
up_is c link = refl

relabel_is : (c : Control) (sd : ℕ) (bsl : Bsl) (label : ℕ) → (relabel c sd bsl label).control ≡ reissue_unless_spent (record c { conf = relabelled c.conf sd bsl label })
unfolding relabel
relabel_is c sd bsl label = refl

leave_is : (c : Control) (sd : ℕ) → (leave c sd).control ≡ reissue_unless_spent (record c { conf = left c.conf sd })
unfolding leave
leave_is c sd = refl

join_is : (c : Control) (sd : ℕ) → (join c sd).control ≡ reissue_unless_spent (record c { conf = rejoined c.conf sd })
unfolding join
join_is c sd = refl

relabelled_system : (r : RouterConf) (sd : ℕ) (bsl : Bsl) (label : ℕ) → (relabelled r sd bsl label).system ≡ r.system
unfolding relabelled
relabelled_system r sd bsl label = refl

left_system : (r : RouterConf) (sd : ℕ) → (left r sd).system ≡ r.system
unfolding left
left_system r sd = refl

rejoined_system : (r : RouterConf) (sd : ℕ) → (rejoined r sd).system ≡ r.system
unfolding rejoined
rejoined_system r sd = refl

send_control : (c : Control) (link : ℕ) → (send c link).control ≡ record c { flood = sent_on c.flood link }
unfolding send
send_control c link = refl

send_sent : (c : Control) (link : ℕ) → (send c link).sent ≡ send_of c link
unfolding send
send_sent c link = refl

-- ---- the events

module _ (w : WorldState) (t : IsTruthful w) (f : IsFresh w) where
  abbrev Kept : Happened → Type 0
  Kept n = IsKeptBy (counted n).world

  abbrev Of : ℕ → ℕ → Item → Type 0
  Of a link x = IsItemOfJournal f.journal x

  items : AllQueues Of w.flights
  items = f.journaled.items

  pushed : (sendings : List Sending) (flights : List (List (List Item))) → AllByRecursion (λ s. IsItemOfJournal f.journal s.item) sendings → AllQueues Of flights → AllQueues Of (push_all flights sendings)
  pushed sendings flights all before =
      fold_keeps (AllQueues Of) (λ (s : Sending). IsItemOfJournal f.journal s.item) push_sending (λ g s h k. item_pushed Of g s.from s.link s.item h k) sendings flights all before

  same : Kept (same_world w)
  same = same_step w t f (counted (same_world w)).world refl refl items

  made : (u : WorldState) (m : Made) → u.routers ≡ w.routers → u.events ≡ w.events → AllQueues Of u.flights → AllByRecursion (λ s. IsItemOfJournal f.journal s.item) m.sent → Kept (makes u m)
  made u m routers events before all = same_step w t f (counted (makes u m)).world routers (ap (λ n. n + 1) events) (pushed m.sent u.flights all before)

  lost_none : (b : ℕ) (why : Cause) (x : Item) → AllByRecursion (λ (s : Sending). IsItemOfJournal f.journal s.item) (item_lost b why x).sent
  lost_none b why (ControlItem p) = tt
  lost_none b why (PacketItem x) = tt

  gone : (a link i : ℕ) → AllQueues Of (without_item w.flights a link i)
  gone a link i = item_gone Of w.flights a link i items

  -- ---- what arrives

  module _ (a link i b : ℕ) (c : Control) (at : slice_get w.routers b ≡ Some c) where
    module _ (p : Pdu) (there : slice_get (queue_at w.flights a link) i ≡ Some (ControlItem p)) where
      says : IsTruePdu (confs_now w) p
      says = each_got (IsTrueItem (confs_now w) w.injections (peer_place w.domain.routers a link)) (queue_at w.flights a link) i (ControlItem p) (t.items a link) there

      of : IsPduOfJournal f.journal p
      of = each_got (IsItemOfJournal f.journal) (queue_at w.flights a link) i (ControlItem p) (items a link) there

      low : IsWithin (number_at w a) p
      low = each_got (IsItemWithin (number_at w a)) (queue_at w.flights a link) i (ControlItem p) (f.behind a link) there

      abbrev newest : IsOwnNewest w c
      newest = newest_at w t f b c at

      -- an LSP that arrives is not above the router's own
      pub arriving : IfLsp (IsAnothers (fragment_0 c.conf.system) newest.entry.seq) p
      arriving = lsp_anothers (confs_now w) (fragment_0 c.conf.system) newest.entry.seq (number_at w a) (newest.newest a) p says low

      taking : (back : ℕ) (P : Entry → Type 0) → PduBrings P p → PduTakes c P (on_pdu c back p)
      taking back P brings = pdu_takes f.journal c (told_at w t f b c at) (true_at w t f b c at).kept.control.own newest.entry newest.own P back p of arriving brings

      taken_of : (back : ℕ) → PduTakes c (λ e. IsOfJournal f.journal (head_of e) e.content) (on_pdu c back p)
      taken_of back = taking back (λ e. IsOfJournal f.journal (head_of e) e.content) (brings_of f.journal p of (lsp_some (confs_now w) p says))

      pdu_carried : (back : ℕ) → IsCarried w t f c (on_pdu c back p).control
      pdu_carried back =
          let k = taken_of back in
          record {
            system = ap (λ (r : RouterConf). r.system) k.conf;
            spent = k.spent;
            told = k.takes.each (told_at w t f b c at);
            own = ap seq_of k.takes.own_is;
            within = λ id n bound. (taking back (UpTo id n) (brings_low id n (number_at w a) (bound a) p low)).takes.each (up_to w t f b c at id n bound);
          }

      pdu_arrived : (back : ℕ) → Kept (replies (taken_off w a link i) b back (on_pdu c back p))
      pdu_arrived back =
          let r = on_pdu c back p in
          let none : AllByRecursion (λ (s : Sending). IsItemOfJournal f.journal s.item) (replied w.domain.routers b back r).sent =
          subst (λ (ps : List Pdu). AllByRecursion (λ (s : Sending). IsItemOfJournal f.journal s.item) (map (λ q. over_end w.domain.routers b back (ControlItem q)) ps)) (sym (taken_of back).none) tt in
          carried_step w t f b c at r.control (pdu_carried back) (counted (replies (taken_off w a link i) b back r)).world refl refl
          (pushed (replied w.domain.routers b back r).sent (without_item w.flights a link i) none (gone a link i))

  -- ---- what a router does by itself

  module _ (a : ℕ) (c : Control) (at : slice_get w.routers a ≡ Some c) where
    -- it originates its own LSP anew
    anew : (d : Control) → d.conf.system ≡ c.conf.system → d.spent ≡ c.spent → d.entries ≡ c.entries → (r : Reply) → r.control ≡ reissue_unless_spent d → Kept (turns w a r)
    anew d system spent entries r is =
        let k = carries w t f a c at d system spent entries in
        issued_step w t f a c at d k r.control (subst (Reissues d) (sym is) (unless_next d (unspent_then w t f a c at d k) (number_left w t f a c at d k))) (counted (turns w a r)).world refl refl refl

    entry_says : (e : Entry) → IsTrueEntry (confs_now w) e → IsOfJournal f.journal (head_of e) e.content → EntrySays (IsOfJournal f.journal) (IsRowOfJournal f.journal) e
    entry_says e true_e of_e = record { lsp = of_e; row = record { live = of_e.live; sum = of_e.sum }; fits = row_fits (confs_now w) t.now.sound (summary_of e) (row_true (confs_now w) (head_of e) e.content true_e) }

    entries_say : (es : List Entry) → AllByRecursion (IsTrueEntry (confs_now w)) es → AllByRecursion (λ e. IsOfJournal f.journal (head_of e) e.content) es → AllByRecursion (EntrySays (IsOfJournal f.journal) (IsRowOfJournal f.journal)) es
    entries_say [] true_es of_es = tt
    entries_say (e ∷ es) true_es of_es = (entry_says e true_es.0 of_es.0, entries_say es true_es.1 of_es.1)

    pdu_of : (p : Pdu) → PduSays (IsOfJournal f.journal) (IsRowOfJournal f.journal) p → IsPduOfJournal f.journal p
    pdu_of HelloPdu h_says = tt
    pdu_of (OtherPdu number) h_says = tt
    pdu_of other h_says = h_says

    sent : (link : ℕ) → Kept (replies w a link (send c link))
    sent link =
        let r = send c link in
        let d_is = send_control c link in
        let k = carries w t f a c at r.control (ap (λ (x : Control). x.conf.system) d_is) (ap (λ (x : Control). x.spent) d_is) (ap (λ (x : Control). x.entries) d_is) in
        let says_all : AllByRecursion (PduSays (IsOfJournal f.journal) (IsRowOfJournal f.journal)) r.sent =
        subst (AllByRecursion (PduSays (IsOfJournal f.journal) (IsRowOfJournal f.journal))) (sym (send_sent c link))
        (sends_say (IsOfJournal f.journal) (IsRowOfJournal f.journal) c (entries_say c.entries (true_at w t f a c at).entries (told_at w t f a c at)) link) in
        carried_step w t f a c at r.control k (counted (replies w a link r)).world refl refl
        (pushed (replied w.domain.routers a link r).sent w.flights
        (each_mapped (λ (s : Sending). IsItemOfJournal f.journal s.item) (λ p. over_end w.domain.routers a link (ControlItem p)) r.sent
        (each_weaker (PduSays (IsOfJournal f.journal) (IsRowOfJournal f.journal)) (IsPduOfJournal f.journal) pdu_of r.sent says_all)) items)

    -- ---- a second

    module _ (lasts : AllByRecursion (λ e. e.life ≡ 1 → ⊥) c.entries) where
      aged_carried : IsCarried w t f c (aged_all c)
      unfolding aged_all
      aged_carried =
          let own = (true_at w t f a c at).kept.own (newest_at w t f a c at).unspent in
          let lives : 300 < own.0.life = own.1.1 in
          record {
            system = refl;
            spent = refl;
            told = second_of f.journal c.entries lasts (told_at w t f a c at);
            own = second_number c.entries (fragment_0 c.conf.system) own.0 (true_at w t f a c at).kept.control.entries.in_order own.1.0 (omega (arith, lives));
            within = λ id n bound. second_low id n c.entries lasts (up_to w t f a c at id n bound);
          }

      refreshed_turn : (stale : Bool) → Kept (turns w a (quiet (if stale then reissue (aged_all c) (seq_of (own_entry_in (aged_all c))) else aged_all c)))
      refreshed_turn true =
          let d = aged_all c in
          issued_step w t f a c at d aged_carried (reissue d (seq_of (own_entry_in d))) (reissue_next d (number_left w t f a c at d aged_carried)) (counted (turns w a (quiet (reissue d (seq_of (own_entry_in d)))))).world refl refl refl
      refreshed_turn false = carried_step w t f a c at (aged_all c) aged_carried (counted (turns w a (quiet (aged_all c)))).world refl refl items

      ticked : Kept (turns w a (tick c))
      unfolding tick
      ticked = refreshed_turn (is_stale (own_entry_in (aged_all c)))

  done : (e : Event) → IsGentle w e → Kept (doing w e)
  done (Inject a sd bsl ks ttl entropy payload) gentle =
      after_inject w Kept same a (λ c. inject_made w.domain.routers a c (w.injections + 1) sd bsl ks ttl entropy payload)
      (λ c. made (record w { injections = w.injections + 1 }) (inject_made w.domain.routers a c (w.injections + 1) sd bsl ks ttl entropy payload) refl refl items
      (inject_packets (IsItemOfJournal f.journal) (λ y. tt) w.domain.routers a c (w.injections + 1) sd bsl ks ttl entropy payload))
  done (Take a b i) gentle =
      after_take w Kept same a b i (λ link back c p toward backward there at up. pdu_arrived a link i b c at p there back)
      (λ link c y. made (taken_off w a link i) (packet_taken w.domain.routers b c y y.outer) refl refl (gone a link i) (taken_packets (IsItemOfJournal f.journal) (λ z. tt) w.domain.routers b c y))
      (λ link x. made (taken_off w a link i) (item_lost b cause.Link x) refl refl (gone a link i) (lost_none b cause.Link x))
  done (Lose a b i) gentle = after_lose w Kept same a b i (λ link x. made (taken_off w a link i) (item_lost b cause.Lost x) refl refl (gone a link i) (lost_none b cause.Lost x))
  done (Again a b i) gentle =
      after_again w Kept same a b i
      (λ link p there. same_step w t f (counted (same_world (record w { flights = push_item w.flights a link (ControlItem p) }))).world refl refl
      (item_pushed Of w.flights a link (ControlItem p) (each_got (IsItemOfJournal f.journal) (queue_at w.flights a link) i (ControlItem p) (items a link) there) items))
  done (Down a b) gentle = after_end w Kept same a b end_down (λ c link at toward. anew a c at (record c { flood = link_down c.flood link }) refl refl refl (end_down c link) (down_is c link))
  done (Up a b) gentle = after_end w Kept same a b end_up (λ c link at toward. anew a c at (record c { flood = link_up c.flood c.entries link }) refl refl refl (end_up c link) (up_is c link))
  done (Send a b) gentle = after_send w Kept same a b (λ c link at toward. sent a c at link)
  done (Tick a) gentle = after_change w Kept same a tick (λ c at. ticked a c at (subst (AllByRecursion (λ (e : Entry). e.life ≡ 1 → ⊥)) (ap lsdb_of at) gentle))
  done (Restart a) gentle = absurd gentle
  done (Relabel a sd bsl label) gentle = after_change w Kept same a (λ c. relabel c sd bsl label) (λ c at. anew a c at (record c { conf = relabelled c.conf sd bsl label }) (relabelled_system c.conf sd bsl label) refl refl (relabel c sd bsl label) (relabel_is c sd bsl label))
  done (Leave a sd) gentle = after_change w Kept same a (λ c. leave c sd) (λ c at. anew a c at (record c { conf = left c.conf sd }) (left_system c.conf sd) refl refl (leave c sd) (leave_is c sd))
  done (Join a sd) gentle = after_change w Kept same a (λ c. join c sd) (λ c at. anew a c at (record c { conf = rejoined c.conf sd }) (rejoined_system c.conf sd) refl refl (join c sd) (join_is c sd))

pub kept_step : (w : WorldState) (e : Event) → IsTruthful w → IsFresh w → EventFits (length w.domain.routers) e → event_fault w e ≡ None → IsGentle w e → IsKeptBy (happens w e).world
unfolding happens
kept_step w e t f fits ok gentle = done w t f e gentle
