-- Every gentle event keeps what is in flight from being ahead of its sender, and what is owed marked.
use Rattle.std.proofs.Common.{◌≡◌, ◌⊎◌, inl, inr, ℕ, zero, suc, ◌+◌, ◌<◌, ◌≤◌, true, List, [], ◌∷◌, length, slice_get, slice_set, Option, Some, refl, sym, ap, subst, ◌∙◌, arith}
use Rattle.std.specs.List.{AllByRecursion}
use Rattle.std.proofs.lemmas.Option.{same_Some}
use Rattle.wire_base.specs.declared.addresses.LspId.{LspId}
use Rattle.wire_base.specs.declared.cause.Cause.{Cause}
use Rattle.wire_base.specs.declared.cause.Cause.TheVariants as cause
use Rattle.wire_base.specs.declared.conf.End.{End}
use Rattle.wire_base.specs.declared.conf.RouterConf.{RouterConf}
use Rattle.wire_base.specs.declared.entry.Entry.{Entry}
use Rattle.wire_base.specs.declared.triple.Summary.{Summary}
use Rattle.wire_base.specs.model.Control.{Control, entry_in, seq_of, summary_of}
use Rattle.wire_base.specs.model.Flooding.{Reply, end_down, end_up, join, leave, on_pdu, relabel, send, send_of, tick}
use Rattle.wire_base.specs.model.Item.{Item, ControlItem, PacketItem}
use Rattle.wire_base.specs.model.Pdu.{Pdu, LspPdu, CsnpPdu, PsnpPdu, HelloPdu, OtherPdu}
use Rattle.wire_base.specs.model.Tlv.{rows_of}
use Rattle.replay_text.specs.declared.event.Event.{Event}
use Rattle.replay_text.specs.declared.event.Event.TheVariants.{Inject, Take, Lose, Again, Down, Up, Send, Tick, Restart, Relabel, Leave, Join}
use Rattle.domain_model.specs.Moves.{Made, Sending, inject_made, item_lost, over_end, packet_taken, replied}
use Rattle.domain_model.specs.Step.{Happened, doing, happens, makes, push_sending, replies, taken_off, turns, with_router}
use Rattle.domain_model.specs.Truth.{IsTrueControl, IsTrueEntry, IsTruthful, confs_now, head_of}
use Rattle.domain_model.specs.World.{WorldState, is_up, link_between, peer_place, queue_at}
use Rattle.domain_model.proofs.ControlTruth.{row_fits}
use Rattle.domain_model.proofs.EachLaws.{each_both, each_got, each_mapped, each_weaker, fold_keeps}
use Rattle.domain_model.proofs.FlagLaws.{each_is_found}
use Rattle.domain_model.proofs.FloodTruth.{row_true}
use Rattle.domain_model.proofs.LaterTruth.{set_there}
use Rattle.domain_model.proofs.LinkLaws.{become_at, end_found, join_of, peer_is}
use Rattle.domain_model.proofs.QueueLaws.{AllQueues, get_mapped, got_within, item_gone, item_pushed}
use Rattle.laws_quiet.specs.Quiet.{lsdb_at, lsdb_of}
use Rattle.laws_settle.specs.Fresh.{AreOfJournal, IsFresh, IsItemOfJournal, IsItemWithin, IsNotAhead, IsOfJournal, IsOwed, IsWithin, Owes, number_at, number_in}
use Rattle.laws_settle.specs.Gentle.{IsGentle}
use Rattle.laws_settle.proofs.ControlOwes.{IsNext, down_next, join_next, leave_next, pdu_next, pdu_silent, relabel_next, sent_next, tick_next, up_next}
use Rattle.laws_settle.proofs.EventCases.{after_again, after_change, after_end, after_inject, after_lose, after_send, after_take}
use Rattle.laws_settle.proofs.Exchange.{router_is}
use Rattle.laws_settle.proofs.PacketSends.{inject_packets, taken_packets}
use Rattle.laws_settle.proofs.SentPdus.{EntrySays, PduSays, sends_say}

-- ---- lists

-- what is read of a list in which one element was replaced
pub got_set : {X : Type 0} (xs : List X) (i j : ℕ) (x y : X) → slice_get xs i ≡ Some y → (slice_get (slice_set xs i x) j ≡ slice_get xs j) ⊎ ((i ≡ j) × (slice_get (slice_set xs i x) j ≡ Some x))
got_set [] i j x y at = cc
got_set (z ∷ zs) zero zero x y at = inr (refl, refl)
got_set (z ∷ zs) zero (suc j) x y at = inl refl
got_set (z ∷ zs) (suc i) zero x y at = inl refl
got_set (z ∷ zs) (suc i) (suc j) x y at = elim (got_set zs i j x y at) [
  | inl same ↦ inl same
  | inr new ↦ inr (ap suc new.0, new.1)
]

-- ---- sequence numbers that rise

within_more : (most more : LspId → ℕ) → ((id : LspId) → most id ≤ more id) → (p : Pdu) → IsWithin most p → IsWithin more p
within_more most more rise (LspPdu h tlvs) w = let r = rise h.id in omega (arith, r, w)
within_more most more rise (CsnpPdu source start last tlvs) w = each_weaker (λ (s : Summary). s.seq ≤ most s.id) (λ (s : Summary). s.seq ≤ more s.id) (λ s h. (let r = rise s.id in omega (arith, r, h))) (rows_of tlvs) w
within_more most more rise (PsnpPdu source tlvs) w = each_weaker (λ (s : Summary). s.seq ≤ most s.id) (λ (s : Summary). s.seq ≤ more s.id) (λ s h. (let r = rise s.id in omega (arith, r, h))) (rows_of tlvs) w
within_more most more rise other w = tt

item_more : (most more : LspId → ℕ) → ((id : LspId) → most id ≤ more id) → (x : Item) → IsItemWithin most x → IsItemWithin more x
item_more most more rise (ControlItem p) w = within_more most more rise p w
item_more most more rise (PacketItem x) w = tt

owes_more : (c : Control) (id : LspId) (link least more : ℕ) → least ≤ more → Owes c id link least → Owes c id link more
owes_more c id link least more rise o up above = o up (omega (arith, rise, above))

-- ---- one router changed, and items sent

-- a world after one in which no sequence number of an LSDB was higher
pub record IsSettling (first w : WorldState) : Type 0 where
  pub behind : IsNotAhead w
  pub owed : IsOwed w
  pub rise : (a : ℕ) (id : LspId) → number_at first a id ≤ number_at w a id

abbrev NextOf : WorldState → ℕ → Control → Control → Type 0
NextOf w a c d = (id : LspId) (link : ℕ) → Owes c id link (number_at w (peer_place w.domain.routers a link) id) → IsNext id link (number_at w (peer_place w.domain.routers a link) id) c.entries d

module _ (first w : WorldState) (s : IsSettling first w) where
  module _ (a : ℕ) (c d : Control) (at : slice_get w.routers a ≡ Some c) (next : NextOf w a c d) where
    next_at : (id : LspId) (link : ℕ) → IsNext id link (number_at w (peer_place w.domain.routers a link) id) c.entries d
    next_at id link = next id link (s.owed a link c id at)

    numbers_rise : (b : ℕ) (id : LspId) → number_at w b id ≤ number_at (with_router w a d) b id
    numbers_rise b id = elim (got_set w.routers a b d c at) [
      | inl same ↦ (let n : number_at (with_router w a d) b id ≡ number_at w b id = ap (λ (o : Option Control). number_in (lsdb_of o) id) same in omega (arith, n))
      | inr new ↦
          let n : number_at (with_router w a d) b id ≡ number_in d.entries id = ap (λ (o : Option Control). number_in (lsdb_of o) id) new.1 in
          let m : number_at w b id ≡ number_in c.entries id = ap (λ (o : Option Control). number_in (lsdb_of o) id) (ap (slice_get w.routers) (sym new.0) ∙ at) in
          let rise = (next_at id 0).numbers id in
          omega (arith, n, m, rise)
    ]

    owed_next : IsOwed (with_router w a d)
    owed_next x link e id there =
        let far = peer_place w.domain.routers x link in
        elim (got_set w.routers a x d c at) [
          | inl same ↦ owes_more e id link (number_at w far id) (number_at (with_router w a d) far id) (numbers_rise far id) (s.owed x link e id (sym same ∙ there))
          | inr new ↦
              let is : d ≡ e = same_Some d e (sym new.1 ∙ there) in
              let here : Owes d id link (number_at w (peer_place w.domain.routers a link) id) = (next_at id link).owes in
              let moved : Owes e id link (number_at w far id) = subst (λ (n : ℕ). Owes e id link (number_at w (peer_place w.domain.routers n link) id)) new.0 (subst (λ (z : Control). Owes z id link (number_at w (peer_place w.domain.routers a link) id)) is here) in
              owes_more e id link (number_at w far id) (number_at (with_router w a d) far id) (numbers_rise far id) moved
        ]

    router_settling : IsSettling first (with_router w a d)
    router_settling = record {
      behind = λ b link. each_weaker (IsItemWithin (number_at w b)) (IsItemWithin (number_at (with_router w a d) b)) (item_more (number_at w b) (number_at (with_router w a d) b) (numbers_rise b)) (queue_at w.flights b link) (s.behind b link);
      owed = owed_next;
      rise = λ b id. (let m = s.rise b id in let n = numbers_rise b id in omega (arith, m, n));
    }

  makes_settling : (m : Made) → AllByRecursion (λ (x : Sending). IsItemWithin (number_at w x.from) x.item) m.sent → IsSettling first (makes w m).world
  makes_settling m all = record {
    behind = fold_keeps (AllQueues P) (λ (x : Sending). IsItemWithin (number_at w x.from) x.item) push_sending (λ f x h k. item_pushed P f x.from x.link x.item h k) m.sent w.flights all s.behind;
    owed = s.owed;
    rise = s.rise;
  }
    where
      P : ℕ → ℕ → Item → Type 0
      P a link = IsItemWithin (number_at w a)

  gone_settling : (a link i : ℕ) → IsSettling first (taken_off w a link i)
  gone_settling a link i = record { behind = item_gone (λ b l. IsItemWithin (number_at w b)) w.flights a link i s.behind; owed = s.owed; rise = s.rise }

-- what is sent without a PDU
lost_settling : (first w : WorldState) (s : IsSettling first w) (b : ℕ) (why : Cause) (x : Item) → IsSettling first (makes w (item_lost b why x)).world
lost_settling first w s b why (ControlItem p) = makes_settling first w s (item_lost b why (ControlItem p)) tt
lost_settling first w s b why (PacketItem x) = makes_settling first w s (item_lost b why (PacketItem x)) tt

packets_settling : (first w : WorldState) (s : IsSettling first w) (m : Made) → AllByRecursion (λ (x : Sending). (most : LspId → ℕ) → IsItemWithin most x.item) m.sent → IsSettling first (makes w m).world
packets_settling first w s m all = makes_settling first w s m (each_weaker (λ (x : Sending). (most : LspId → ℕ) → IsItemWithin most x.item) (λ (x : Sending). IsItemWithin (number_at w x.from) x.item) (λ x h. h (number_at w x.from)) m.sent all)

-- PDUs that are not ahead of what the router has then
replies_settling : (first w : WorldState) (s : IsSettling first w) (a link : ℕ) (c : Control) (r : Reply) → slice_get w.routers a ≡ Some c → NextOf w a c r.control → AllByRecursion (IsWithin (number_in r.control.entries)) r.sent → IsSettling first (replies w a link r).world
replies_settling first w s a link c r at next all =
    makes_settling first (with_router w a r.control) (router_settling first w s a c r.control at next) (replied w.domain.routers a link r)
    (each_mapped (λ (x : Sending). IsItemWithin (number_at (with_router w a r.control) x.from) x.item) (λ p. over_end w.domain.routers a link (ControlItem p)) r.sent
    (each_weaker (IsWithin (number_in r.control.entries)) (IsWithin (number_at (with_router w a r.control) a)) (λ p h. subst (λ (es : List Entry). IsWithin (number_in es) p) (sym entries) h) r.sent all))
  where
    entries : lsdb_at (with_router w a r.control) a ≡ r.control.entries
    entries = ap lsdb_of (set_there w.routers a c r.control at)

-- ---- events

module _ (w : WorldState) (t : IsTruthful w) (fresh : IsFresh w) where
  start : IsSettling w w
  start = record { behind = fresh.behind; owed = fresh.owed; rise = λ a id. omega arith }

  turned : (a : ℕ) (c : Control) (r : Reply) → slice_get w.routers a ≡ Some c → NextOf w a c r.control → IsSettling w (turns w a r).world
  turned a c r at next = router_settling w w start a c r.control at next

  -- ---- what arrives

  arrived : (a b i link back : ℕ) (c : Control) (p : Pdu) → link_between w.domain.routers b a ≡ Some back → slice_get (queue_at w.flights a link) i ≡ Some (ControlItem p) → slice_get w.routers b ≡ Some c → is_up c back ≡ true
      → IsSettling w (replies (taken_off w a link i) b back (on_pdu c back p)).world
  arrived a b i link back c p toward there at up =
      replies_settling w (taken_off w a link i) (gone_settling w w start a link i) b back c (on_pdu c back p) at
      (λ id k o. pdu_next id k (number_at w (peer_place w.domain.routers b k) id) c (router_is w t b c at) o back up p (number_at w a) (each_got (IsItemWithin (number_at w a)) (queue_at w.flights a link) i (ControlItem p) (fresh.behind a link) there) (low id k))
      (subst (AllByRecursion (IsWithin (number_in (on_pdu c back p).control.entries))) (sym (pdu_silent c back p fresh.journal (each_got (IsItemOfJournal fresh.journal) (queue_at w.flights a link) i (ControlItem p) (fresh.journaled.items a link) there))) tt)
    where
      low : (id : LspId) (k : ℕ) → back ≡ k → number_at w a id ≤ number_at w (peer_place w.domain.routers b k) id
      low id k same =
          let far : peer_place w.domain.routers b k ≡ a = ap (peer_place w.domain.routers b) (sym same) ∙ peer_is w.domain.routers t.valid.consistent.systems b a back toward in
          let n : number_at w (peer_place w.domain.routers b k) id ≡ number_at w a id = ap (λ (m : ℕ). number_at w m id) far in
          omega (arith, n)

  -- ---- what a router does by itself

  module _ (a : ℕ) where
    -- each entry is what the LSDB has of its LSP ID
    entry_says : (c : Control) → slice_get w.routers a ≡ Some c → AllByRecursion (EntrySays (λ h tlvs. h.seq ≤ number_in c.entries h.id) (λ s. s.seq ≤ number_in c.entries s.id)) c.entries
    entry_says c at =
        let k = each_got (IsTrueControl (confs_now w)) w.routers a c t.controls at in
        each_weaker (λ e. IsTrueEntry (confs_now w) e × (entry_in c.entries e.id ≡ Some e)) (EntrySays (λ h tlvs. h.seq ≤ number_in c.entries h.id) (λ s. s.seq ≤ number_in c.entries s.id))
        (λ e h.
        let n : number_in c.entries e.id ≡ e.seq = ap seq_of h.1 in
        record { lsp = omega (arith, n); row = omega (arith, n); fits = row_fits (confs_now w) t.now.sound (summary_of e) (row_true (confs_now w) (head_of e) e.content h.0) })
        c.entries
        (each_both (IsTrueEntry (confs_now w)) (λ e. entry_in c.entries e.id ≡ Some e) c.entries k.entries (each_is_found c.entries k.kept.control.entries.in_order))

    sent_within : (c : Control) → slice_get w.routers a ≡ Some c → (link : ℕ) → AllByRecursion (IsWithin (number_in c.entries)) (send_of c link)
    sent_within c at link =
        each_weaker (PduSays (λ h tlvs. h.seq ≤ number_in c.entries h.id) (λ s. s.seq ≤ number_in c.entries s.id)) (IsWithin (number_in c.entries)) says (send_of c link)
        (sends_say (λ h tlvs. h.seq ≤ number_in c.entries h.id) (λ s. s.seq ≤ number_in c.entries s.id) c (entry_says c at) link)
      where
        says : (p : Pdu) → PduSays (λ h tlvs. h.seq ≤ number_in c.entries h.id) (λ s. s.seq ≤ number_in c.entries s.id) p → IsWithin (number_in c.entries) p
        says HelloPdu k = tt
        says (OtherPdu number) k = tt
        says other k = k

    sent_all : (c : Control) → slice_get w.routers a ≡ Some c → (link : ℕ) → AllByRecursion (IsWithin (number_in (send c link).control.entries)) (send c link).sent
    unfolding send
    sent_all c at link = sent_within c at link

    -- the interface that comes up is one of the router's
    end_within : (c : Control) (b link : ℕ) → slice_get w.routers a ≡ Some c → link_between w.domain.routers a b ≡ Some link → link < length c.flood.up
    end_within c b link at joined =
        let j = join_of w.domain.routers a b link joined in
        let become = become_at w.domain.routers (confs_now w) a j.near c.conf t.become j.near_at (get_mapped (λ (x : Control). x.conf) w.routers a c at) in
        let there = end_found j.near.ends j.far.system link j.toward in
        let within : link < length c.conf.ends = subst (λ (es : List End). link < length es) (sym (ap (λ (r : RouterConf). r.ends) become.one)) (got_within j.near.ends link there.at there.there) in
        let long = (router_is w t a c at).control.links in
        omega (arith, within, long)

  abbrev Settles : Happened → Type 0
  Settles n = IsSettling w n.world

  done : (e : Event) → IsGentle w e → Settles (doing w e)
  done (Inject a sd bsl ks ttl entropy payload) gentle =
      after_inject w Settles start a (λ c. inject_made w.domain.routers a c (w.injections + 1) sd bsl ks ttl entropy payload)
      (λ c. packets_settling w (record w { injections = w.injections + 1 }) (record { behind = fresh.behind; owed = fresh.owed; rise = λ b id. omega arith }) (inject_made w.domain.routers a c (w.injections + 1) sd bsl ks ttl entropy payload)
      (inject_packets (λ (y : Item). (most : LspId → ℕ) → IsItemWithin most y) (λ y most. tt) w.domain.routers a c (w.injections + 1) sd bsl ks ttl entropy payload))
  done (Take a b i) gentle =
      after_take w Settles start a b i
      (λ link back c p toward backward there at up. arrived a b i link back c p backward there at up)
      (λ link c y. packets_settling w (taken_off w a link i) (gone_settling w w start a link i) (packet_taken w.domain.routers b c y y.outer) (taken_packets (λ (z : Item). (most : LspId → ℕ) → IsItemWithin most z) (λ z most. tt) w.domain.routers b c y))
      (λ link x. lost_settling w (taken_off w a link i) (gone_settling w w start a link i) b cause.Link x)
  done (Lose a b i) gentle = after_lose w Settles start a b i (λ link x. lost_settling w (taken_off w a link i) (gone_settling w w start a link i) b cause.Lost x)
  done (Again a b i) gentle =
      after_again w Settles start a b i
      (λ link p there. record {
        behind = item_pushed (λ b l. IsItemWithin (number_at w b)) w.flights a link (ControlItem p) (each_got (IsItemWithin (number_at w a)) (queue_at w.flights a link) i (ControlItem p) (fresh.behind a link) there) fresh.behind;
        owed = fresh.owed;
        rise = λ x id. omega arith;
      })
  done (Down a b) gentle = after_end w Settles start a b end_down (λ c link at toward. turned a c (end_down c link) at (λ id k o. down_next id k (number_at w (peer_place w.domain.routers a k) id) c (router_is w t a c at) o link))
  done (Up a b) gentle = after_end w Settles start a b end_up (λ c link at toward. turned a c (end_up c link) at (λ id k o. up_next id k (number_at w (peer_place w.domain.routers a k) id) c (router_is w t a c at) o link (end_within a c b link at toward)))
  done (Send a b) gentle =
      after_send w Settles start a b
      (λ c link at toward. replies_settling w w start a link c (send c link) at (λ id k o. sent_next id k (number_at w (peer_place w.domain.routers a k) id) c (router_is w t a c at) o link) (sent_all a c at link))
  done (Tick a) gentle =
      after_change w Settles start a tick
      (λ c at. turned a c (tick c) at
      (λ id k o. tick_next id k (number_at w (peer_place w.domain.routers a k) id) c (router_is w t a c at) o
      (each_weaker (λ e. IsOfJournal fresh.journal (head_of e) e.content) (λ e. 0 < e.seq → 0 < e.life) (λ e h. h.live) c.entries (each_got (λ x. AreOfJournal fresh.journal x.entries) w.routers a c fresh.journaled.entries at))
      (subst (λ (es : List Entry). AllByRecursion (λ e. e.life ≡ 1 → ⊥) es) (ap lsdb_of at) gentle)))
  done (Restart a) gentle = absurd gentle
  done (Relabel a sd bsl label) gentle = after_change w Settles start a (λ c. relabel c sd bsl label) (λ c at. turned a c (relabel c sd bsl label) at (λ id k o. relabel_next id k (number_at w (peer_place w.domain.routers a k) id) c (router_is w t a c at) o sd bsl label))
  done (Leave a sd) gentle = after_change w Settles start a (λ c. leave c sd) (λ c at. turned a c (leave c sd) at (λ id k o. leave_next id k (number_at w (peer_place w.domain.routers a k) id) c (router_is w t a c at) o sd))
  done (Join a sd) gentle = after_change w Settles start a (λ c. join c sd) (λ c at. turned a c (join c sd) at (λ id k o. join_next id k (number_at w (peer_place w.domain.routers a k) id) c (router_is w t a c at) o sd))

  pub settling_step : (e : Event) → IsGentle w e → IsSettling w (happens w e).world
  unfolding happens
  settling_step e gentle = record { behind = (done e gentle).behind; owed = (done e gentle).owed; rise = (done e gentle).rise }
