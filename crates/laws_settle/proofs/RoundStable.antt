-- Traffic brings a router no higher sequence number of an LSP than it or a neighbor had.
use Rattle.std.proofs.Common.{◌≡◌, ◌⊎◌, inl, inr, ℕ, ◌+◌, ◌<◌, ◌≤◌, ◌==◌, true, List, slice_get, slice_set, Option, Some, None, refl, sym, ap, subst, ◌∙◌, arith}
use Rattle.std.specs.List.{AllByRecursion}
use Rattle.std.proofs.lemmas.Bool.{cases_lt, cond_both}
use Rattle.wire_base.specs.declared.addresses.LspId.{LspId}
use Rattle.wire_base.specs.declared.entry.Entry.{Entry}
use Rattle.wire_base.specs.model.Control.{Control, entry_in, fragment_0, purge, seq_of}
use Rattle.wire_base.specs.model.Flooding.{on_pdu, send, wanted}
use Rattle.wire_base.specs.model.Item.{ControlItem}
use Rattle.wire_base.specs.model.Pdu.{Pdu, LspPdu, CsnpPdu, PsnpPdu, HelloPdu, OtherPdu}
use Rattle.wire_base.specs.model.Tlv.{rows_of}
use Rattle.router_core.proofs.KeepLaws.{sent_entries}
use Rattle.replay_text.specs.declared.event.Event.{Event}
use Rattle.replay_text.specs.declared.event.Event.TheVariants.{Inject, Take, Lose, Again, Send}
use Rattle.domain_model.specs.Faults.{is_up_toward, up_over}
use Rattle.domain_model.specs.Moves.{inject_made}
use Rattle.domain_model.specs.Step.{Happened, happens, replies, taken_off}
use Rattle.domain_model.specs.Truth.{IsTrueControl, IsTrueItem, IsTruePdu, IsTruthful, confs_now}
use Rattle.domain_model.specs.World.{WorldState, is_up, link_between, peer_place, queue_at}
use Rattle.domain_model.proofs.EachLaws.{each_from, each_got, each_weaker}
use Rattle.domain_model.proofs.FlagLaws.{each_is_found, found_each, found_id, same_id_is}
use Rattle.laws_quiet.specs.Quiet.{lsdb_of}
use Rattle.laws_settle.specs.Fresh.{AreOfJournal, IsFresh, IsItemOfJournal, IsItemWithin, IsOwnNewest, IsPduOfJournal, IsWithin, number_at, number_in}
use Rattle.laws_settle.specs.Gentle.{IsTraffic}
use Rattle.laws_settle.proofs.EventCases.{after_again, after_inject, after_lose, after_send, after_take}
use Rattle.laws_settle.proofs.JournalPdu.{PduBrings, pdu_takes}
use Rattle.laws_settle.proofs.JournalSteps.{lsp_anothers}
use Rattle.laws_settle.proofs.OwedSteps.{got_set}

-- a neighbor has an LSP of that number, over an interface that is up
abbrev pub HasNear : LspId → ℕ → WorldState → ℕ → Type 0
HasNear id n w b = (a : ℕ) × (is_up_toward w b a ≡ true) × (n ≤ number_at w a id)

-- a router has an LSP of that number only if it had before, or a neighbor had
abbrev pub Brings : LspId → ℕ → WorldState → WorldState → Type 0
Brings id n w v = (b : ℕ) → n ≤ number_at v b id → (n ≤ number_at w b id) ⊎ HasNear id n w b

-- ---- a PDU at a router

module _ (id : LspId) (n : ℕ) where
  abbrev IsBelow : Entry → Type 0
  IsBelow e = e.id ≡ id → e.seq < n

  -- what a PDU brings is not above its sender
  below_brought : (most : LspId → ℕ) → most id < n → (p : Pdu) → IsWithin most p → PduBrings IsBelow p
  below_brought most low (LspPdu h tlvs) within =
      cond_both (h.life == 0) (purge h.id h.seq) (record { id = h.id; seq = h.seq; life = h.life; hold = 0; sum = h.sum; flags = h.flags; content = tlvs }) IsBelow (λ dead is. here is) (λ live is. here is)
    where
      here : h.id ≡ id → h.seq < n
      here is = let m : h.seq ≤ most id = subst (λ (i : LspId). h.seq ≤ most i) is within in omega (arith, m, low)
  below_brought most low (CsnpPdu source start last tlvs) within = each_from (λ s. IsBelow (wanted s)) (λ s is. omega (arith, low)) (rows_of tlvs)
  below_brought most low (PsnpPdu source tlvs) within = each_from (λ s. IsBelow (wanted s)) (λ s is. omega (arith, low)) (rows_of tlvs)
  below_brought most low HelloPdu within = tt
  below_brought most low (OtherPdu number) within = tt

  below_number : (es : List Entry) → 0 < n → AllByRecursion IsBelow es → number_in es id < n
  below_number es some all = by (entry_in es id) refl
    where
      by : (o : Option Entry) → entry_in es id ≡ o → seq_of o < n
      by None q = some
      by (Some e) q = found_each IsBelow es id e all q (same_id_is e.id id (found_id es id e q))

module _ (id : LspId) (n : ℕ) (w : WorldState) (t : IsTruthful w) (fresh : IsFresh w) where
  below_here : (b : ℕ) (c : Control) → slice_get w.routers b ≡ Some c → number_in c.entries id < n → AllByRecursion (λ e. e.id ≡ id → e.seq < n) c.entries
  below_here b c at low =
      let k = each_got (IsTrueControl (confs_now w)) w.routers b c t.controls at in
      each_weaker (λ e. entry_in c.entries e.id ≡ Some e) (λ e. e.id ≡ id → e.seq < n) (λ e found is. (let m : number_in c.entries id ≡ e.seq = ap (number_in c.entries) (sym is) ∙ ap seq_of found in omega (arith, m, low))) c.entries (each_is_found c.entries k.kept.control.entries.in_order)

  pdu_stable : (a b back : ℕ) (c : Control) (p : Pdu) → slice_get w.routers b ≡ Some c → IsTruePdu (confs_now w) p → IsPduOfJournal fresh.journal p → IsWithin (number_at w a) p → number_in c.entries id < n → number_at w a id < n → number_in (on_pdu c back p).control.entries id < n
  pdu_stable a b back c p at says told within low far =
      let k = each_got (IsTrueControl (confs_now w)) w.routers b c t.controls at in
      let own = each_got (IsOwnNewest w) w.routers b c fresh.own at in
      let entries = each_got (λ x. AreOfJournal fresh.journal x.entries) w.routers b c fresh.journaled.entries at in
      let takes = pdu_takes fresh.journal c entries k.kept.control.own own.entry own.own (λ e. e.id ≡ id → e.seq < n) back p told (lsp_anothers (confs_now w) (fragment_0 c.conf.system) own.entry.seq (number_at w a) (own.newest a) p says within) (below_brought id n (number_at w a) far p within) in
      below_number id n (on_pdu c back p).control.entries (omega (arith, low)) (takes.takes.each (below_here b c at low))

-- ---- an event

module _ (id : LspId) (n : ℕ) (w : WorldState) (t : IsTruthful w) (fresh : IsFresh w) where
  set_brings : (b : ℕ) (c d : Control) (v : WorldState) → slice_get w.routers b ≡ Some c → v.routers ≡ slice_set w.routers b d → (n ≤ number_in d.entries id → (n ≤ number_in c.entries id) ⊎ HasNear id n w b) → Brings id n w v
  set_brings b c d v at is brings a = elim (got_set w.routers b a d c at) [
    | inl same ↦ (λ h. let m : number_at v a id ≡ number_at w a id = number is (slice_get w.routers a) same in inl (omega (arith, m, h)))
    | inr here ↦ (λ h.
        let m : number_at v a id ≡ number_in d.entries id = number is (Some d) here.1 in
        let l : number_at w a id ≡ number_in c.entries id = ap (λ (o : Option Control). number_in (lsdb_of o) id) (ap (slice_get w.routers) (sym here.0) ∙ at) in
        elim (brings (omega (arith, m, h))) [
          | inl k ↦ inl (omega (arith, l, k))
          | inr k ↦ inr (subst (HasNear id n w) here.0 k)
        ])
  ]
    where
      number : v.routers ≡ slice_set w.routers b d → (o : Option Control) → slice_get (slice_set w.routers b d) a ≡ o → number_at v a id ≡ number_in (lsdb_of o) id
      number is o there = ap (λ (rs : List Control). number_in (lsdb_of (slice_get rs a)) id) is ∙ ap (λ (o : Option Control). number_in (lsdb_of o) id) there

  -- a PDU that arrives
  above : (a link b back : ℕ) (c : Control) (p : Pdu) (i : ℕ) → link_between w.domain.routers b a ≡ Some back → slice_get (queue_at w.flights a link) i ≡ Some (ControlItem p) → slice_get w.routers b ≡ Some c → is_up c back ≡ true
      → n ≤ number_in (on_pdu c back p).control.entries id → (n ≤ number_in c.entries id) ⊎ HasNear id n w b
  above a link b back c p i toward there at up h = elim (cases_lt (number_in c.entries id) n) [
    | inl low ↦
        elim (cases_lt (number_at w a id) n) [
          | inl far ↦
              let says = each_got (IsTrueItem (confs_now w) w.injections (peer_place w.domain.routers a link)) (queue_at w.flights a link) i (ControlItem p) (t.items a link) there in
              let told = each_got (IsItemOfJournal fresh.journal) (queue_at w.flights a link) i (ControlItem p) (fresh.journaled.items a link) there in
              let within = each_got (IsItemWithin (number_at w a)) (queue_at w.flights a link) i (ControlItem p) (fresh.behind a link) there in
              let l = pdu_stable id n w t fresh a b back c p at says told within low far in
              absurd (omega (arith, l, h))
          | inr far ↦ inr (a, ap (λ (o : Option Control). up_over o (link_between w.domain.routers b a)) at ∙ ap (up_over (Some c)) toward ∙ up, far)
        ]
    | inr more ↦ inl more
  ]

  abbrev Bringing : Happened → Type 0
  Bringing m = Brings id n w m.world

  pub brings_step : (e : Event) → IsTraffic e → Brings id n w (happens w e).world
  unfolding happens
  brings_step (Inject a sd bsl ks ttl entropy payload) of = after_inject w Bringing (λ z h. inl h) a (λ c. inject_made w.domain.routers a c (w.injections + 1) sd bsl ks ttl entropy payload) (λ c z h. inl h)
  brings_step (Take a b i) of =
      after_take w Bringing (λ z h. inl h) a b i
      (λ link back c p toward backward there at up. set_brings b c (on_pdu c back p).control (replies (taken_off w a link i) b back (on_pdu c back p)).world at refl (above a link b back c p i backward there at up)) (λ link c y z h. inl h) (λ link x z h. inl h)
  brings_step (Lose a b i) of = after_lose w Bringing (λ z h. inl h) a b i (λ link x z h. inl h)
  brings_step (Again a b i) of = after_again w Bringing (λ z h. inl h) a b i (λ link p there z h. inl h)
  brings_step (Send a b) of =
      after_send w Bringing (λ z h. inl h) a b
      (λ c link at toward. set_brings a c (send c link).control (replies w a link (send c link)).world at refl (λ h. (let m = ap (λ (es : List Entry). number_in es id) (sent_entries c link) in inl (omega (arith, m, h)))))
  brings_step other of = absurd of
