-- A calm domain: neighbors have the same sequence numbers, no CSNP is due, and each PDU in flight has the numbers of its sender. Events of
-- a round leave it so.
use Rattle.std.proofs.Common.{◌≡◌, ◌⊎◌, inl, inr, ℕ, ◌≤◌, ◌==◌, Bool, true, false, List, [], ◌∷◌, ◌++◌, length, map, filter, slice_get, slice_set, slice_index_or, Option, Some, None, refl, sym, ap, subst, ◌∙◌, arith}
use Rattle.std.specs.List.{AllByRecursion}
use Rattle.std.proofs.lemmas.Bool.{eqb-false, eqb-true, false≢true}
use Rattle.wire_base.specs.declared.addresses.LspId.{LspId}
use Rattle.wire_base.specs.declared.triple.Summary.{Summary}
use Rattle.wire_base.specs.model.Configuration.{DomainConf}
use Rattle.wire_base.specs.model.Control.{Control, entry_in, seq_of, srm, ssn, summary_of}
use Rattle.wire_base.specs.model.Flooding.{clear_ssn, due_csnps, due_lsps, due_psnps, lsp_of, most_listed, on_pdu, psnp_of, send, send_of, sent_on}
use Rattle.wire_base.specs.model.Item.{Item, ControlItem, PacketItem}
use Rattle.wire_base.specs.model.Lists.{blocks}
use Rattle.wire_base.specs.model.Pdu.{Head, Pdu, LspPdu, PsnpPdu}
use Rattle.wire_base.specs.model.Tlv.{rows_of}
use Rattle.replay_text.specs.declared.event.Event.{Event}
use Rattle.replay_text.specs.declared.event.Event.TheVariants.{Take, Send}
use Rattle.domain_model.specs.Faults.{event_fault, is_up_toward, up_over}
use Rattle.domain_model.specs.Run.{world_after}
use Rattle.domain_model.specs.Step.{happens}
use Rattle.domain_model.specs.Truth.{EventFits, IsTrueControl, IsTrueEntry, IsTrueItem, confs_now, head_of}
use Rattle.domain_model.specs.World.{WorldState, link_between, peer_place, queue_at}
use Rattle.domain_model.proofs.ControlTruth.{row_fits}
use Rattle.domain_model.proofs.EachLaws.{each_both, each_from, each_got, each_joined, each_mapped, each_weaker}
use Rattle.domain_model.proofs.FlagLaws.{each_is_found}
use Rattle.domain_model.proofs.FloodTruth.{row_true}
use Rattle.domain_model.proofs.QueueLaws.{AllQueues, set_read}
use Rattle.laws_ledger.specs.Runs.{AreAllowed}
use Rattle.laws_quiet.specs.Quiet.{lsdb_of}
use Rattle.laws_settle.specs.Idle.{IsPacket}
use Rattle.laws_settle.specs.Fresh.{AreOfJournal, HasWholeLinks, IsItemOfJournal, number_at, number_in}
use Rattle.laws_settle.specs.Gentle.{IsTraffic}
use Rattle.laws_settle.proofs.Exchange.{router_is}
use Rattle.laws_settle.proofs.IdlePdus.{IdleLeaves, IsEvenPdu, IsLspFor, pdu_leaves}
use Rattle.laws_settle.proofs.IdleSteps.{IsArrival, IsSending, each_given, send_flights, send_is, take_flights, take_is}
use Rattle.laws_settle.proofs.JournalSteps.{lsp_some}
use Rattle.laws_settle.proofs.OwedSteps.{got_set, settling_step}
use Rattle.laws_settle.proofs.RestLaws.{IsLevel}
use Rattle.laws_settle.proofs.RoundLaws.{toward_same, whole_after}
use Rattle.laws_settle.proofs.RoundStable.{brings_step}
use Rattle.laws_settle.proofs.RoundStays.{gentle_of}
use Rattle.laws_settle.proofs.RoundUps.{still_step}
use Rattle.laws_settle.proofs.RowSrm.{srm_mapped, ssn_emptied, ssn_mapped, set_elsewhere, set_off}
use Rattle.laws_settle.proofs.RunLaws.{IsRun, run_step}
use Rattle.laws_settle.proofs.SentPdus.{EntrySays, PduSays, lsps_say, psnps_say}

-- a frame is sent or received
abbrev pub IsOfRound : Event → Type 0
IsOfRound (Take a b i) = Unit {0}
IsOfRound (Send a b) = Unit {0}
IsOfRound other = ⊥

pub round_traffic : (e : Event) → IsOfRound e → IsTraffic e
round_traffic (Take a b i) of = tt
round_traffic (Send a b) of = tt
round_traffic other of = absurd of

abbrev pub IsEvenItem : (LspId → ℕ) → Item → Type 0
IsEvenItem most (ControlItem p) = IsEvenPdu most p
IsEvenItem most (PacketItem x) = Unit {0}

-- whether a CSNP is due on an interface of a router
abbrev pub due_of : Option Control → ℕ → Bool
due_of None link = false
due_of (Some c) link = slice_index_or c.flood.due link false

pub record IsCalm (w : WorldState) : Type 0 where
  pub run : IsRun w
  pub whole : HasWholeLinks w
  pub level : IsLevel w
  pub due : (a b link : ℕ) → link_between w.domain.routers a b ≡ Some link → due_of (slice_get w.routers a) link ≡ false
  pub even : (a b link : ℕ) → link_between w.domain.routers a b ≡ Some link → AllByRecursion (IsEvenItem (number_at w a)) (queue_at w.flights a link)

-- ---- sequence numbers

even_pdu : (most more : LspId → ℕ) → ((id : LspId) → most id ≡ more id) → (p : Pdu) → IsEvenPdu most p → IsEvenPdu more p
even_pdu most more same (LspPdu h tlvs) even = even ∙ same h.id
even_pdu most more same (PsnpPdu source tlvs) even = each_weaker (λ (s : Summary). s.seq ≡ most s.id) (λ (s : Summary). s.seq ≡ more s.id) (λ s h. h ∙ same s.id) (rows_of tlvs) even
even_pdu most more same other even = even

even_item : (most more : LspId → ℕ) → ((id : LspId) → most id ≡ more id) → (x : Item) → IsEvenItem most x → IsEvenItem more x
even_item most more same (ControlItem p) even = even_pdu most more same p even
even_item most more same (PacketItem x) even = tt

pub even_packet : (most : LspId → ℕ) (x : Item) → IsPacket x → IsEvenItem most x
even_packet most (ControlItem p) h = absurd h
even_packet most (PacketItem x) h = tt

pub number_of : (w : WorldState) (a : ℕ) (c : Control) → slice_get w.routers a ≡ Some c → (id : LspId) → number_at w a id ≡ number_in c.entries id
number_of w a c at id = ap (λ (o : Option Control). number_in (lsdb_of o) id) at

-- ---- what is sent

abbrev IsPlain : Pdu → Type 0
IsPlain (LspPdu h tlvs) = Unit {0}
IsPlain (PsnpPdu source tlvs) = Unit {0}
IsPlain other = ⊥

even_said : (most : LspId → ℕ) (p : Pdu) → PduSays (λ h tlvs. h.seq ≡ most h.id) (λ s. s.seq ≡ most s.id) p × IsPlain p → IsEvenPdu most p
even_said most (LspPdu h tlvs) said = said.0
even_said most (PsnpPdu source tlvs) said = said.0
even_said most other said = said.1

module _ (w : WorldState) (calm : IsCalm w) where
  entry_says : (a : ℕ) (c : Control) → slice_get w.routers a ≡ Some c → AllByRecursion (EntrySays (λ h tlvs. h.seq ≡ number_at w a h.id) (λ s. s.seq ≡ number_at w a s.id)) c.entries
  entry_says a c at =
      let k = each_got (IsTrueControl (confs_now w)) w.routers a c calm.run.truth.controls at in
      each_weaker (λ e. IsTrueEntry (confs_now w) e × (entry_in c.entries e.id ≡ Some e)) (EntrySays (λ h tlvs. h.seq ≡ number_at w a h.id) (λ s. s.seq ≡ number_at w a s.id))
      (λ e h.
      let n : e.seq ≡ number_at w a e.id = sym (number_of w a c at e.id ∙ ap seq_of h.1) in
      record { lsp = n; row = n; fits = row_fits (confs_now w) calm.run.truth.now.sound (summary_of e) (row_true (confs_now w) (head_of e) e.content h.0) })
      c.entries
      (each_both (IsTrueEntry (confs_now w)) (λ e. entry_in c.entries e.id ≡ Some e) c.entries k.entries (each_is_found c.entries k.kept.control.entries.in_order))

  pub none_due : (a b : ℕ) (c : Control) (link : ℕ) → slice_get w.routers a ≡ Some c → link_between w.domain.routers a b ≡ Some link → slice_index_or c.flood.due link false ≡ false
  none_due a b c link at joined = ap (λ (o : Option Control). due_of o link) (sym at) ∙ calm.due a b link joined

  sent_even : (a b : ℕ) (c : Control) (link : ℕ) → slice_get w.routers a ≡ Some c → link_between w.domain.routers a b ≡ Some link → AllByRecursion (IsEvenPdu (number_at w a)) (send_of c link)
  unfolding send_of
  sent_even a b c link at joined =
      let L : Head → List ℕ → Type 0 = λ h tlvs. h.seq ≡ number_at w a h.id in
      let R : Summary → Type 0 = λ s. s.seq ≡ number_at w a s.id in
      let says = entry_says a c at in
      let lsps = each_both (PduSays L R) IsPlain (due_lsps c link) (lsps_say L R c says link) (each_mapped IsPlain lsp_of (filter (λ e. srm c.flood e.id link) c.entries) (each_from (λ e. IsPlain (lsp_of e)) (λ e. tt) (filter (λ e. srm c.flood e.id link) c.entries))) in
      let parts = blocks most_listed (map summary_of (filter (λ e. ssn c.flood e.id link) c.entries)) in
      let psnps = each_both (PduSays L R) IsPlain (due_psnps c link) (psnps_say L R c says link) (each_mapped IsPlain (psnp_of c) parts (each_from (λ rows. IsPlain (psnp_of c rows)) (λ rows. tt) parts)) in
      subst (λ (b : Bool). AllByRecursion (IsEvenPdu (number_at w a)) (due_csnps c b ++ (due_lsps c link ++ due_psnps c link))) (sym (none_due a b c link at joined))
      (each_joined (IsEvenPdu (number_at w a)) (due_lsps c link) (due_psnps c link)
      (each_weaker (λ p. PduSays L R p × IsPlain p) (IsEvenPdu (number_at w a)) (even_said (number_at w a)) (due_lsps c link) lsps)
      (each_weaker (λ p. PduSays L R p × IsPlain p) (IsEvenPdu (number_at w a)) (even_said (number_at w a)) (due_psnps c link) psnps))

  -- ---- what an arrival leaves

  pub leaves : (a b i : ℕ) (rs : List Control) (arr : IsArrival w a b i rs) → IdleLeaves arr.router (on_pdu arr.router arr.back arr.pdu).control arr.back arr.pdu
  leaves a b i rs arr =
      let c = arr.router in
      let fresh = calm.run.fresh in
      let near : is_up_toward w b a ≡ true = ap (λ (o : Option Control). up_over o (link_between w.domain.routers b a)) arr.at ∙ ap (up_over (Some c)) arr.backward ∙ arr.up in
      let far : is_up_toward w a b ≡ true = calm.whole a b ∙ near in
      let says = each_got (IsTrueItem (confs_now w) w.injections (peer_place w.domain.routers a arr.link)) (queue_at w.flights a arr.link) i (ControlItem arr.pdu) (calm.run.truth.items a arr.link) arr.there in
      let told = each_got (IsItemOfJournal fresh.journal) (queue_at w.flights a arr.link) i (ControlItem arr.pdu) (fresh.journaled.items a arr.link) arr.there in
      let even = each_got (IsEvenItem (number_at w a)) (queue_at w.flights a arr.link) i (ControlItem arr.pdu) (calm.even a b arr.link arr.toward) arr.there in
      pdu_leaves fresh.journal c (router_is w calm.run.truth b c arr.at) (each_got (λ x. AreOfJournal fresh.journal x.entries) w.routers b c fresh.journaled.entries arr.at) arr.back arr.up arr.pdu told (lsp_some (confs_now w) arr.pdu says)
      (even_pdu (number_at w a) (number_in c.entries) (λ id. (let n = number_of w b c arr.at id in let l = calm.level a b id far near in let m = calm.level b a id near far in omega (arith, n, l, m))) arr.pdu even)

  pub numbers_same : (e : Event) → IsTraffic e → (a : ℕ) (id : LspId) → number_at (happens w e).world a id ≡ number_at w a id
  numbers_same e of a id =
      let rise = (settling_step w calm.run.truth calm.run.fresh e (gentle_of w e of)).rise a id in
      let n = number_at (happens w e).world a id in
      let low : n ≤ number_at w a id = elim (brings_step id n w calm.run.truth calm.run.fresh e of a (omega arith)) [
        | inl had ↦ had
        | inr near ↦ (let l = calm.level near.0 a id (calm.whole near.0 a ∙ near.1) near.1 in let h = near.2 in omega (arith, l, h))
      ] in
      omega (arith, rise, low)

-- ---- a router that sends

pub sent_due : (c : Control) (link : ℕ) → (send c link).control.flood.due ≡ slice_set c.flood.due link false
unfolding send sent_on
sent_due c link = refl

pub sent_srm : (c : Control) (link : ℕ) (id : LspId) (k : ℕ) → srm (send c link).control.flood id k ≡ srm c.flood id k
unfolding send sent_on
sent_srm c link id k = srm_mapped (clear_ssn link) (λ row. refl) c.flood.rows id k (λ row. refl)

pub sent_ssn_off : (c : Control) (link : ℕ) (id : LspId) → ssn (send c link).control.flood id link ≡ false
unfolding send sent_on
sent_ssn_off c link id = ssn_emptied (clear_ssn link) c.flood.rows id link (λ row. set_off row.ssn link)

pub sent_ssn_elsewhere : (c : Control) (link : ℕ) (id : LspId) (k : ℕ) → (link ≡ k → ⊥) → ssn (send c link).control.flood id k ≡ ssn c.flood id k
unfolding send sent_on
sent_ssn_elsewhere c link id k apart = ssn_mapped (clear_ssn link) (λ row. refl) c.flood.rows id k (λ row. set_elsewhere row.ssn link k false apart)

sent_ssn : (c : Control) (link : ℕ) (id : LspId) (k : ℕ) → ssn (send c link).control.flood id k ≡ true → ssn c.flood id k ≡ true
sent_ssn c link id k set = by (link == k) refl
  where
    by : (b : Bool) → (link == k) ≡ b → ssn c.flood id k ≡ true
    by true e = absurd (false≢true (sym (subst (λ (n : ℕ). ssn (send c link).control.flood id n ≡ false) (eqb-true link k e) (sent_ssn_off c link id)) ∙ set))
    by false e = sym (sent_ssn_elsewhere c link id k (eqb-false link k e)) ∙ set

pub due_off : (due : List Bool) (link k : ℕ) → slice_index_or due k false ≡ false → slice_index_or (slice_set due link false) k false ≡ false
due_off due link k off = elim (set_read due link k false false) [
  | inl same ↦ same ∙ off
  | inr new ↦ new.1
]

-- ---- flags of a router

abbrev pub srm_of : Option Control → LspId → ℕ → Bool
srm_of None id k = false
srm_of (Some c) id k = srm c.flood id k

abbrev pub ssn_of : Option Control → LspId → ℕ → Bool
ssn_of None id k = false
ssn_of (Some c) id k = ssn c.flood id k

-- what holds of each router is kept where one is replaced
at_set : (rs : List Control) (a : ℕ) (c d : Control) (qs : List Control) → slice_get rs a ≡ Some c → qs ≡ slice_set rs a d → (Q : ℕ → Option Control → Option Control → Type 0) → Q a (Some c) (Some d) → ((z : ℕ) (o : Option Control) → Q z o o) → (z : ℕ) → Q z (slice_get rs z) (slice_get qs z)
at_set rs a c d qs at is Q here same z = elim (got_set rs a z d c at) [
  | inl there ↦ subst (Q z (slice_get rs z)) (sym (ap (λ (l : List Control). slice_get l z) is ∙ there)) (same z (slice_get rs z))
  | inr there ↦
      let moved : Q z (Some c) (Some d) = subst (λ (n : ℕ). Q n (Some c) (Some d)) there.0 here in
      subst (λ (o : Option Control). Q z o (slice_get qs z)) (sym (ap (slice_get rs) (sym there.0) ∙ at)) (subst (Q z (Some c)) (sym (ap (λ (l : List Control). slice_get l z) is ∙ there.1)) moved)
]

-- what each event of a round preserves holds after all of them
pub round_keeps : (P : WorldState → Type 0) → ((w : WorldState) (e : Event) → IsOfRound e → EventFits (length w.domain.routers) e → event_fault w e ≡ None → P w → P (happens w e).world)
    → (es : List Event) (w : WorldState) → AllByRecursion IsOfRound es → AreAllowed w es → P w → P (world_after w es)
round_keeps P step [] w of allowed p = p
round_keeps P step (e ∷ es) w of allowed p = round_keeps P step es (happens w e).world of.1 allowed.2 (step w e of.0 allowed.0 allowed.1 p)

module _ (w : WorldState) where
  -- what holds between routers before and after: where nothing changes, where a PDU arrives, and where one sends
  pub changed : (e : Event) → IsOfRound e → (Q : ℕ → Option Control → Option Control → Type 0) → ((z : ℕ) (o : Option Control) → Q z o o)
      → ((a b i : ℕ) → e ≡ Take a b i → (rs : List Control) (arr : IsArrival w a b i rs) → Q b (Some arr.router) (Some (on_pdu arr.router arr.back arr.pdu).control))
      → ((a b : ℕ) → e ≡ Send a b → (rs : List Control) (s : IsSending w a b rs) → Q a (Some s.router) (Some (send s.router s.link).control))
      → (z : ℕ) → Q z (slice_get w.routers z) (slice_get (happens w e).world.routers z)
  changed (Take a b i) of Q same arrived sent z = elim (take_is w a b i) [
    | inl rs ↦ subst (λ (l : List Control). Q z (slice_get w.routers z) (slice_get l z)) (sym rs) (same z (slice_get w.routers z))
    | inr arr ↦ at_set w.routers b arr.router (on_pdu arr.router arr.back arr.pdu).control (happens w (Take a b i)).world.routers arr.at arr.routers Q (arrived a b i refl (happens w (Take a b i)).world.routers arr) same z
  ]
  changed (Send a b) of Q same arrived sent z = elim (send_is w a b) [
    | inl rs ↦ subst (λ (l : List Control). Q z (slice_get w.routers z) (slice_get l z)) (sym rs) (same z (slice_get w.routers z))
    | inr s ↦ at_set w.routers a s.router (send s.router s.link).control (happens w (Send a b)).world.routers s.at s.routers Q (sent a b refl (happens w (Send a b)).world.routers s) same z
  ]
  changed other of Q same arrived sent z = absurd of

module _ (w : WorldState) (calm : IsCalm w) where
  -- SRM falls
  pub srm_falls : (e : Event) → IsOfRound e → (z : ℕ) (id : LspId) (k : ℕ) → srm_of (slice_get (happens w e).world.routers z) id k ≡ true → srm_of (slice_get w.routers z) id k ≡ true
  srm_falls e of z id k =
      changed w e of (λ y o p. srm_of p id k ≡ true → srm_of o id k ≡ true) (λ y o h. h) (λ a b i is rs arr set. (leaves w calm a b i rs arr).srm_falls id k set) (λ a b is rs s set. sym (sent_srm s.router s.link id k) ∙ set) z

  -- SSN stays where frames are received
  pub ssn_stays : (a b i : ℕ) (z : ℕ) (id : LspId) (k : ℕ) → ssn_of (slice_get w.routers z) id k ≡ true → ssn_of (slice_get (happens w (Take a b i)).world.routers z) id k ≡ true
  ssn_stays a b i z id k =
      changed w (Take a b i) tt (λ y o p. ssn_of o id k ≡ true → ssn_of p id k ≡ true) (λ y o h. h) (λ a b i is rs arr set. (leaves w calm a b i rs arr).ssn_stays id k set) (λ a b is rs s set. cc) z

  -- it is new only where an LSP arrives
  abbrev pub Acknowledges : Event → ℕ → LspId → ℕ → Type 0
  Acknowledges e z id k = (a : ℕ) × (i : ℕ) × (e ≡ Take a z i) × (rs : List Control) × (arr : IsArrival w a z i rs) × (arr.back ≡ k) × IsLspFor id arr.pdu

  pub ssn_from : (e : Event) → IsOfRound e → (z : ℕ) (id : LspId) (k : ℕ) → ssn_of (slice_get (happens w e).world.routers z) id k ≡ true → (ssn_of (slice_get w.routers z) id k ≡ true) ⊎ Acknowledges e z id k
  ssn_from e of z id k =
      changed w e of (λ y o p. ssn_of p id k ≡ true → (ssn_of o id k ≡ true) ⊎ Acknowledges e y id k) (λ y o h. inl h)
      (λ a b i is rs arr set. elim ((leaves w calm a b i rs arr).ssn_from id k set) [
        | inl had ↦ inl had
        | inr new ↦ inr (a, i, is, rs, arr, new.0, new.1)
      ]) (λ a b is rs s set. inl (sent_ssn s.router s.link id k set)) z

  -- ---- it stays calm

  due_next : (e : Event) → IsOfRound e → (z link : ℕ) → due_of (slice_get w.routers z) link ≡ false → due_of (slice_get (happens w e).world.routers z) link ≡ false
  due_next e of z link =
      changed w e of (λ y o p. due_of o link ≡ false → due_of p link ≡ false) (λ y o h. h)
      (λ a b i is rs arr h. ap (λ (l : List Bool). slice_index_or l link false) (leaves w calm a b i rs arr).due ∙ h)
      (λ a b is rs s h. ap (λ (l : List Bool). slice_index_or l link false) (sent_due s.router s.link) ∙ due_off s.router.flood.due s.link link h)
      z

  EvenAt : ℕ → ℕ → Item → Type 0
  EvenAt a link x = (b : ℕ) → link_between w.domain.routers a b ≡ Some link → IsEvenItem (number_at w a) x

  even_there : AllQueues EvenAt w.flights
  unfolding EvenAt
  even_there a link = each_given (λ b. link_between w.domain.routers a b ≡ Some link) (IsEvenItem (number_at w a)) (queue_at w.flights a link) (λ b joined. calm.even a b link joined)

  even_next : (e : Event) → IsOfRound e → AllQueues EvenAt (happens w e).world.flights
  unfolding EvenAt
  even_next (Take a b i) of = take_flights EvenAt (λ a l x h b joined. even_packet (number_at w a) x h) w calm.run.fresh even_there a b i
  even_next (Send a b) of = send_flights EvenAt w even_there a b (λ c link at joined. each_weaker (IsEvenPdu (number_at w a)) (λ p. EvenAt a link (ControlItem p)) (λ p h y toward. h) (send_of c link) (sent_even w calm a b c link at joined))
  even_next other of = absurd of

  pub calm_step : (e : Event) → IsOfRound e → EventFits (length w.domain.routers) e → event_fault w e ≡ None → IsCalm (happens w e).world
  unfolding EvenAt
  calm_step e of fits ok =
      let v = (happens w e).world in
      let traffic = round_traffic e of in
      let still = still_step w e traffic in
      record {
        run = run_step w e calm.run fits ok (gentle_of w e traffic);
        whole = whole_after w v still calm.whole;
        level = λ a b id up back. (
            let n = numbers_same w calm e traffic a id in
            let m = numbers_same w calm e traffic b id in
            let l = calm.level a b id (sym (toward_same w v still a b) ∙ up) (sym (toward_same w v still b a) ∙ back) in
            omega (arith, n, m, l));
        due = λ a b link joined. due_next e of a link (calm.due a b link (ap (λ (d : DomainConf). link_between d.routers a b) (sym still.domain) ∙ joined));
        even = λ a b link joined.
            each_weaker (EvenAt a link) (IsEvenItem (number_at v a)) (λ x h. even_item (number_at w a) (number_at v a) (λ id. sym (numbers_same w calm e traffic a id)) x (h b (ap (λ (d : DomainConf). link_between d.routers a b) (sym still.domain) ∙ joined))) (queue_at v.flights a link) (even_next e of a link);
      }
