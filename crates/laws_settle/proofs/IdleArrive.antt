-- In a calm domain an LSP that is to be sent is acknowledged in the round, and an acknowledgement ends its sending.
use Rattle.std.proofs.Common.{◌≡◌, ◌⊎◌, inl, inr, ℕ, zero, suc, ◌<◌, ◌≤◌, ◌==◌, Bool, true, false, if◌then◌else◌, List, [], ◌∷◌, ◌++◌, drop, length, map, filter, slice_get, slice_index_or, take, Option, Some, None, refl, sym, ap, subst, ◌∙◌, arith}
use Rattle.std.specs.List.{AllByRecursion}
use Rattle.std.proofs.lemmas.Bool.{eqb-false, eqb-true, false≢true}
use Rattle.wire_base.specs.declared.addresses.LspId.{LspId}
use Rattle.wire_base.specs.declared.cause.Cause.TheVariants as cause
use Rattle.wire_base.specs.declared.entry.Entry.{Entry}
use Rattle.wire_base.specs.declared.triple.Summary.{Summary}
use Rattle.wire_base.specs.model.Configuration.{DomainConf}
use Rattle.wire_base.specs.model.Control.{Control, entry_in, seq_of, srm, ssn, summary_of}
use Rattle.wire_base.specs.model.Flooding.{due_csnps, due_lsps, due_psnps, lsp_of, most_listed, on_pdu, psnp_of, send_of}
use Rattle.wire_base.specs.model.Item.{Item, ControlItem, PacketItem}
use Rattle.wire_base.specs.model.Lists.{blocks, blocks_within}
use Rattle.wire_base.specs.model.Pdu.{Pdu}
use Rattle.wire_base.specs.model.Tlv.{SummaryFits}
use Rattle.laws_format.proofs.TlvListLaws.{rows_of_tlvs}
use Rattle.replay_text.specs.declared.event.Event.{Event}
use Rattle.replay_text.specs.declared.event.Event.TheVariants.{Take, Again, Send}
use Rattle.domain_model.specs.Faults.{event_fault, up_over}
use Rattle.domain_model.specs.Moves.{item_lost}
use Rattle.domain_model.specs.Run.{Direction, directions, may_send, round_events, round_sends, world_after}
use Rattle.domain_model.specs.Step.{Happened, arrives, doing, happens, makes, taken_off}
use Rattle.domain_model.specs.Truth.{EventFits, IsTrueControl, IsTrueEntry, confs_now, head_of}
use Rattle.domain_model.specs.World.{WorldState, link_between, peer_place, queue_at}
use Rattle.domain_model.proofs.ControlTruth.{row_fits}
use Rattle.laws_format.proofs.ContentLaws.{each_dropped, each_taken}
use Rattle.domain_model.proofs.EachLaws.{each_got, each_kept, each_mapped, each_weaker}
use Rattle.domain_model.proofs.FlagLaws.{found_id, same_id_is}
use Rattle.domain_model.proofs.FloodTruth.{row_true}
use Rattle.domain_model.proofs.LaterTruth.{set_there}
use Rattle.domain_model.proofs.LinkLaws.{peer_is}
use Rattle.laws_ledger.specs.Runs.{AreAllowed}
use Rattle.laws_settle.specs.Fresh.{number_at, number_in}
use Rattle.laws_settle.proofs.IdleCalm.{IsCalm, IsOfRound, calm_step, changed, leaves, number_of, numbers_same, round_keeps, round_traffic, sent_srm, sent_ssn_elsewhere, srm_falls, srm_of, ssn_of, ssn_stays}
use Rattle.laws_settle.proofs.IdlePdus.{IsAckFor, IsLspFor}
use Rattle.laws_settle.proofs.IdleRound.{IsLspItem}
use Rattle.laws_settle.proofs.IdleSteps.{IsArrival, IsSending}
use Rattle.laws_settle.proofs.RoundQueues.{HasOne, one_right}
use Rattle.laws_settle.proofs.RoundReach.{entry_there, is_due, one_found, one_kept, one_mapped, put_out}
use Rattle.laws_settle.proofs.RoundSteps.{up_here}
use Rattle.laws_settle.proofs.RoundTurns.{IsAlong, IsHere, IsLink, IsOnWay, in_round, send_event, sends_are, sends_leave, taking_is, takes_reach}
use Rattle.laws_settle.proofs.RoundUps.{still_step}

abbrev pub IsAckItem : LspId → Item → Type 0
IsAckItem id (ControlItem p) = IsAckFor id p
IsAckItem id (PacketItem x) = ⊥

abbrev sender : Event → ℕ
sender (Send a b) = a
sender other = 0

abbrev receiver : Event → ℕ
receiver (Send a b) = b
receiver other = 0

-- a row is in one of the blocks
one_cut : {X : Type 0} (P : X → Type 0) (n : ℕ) (xs : List X) → HasOne P xs → HasOne P (take n xs) ⊎ HasOne P (drop n xs)
one_cut P zero xs h = inr h
one_cut P (suc n) [] h = absurd h
one_cut P (suc n) (x ∷ xs) (inl h) = inl (inl h)
one_cut P (suc n) (x ∷ xs) (inr h) = elim (one_cut P n xs h) [
  | inl first ↦ inl (inr first)
  | inr later ↦ inr later
]

drop_short : {X : Type 0} (n : ℕ) (x : X) (xs : List X) (m : ℕ) → length (x ∷ xs) ≤ suc m → length (drop (suc n) (x ∷ xs)) ≤ m
drop_short {X} n x xs m short = by n xs (omega (arith, short))
  where
    by : (n : ℕ) (xs : List X) → length xs ≤ m → length (drop n xs) ≤ m
    by zero xs low = low
    by (suc n) [] low = omega arith
    by (suc n) (z ∷ zs) low = by n zs (omega (arith, low))

blocks_one : {X : Type 0} (P Q : X → Type 0) (m n : ℕ) (xs : List X) → length xs ≤ m → HasOne P xs → AllByRecursion Q xs → HasOne (λ block. HasOne P block × AllByRecursion Q block) (blocks_within m (suc n) xs)
blocks_one P Q zero n [] short h all = absurd h
blocks_one P Q zero n (x ∷ xs) short h all = absurd (omega (arith, short))
blocks_one P Q (suc m) n [] short h all = absurd h
blocks_one P Q (suc m) n (x ∷ xs) short h all = by (one_cut P (suc n) (x ∷ xs) h) (blocks_one P Q m n (drop (suc n) (x ∷ xs)) (drop_short n x xs m short))
  where
    by : (HasOne P (take (suc n) (x ∷ xs)) ⊎ HasOne P (drop (suc n) (x ∷ xs))) → (HasOne P (drop (suc n) (x ∷ xs)) → AllByRecursion Q (drop (suc n) (x ∷ xs)) → HasOne (λ block. HasOne P block × AllByRecursion Q block) (blocks_within m (suc n) (drop (suc n) (x ∷ xs))))
        → HasOne (λ block. HasOne P block × AllByRecursion Q block) (blocks_within (suc m) (suc n) (x ∷ xs))
    by (inl first) more = inl (first, each_taken Q (suc n) (x ∷ xs) all)
    by (inr later) more = inr (more later (each_dropped Q (suc n) (x ∷ xs) all))

-- a calm domain in which both interfaces of the link are up
pub record IsReady (d : DomainConf) (x y link back : ℕ) (u : WorldState) : Type 0 where
  pub calm : IsCalm u
  pub domain : u.domain ≡ d
  pub near : up_over (slice_get u.routers x) (Some link) ≡ true
  pub far : up_over (slice_get u.routers y) (Some back) ≡ true

module _ (d : DomainConf) (x y link back : ℕ) (joined : IsLink d x y link back) where
  abbrev Ready : WorldState → Type 0
  Ready u = IsReady d x y link back u

  ready_step : (u : WorldState) (e : Event) → IsOfRound e → EventFits (length u.domain.routers) e → event_fault u e ≡ None → Ready u → Ready (happens u e).world
  ready_step u e of fits ok r =
      let still = still_step u e (round_traffic e of) in
      record { calm = calm_step u r.calm e of fits ok; domain = still.domain ∙ r.domain; near = still.up x link ∙ r.near; far = still.up y back ∙ r.far }

  toward_here : (u : WorldState) → Ready u → link_between u.domain.routers x y ≡ Some link
  toward_here u r = ap (λ (c : DomainConf). link_between c.routers x y) r.domain ∙ joined.toward

  backward_here : (u : WorldState) → Ready u → link_between u.domain.routers y x ≡ Some back
  backward_here u r = ap (λ (c : DomainConf). link_between c.routers y x) r.domain ∙ joined.backward

  -- a PDU that is first comes to y
  arrival : (u : WorldState) → Ready u → (p : Pdu) → slice_get (queue_at u.flights x link) 0 ≡ Some (ControlItem p) → IsArrival u x y 0 (happens u (Take x y 0)).world.routers
  unfolding happens
  arrival u r p there =
      let h = up_here (slice_get u.routers y) back r.far in
      let c = h.router in
      let done : doing u (Take x y 0) ≡ arrives (taken_off u x link 0) y back c (ControlItem p) =
      taking_is x y link back u (toward_here u r) (backward_here u r) (ControlItem p) c there h.is
      ∙ ap (λ (b : Bool). if b then arrives (taken_off u x link 0) y back c (ControlItem p) else makes (taken_off u x link 0) (item_lost y cause.Link (ControlItem p))) h.up in
      record { link = link; back = back; toward = toward_here u r; backward = backward_here u r; pdu = p; there = there; router = c; at = h.is; up = h.up; routers = ap (λ (n : Happened). n.world.routers) done }

  flags_there : (u : WorldState) (r : Ready u) (p : Pdu) (there : slice_get (queue_at u.flights x link) 0 ≡ Some (ControlItem p)) → slice_get (happens u (Take x y 0)).world.routers y ≡ Some (on_pdu (arrival u r p there).router back p).control
  unfolding arrival
  flags_there u r p there =
      let a = arrival u r p there in
      ap (λ (rs : List Control). slice_get rs y) a.routers ∙ set_there u.routers y a.router (on_pdu a.router back p).control a.at

  -- ---- the routers send

  module _ (Z : Item → Type 0) (Before : WorldState → Type 0)
      (leave : (u : WorldState) (a b : ℕ) → (a ≡ x → b ≡ y → ⊥) → Ready u → Before u → Before (happens u (Send a b)).world)
      (put : (u : WorldState) → Ready u → Before u → (m : ℕ) × IsOnWay x link Z m (happens u (Send x y)).world) where
    sends_put : (ds : List Direction) (u : WorldState) → AreAllowed u (map send_event ds) → Ready u → Before u → HasOne (IsAlong x y link) ds → (m : ℕ) × IsOnWay x link Z m (world_after u (map send_event ds))
    sends_put [] u allowed r before h = absurd h
    sends_put (s ∷ ds) u allowed r before h = by (s.from == x) refl (s.to == y) refl h (λ apart later. sends_put ds (happens u (Send s.from s.to)).world allowed.2 (ready_step u (Send s.from s.to) tt allowed.0 allowed.1 r) (leave u s.from s.to apart r before) later)
      where
        Again : Type 0
        Again = (s.from ≡ x → s.to ≡ y → ⊥) → HasOne (IsAlong x y link) ds → (m : ℕ) × IsOnWay x link Z m (world_after (happens u (Send s.from s.to)).world (map send_event ds))

        passed : (s.from ≡ x → s.to ≡ y → ⊥) → (IsAlong x y link s ⊎ HasOne (IsAlong x y link) ds) → Again → (m : ℕ) × IsOnWay x link Z m (world_after (happens u (Send s.from s.to)).world (map send_event ds))
        passed apart (inl along) again = absurd (apart along.from along.to)
        passed apart (inr later) again = again apart later

        by : (a : Bool) → (s.from == x) ≡ a → (b : Bool) → (s.to == y) ≡ b → (IsAlong x y link s ⊎ HasOne (IsAlong x y link) ds) → Again → (m : ℕ) × IsOnWay x link Z m (world_after (happens u (Send s.from s.to)).world (map send_event ds))
        by true p true q h again =
            let same : Send s.from s.to ≡ Send x y = ap (λ (k : ℕ). Send k s.to) (eqb-true s.from x p) ∙ ap (λ (k : ℕ). Send x k) (eqb-true s.to y q) in
            let first = put u r before in
            let here : IsOnWay x link Z first.0 (happens u (Send s.from s.to)).world = subst (λ (e : Event). IsOnWay x link Z first.0 (happens u e).world) (sym same) first.1 in
            (first.0, sends_leave x link Z ds (happens u (Send s.from s.to)).world first.0 here)
        by true p false q h again = passed (λ from to. eqb-false s.to y q to) h again
        by false p b q h again = passed (λ from to. eqb-false s.from x p from) h again

    -- and it arrives
    module _ (Got : WorldState → Type 0) (stays : (u : WorldState) (a b i : ℕ) → Ready u → Got u → Got (happens u (Take a b i)).world)
        (makes_ : (u : WorldState) (z : Item) → Ready u → Z z → slice_get (queue_at u.flights x link) 0 ≡ Some z → Got (happens u (Take x y 0)).world) where
      here : (u : WorldState) → Ready u → IsHere d y u
      here u r = let h = up_here (slice_get u.routers y) back r.far in record { truth = r.calm.run.truth; domain = r.domain; router = h.router; there = h.is }

      round_gets : (w : WorldState) → AreAllowed w (round_events w) → Ready w → Before w → HasOne (IsAlong x y link) (directions w.domain.routers) → HasOne (IsAlong x y link) (filter (may_send w) (directions w.domain.routers)) → Got (world_after w (round_events w))
      round_gets w allowed r before along sending =
          in_round Got w allowed
          (λ sends takes.
          let ds = directions w.domain.routers in
          let o = sends_put (filter (may_send w) ds) w sends r before sending in
          let next = round_keeps Ready ready_step (round_sends w) w (sends_are IsOfRound (λ a b. tt) (filter (may_send w) ds)) sends r in
          takes_reach d x y link back joined Z Ready Got (λ u a b i fits ok k. ready_step u (Take a b i) tt fits ok k) here stays makes_ ds o.0 (world_after w (round_sends w)) takes next (inr o.1) along)

-- ---- an LSP is acknowledged

module _ (d : DomainConf) (x y link back : ℕ) (joined : IsLink d x y link back) (id : LspId) where
  -- what x has of flags toward y stays where it sends elsewhere, or others send
  srm_sent : (u : WorldState) (a b : ℕ) → IsCalm u → srm_of (slice_get u.routers x) id link ≡ true → srm_of (slice_get (happens u (Send a b)).world.routers x) id link ≡ true
  srm_sent u a b calm = changed u (Send a b) tt (λ z o p. srm_of o id link ≡ true → srm_of p id link ≡ true) (λ z o h. h) (λ a b i is rs arr h. cc) (λ a b is rs s h. sent_srm s.router s.link id link ∙ h) x

  ssn_sent : (u : WorldState) (a b : ℕ) → (a ≡ x → b ≡ y → ⊥) → IsReady d x y link back u → ssn_of (slice_get u.routers x) id link ≡ true → ssn_of (slice_get (happens u (Send a b)).world.routers x) id link ≡ true
  ssn_sent u a b apart r =
      changed u (Send a b) tt (λ z o p. z ≡ x → ssn_of o id link ≡ true → ssn_of p id link ≡ true) (λ z o same h. h) (λ a b i is rs arr same h. cc)
      (λ f t is rs s from h. sent_ssn_elsewhere s.router s.link id link (λ over. apart (from_is f t is ∙ from) (to_is f t is ∙ to f t rs s from over)) ∙ h) x refl
    where
      from_is : (f t : ℕ) → Send a b ≡ Send f t → a ≡ f
      from_is f t is = ap sender is

      to_is : (f t : ℕ) → Send a b ≡ Send f t → b ≡ t
      to_is f t is = ap receiver is

      to : (f t : ℕ) (rs : List Control) (s : IsSending u f t rs) → f ≡ x → s.link ≡ link → t ≡ y
      to f t rs s from over =
          let systems = r.calm.run.truth.valid.consistent.systems in
          sym (peer_is u.domain.routers systems f t s.link s.toward) ∙ ap (λ (n : ℕ). peer_place u.domain.routers n s.link) from ∙ ap (peer_place u.domain.routers x) over ∙ peer_is u.domain.routers systems x y link (toward_here d x y link back joined u r)

  -- an LSP with SRM is there
  pub marked_entry : (u : WorldState) → IsCalm u → (c : Control) → slice_get u.routers x ≡ Some c → srm c.flood id link ≡ true → (e : Entry) × (entry_in c.entries id ≡ Some e)
  marked_entry u calm c at set =
      let k = each_got (IsTrueControl (confs_now u)) u.routers x c calm.run.truth.controls at in
      by (seq_of (entry_in c.entries id)) refl (k.unsent id link)
    where
      by : (n : ℕ) → seq_of (entry_in c.entries id) ≡ n → (seq_of (entry_in c.entries id) ≡ 0 → srm c.flood id link ≡ false) → (e : Entry) × (entry_in c.entries id ≡ Some e)
      by zero q off = absurd (false≢true (sym (off q) ∙ set))
      by (suc n) q off = entry_there (entry_in c.entries id) (omega (arith, q))

  lsp_put : (u : WorldState) → IsReady d x y link back u → srm_of (slice_get u.routers x) id link ≡ true → (m : ℕ) × IsOnWay x link (IsLspItem id) m (happens u (Send x y)).world
  lsp_put u r set =
      let h = up_here (slice_get u.routers x) link r.near in
      let c = h.router in
      let marked : srm c.flood id link ≡ true = ap (λ (o : Option Control). srm_of o id link) (sym h.is) ∙ set in
      let e = marked_entry u r.calm c h.is marked in
      put_out u x y link c (λ (p : Pdu). p ≡ lsp_of e.0) (IsLspItem id) r.calm.run.truth (toward_here d x y link back joined u r) h.is (λ p same. subst (IsLspFor id) (sym same) (same_id_is e.0.id id (found_id c.entries id e.0 e.1))) (is_due id c link e.0 e.1 marked)

  lsp_makes : (u : WorldState) (z : Item) → IsReady d x y link back u → IsLspItem id z → slice_get (queue_at u.flights x link) 0 ≡ Some z → ssn_of (slice_get (happens u (Take x y 0)).world.routers y) id back ≡ true
  unfolding arrival
  lsp_makes u (ControlItem p) r is there = ap (λ (o : Option Control). ssn_of o id back) (flags_there d x y link back joined u r p there) ∙ (leaves u r.calm x y 0 (happens u (Take x y 0)).world.routers (arrival d x y link back joined u r p there)).asks id is
  lsp_makes u (PacketItem q) r is there = absurd is

  pub round_acknowledges : (w : WorldState) → AreAllowed w (round_events w) → IsReady d x y link back w → HasOne (IsAlong x y link) (directions w.domain.routers) → HasOne (IsAlong x y link) (filter (may_send w) (directions w.domain.routers))
      → srm_of (slice_get w.routers x) id link ≡ true → ssn_of (slice_get (world_after w (round_events w)).routers y) id back ≡ true
  round_acknowledges w allowed r along sending set =
      round_gets d x y link back joined (IsLspItem id) (λ u. srm_of (slice_get u.routers x) id link ≡ true) (λ u a b apart k h. srm_sent u a b k.calm h) lsp_put (λ u. ssn_of (slice_get u.routers y) id back ≡ true) (λ u a b i k h. ssn_stays u k.calm a b i y id back h) lsp_makes w allowed r set along sending

  -- ---- an acknowledgement ends the sending

  record IsAsking (u : WorldState) : Type 0 where
    set : ssn_of (slice_get u.routers x) id link ≡ true
    some : 0 < number_at u x id

  abbrev Lists : Summary → Type 0
  Lists s = (s.id ≡ id) × (0 < s.seq)

  ack_due : (u : WorldState) → IsCalm u → (c : Control) → slice_get u.routers x ≡ Some c → ssn c.flood id link ≡ true → 0 < number_in c.entries id → HasOne (IsAckFor id) (send_of c link)
  unfolding send_of
  ack_due u calm c at set some =
      let k = each_got (IsTrueControl (confs_now u)) u.routers x c calm.run.truth.controls at in
      let e = entry_there (entry_in c.entries id) some in
      let p : Entry → Bool = λ f. ssn c.flood f.id link in
      let mine : e.0.id ≡ id = same_id_is e.0.id id (found_id c.entries id e.0 e.1) in
      let kept = one_kept (λ (f : Entry). f ≡ e.0) p c.entries (λ f same. ap (λ (g : Entry). ssn c.flood g.id link) same ∙ ap (λ (i : LspId). ssn c.flood i link) mine ∙ set) (one_found c.entries id e.0 e.1) in
      let rows = map summary_of (filter p c.entries) in
      let seq = ap seq_of e.1 in
      let one = one_mapped (λ (f : Entry). f ≡ e.0) Lists summary_of (λ f same. (ap (λ (g : Entry). g.id) same ∙ mine, (let n = ap (λ (g : Entry). g.seq) same in omega (arith, n, seq, some)))) (filter p c.entries) kept in
      let fits = each_mapped SummaryFits summary_of (filter p c.entries) (each_weaker (IsTrueEntry (confs_now u)) (λ f. SummaryFits (summary_of f)) (λ f t. row_fits (confs_now u) calm.run.truth.now.sound (summary_of f) (row_true (confs_now u) (head_of f) f.content t)) (filter p c.entries) (each_kept (IsTrueEntry (confs_now u)) p c.entries k.entries)) in
      one_right (IsAckFor id) (due_csnps c (slice_index_or c.flood.due link false)) (due_lsps c link ++ due_psnps c link)
      (one_right (IsAckFor id) (due_lsps c link) (due_psnps c link)
      (one_mapped (λ (block : List Summary). HasOne Lists block × AllByRecursion SummaryFits block) (IsAckFor id) (psnp_of c) (λ block h. subst (HasOne Lists) (sym (rows_of_tlvs block h.1)) h.0) (blocks most_listed rows)
      (blocks_one Lists SummaryFits (length rows) 89 rows (omega arith) one fits)))

  ack_put : (u : WorldState) → IsReady d x y link back u → IsAsking u → (m : ℕ) × IsOnWay x link (IsAckItem id) m (happens u (Send x y)).world
  ack_put u r asking =
      let h = up_here (slice_get u.routers x) link r.near in
      let c = h.router in
      let set : ssn c.flood id link ≡ true = ap (λ (o : Option Control). ssn_of o id link) (sym h.is) ∙ asking.set in
      let some : 0 < number_in c.entries id = (let n = number_of u x c h.is id in let m = asking.some in omega (arith, n, m)) in
      put_out u x y link c (IsAckFor id) (IsAckItem id) r.calm.run.truth (toward_here d x y link back joined u r) h.is (λ p is. is) (ack_due u r.calm c h.is set some)

  ack_makes : (u : WorldState) (z : Item) → IsReady d x y link back u → IsAckItem id z → slice_get (queue_at u.flights x link) 0 ≡ Some z → srm_of (slice_get (happens u (Take x y 0)).world.routers y) id back ≡ false
  unfolding arrival
  ack_makes u (ControlItem p) r is there = ap (λ (o : Option Control). srm_of o id back) (flags_there d x y link back joined u r p there) ∙ (leaves u r.calm x y 0 (happens u (Take x y 0)).world.routers (arrival d x y link back joined u r p there)).clears id is
  ack_makes u (PacketItem q) r is there = absurd is

  off_stays : (u : WorldState) (a b i : ℕ) → IsCalm u → srm_of (slice_get u.routers y) id back ≡ false → srm_of (slice_get (happens u (Take a b i)).world.routers y) id back ≡ false
  off_stays u a b i calm off = by (srm_of (slice_get (happens u (Take a b i)).world.routers y) id back) refl
    where
      by : (s : Bool) → srm_of (slice_get (happens u (Take a b i)).world.routers y) id back ≡ s → s ≡ false
      by true q = absurd (false≢true (sym off ∙ srm_falls u calm (Take a b i) tt y id back q))
      by false q = refl

  pub round_ends : (w : WorldState) → AreAllowed w (round_events w) → IsReady d x y link back w → HasOne (IsAlong x y link) (directions w.domain.routers) → HasOne (IsAlong x y link) (filter (may_send w) (directions w.domain.routers))
      → ssn_of (slice_get w.routers x) id link ≡ true → 0 < number_at w x id → srm_of (slice_get (world_after w (round_events w)).routers y) id back ≡ false
  round_ends w allowed r along sending set some =
      round_gets d x y link back joined (IsAckItem id) IsAsking
      (λ u a b apart k h. record { set = ssn_sent u a b apart k h.set; some = (let n = numbers_same u k.calm (Send a b) tt x id in let m = h.some in omega (arith, n, m)) }) ack_put
      (λ u. srm_of (slice_get u.routers y) id back ≡ false) (λ u a b i k h. off_stays u a b i k.calm h) ack_makes w allowed r (record { set = set; some = some }) along sending
