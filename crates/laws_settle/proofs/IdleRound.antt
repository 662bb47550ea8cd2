-- What a round leaves of the flags of one LSP ID across one link in a calm domain.
use Rattle.std.proofs.Common.{◌≡◌, inl, inr, ℕ, Bool, true, false, List, [], ◌∷◌, ◌++◌, length, map, filter, slice_get, slice_index_or, Option, Some, None, refl, sym, ap, subst, ◌∙◌}
use Rattle.std.specs.List.{AllByRecursion}
use Rattle.std.proofs.lemmas.Bool.{false≢true}
use Rattle.std.proofs.lemmas.Option.{same_Some}
use Rattle.wire_base.specs.declared.addresses.LspId.{LspId}
use Rattle.wire_base.specs.model.Configuration.{DomainConf}
use Rattle.wire_base.specs.model.Control.{Control, srm, ssn, summary_of}
use Rattle.wire_base.specs.model.Flooding.{due_csnps, due_lsps, due_psnps, lsp_of, most_listed, psnp_of, send, send_of}
use Rattle.wire_base.specs.model.Item.{Item, ControlItem, PacketItem}
use Rattle.wire_base.specs.model.Lists.{blocks}
use Rattle.replay_text.specs.declared.event.Event.{Event}
use Rattle.replay_text.specs.declared.event.Event.TheVariants.{Take, Send}
use Rattle.domain_model.specs.Faults.{event_fault}
use Rattle.domain_model.specs.Run.{Direction, directions, may_send, round_events, round_sends, round_takes, world_after}
use Rattle.domain_model.specs.Step.{happens, sends}
use Rattle.domain_model.specs.Truth.{EventFits}
use Rattle.domain_model.specs.World.{WorldState, link_between, peer_place, queue_at}
use Rattle.domain_model.proofs.EachLaws.{each_from, each_got, each_joined, each_mapped, each_passing, each_weaker}
use Rattle.domain_model.proofs.LaterTruth.{set_there}
use Rattle.domain_model.proofs.LinkLaws.{peer_is}
use Rattle.domain_model.proofs.QueueLaws.{AllQueues}
use Rattle.laws_ledger.specs.Runs.{AreAllowed}
use Rattle.laws_settle.specs.Idle.{IsPacket}
use Rattle.laws_settle.proofs.IdleCalm.{Acknowledges, IsCalm, IsOfRound, calm_step, none_due, round_keeps, round_traffic, sent_ssn_off, srm_falls, srm_of, ssn_from, ssn_of}
use Rattle.laws_settle.proofs.IdlePdus.{IsLspFor}
use Rattle.laws_settle.proofs.IdleSteps.{each_given, send_flights, take_flights}
use Rattle.laws_settle.proofs.RoundQueues.{HasOne}
use Rattle.laws_settle.proofs.RoundTurns.{IsAlong, IsLink, in_round, send_event, sends_are, takes_are}
use Rattle.laws_settle.proofs.RoundUps.{still_step}

abbrev pub IsLspItem : LspId → Item → Type 0
IsLspItem id (ControlItem p) = IsLspFor id p
IsLspItem id (PacketItem x) = ⊥

pub no_packet : (id : LspId) (x : Item) → IsPacket x → IsLspItem id x → ⊥
no_packet id (ControlItem p) h lsp = h
no_packet id (PacketItem x) h lsp = lsp

-- a router that sends has no SSN there afterwards
sent_off : (u : WorldState) (y x back : ℕ) (id : LspId) → link_between u.domain.routers y x ≡ Some back → ssn_of (slice_get (happens u (Send y x)).world.routers y) id back ≡ false
unfolding happens
sent_off u y x back id backward = by (slice_get u.routers y) refl
  where
    by : (q : Option Control) → slice_get u.routers y ≡ q → ssn_of (slice_get (sends u y (slice_get u.routers y) (link_between u.domain.routers y x)).world.routers y) id back ≡ false
    by None at = ap (λ (o : Option Control). ssn_of (slice_get (sends u y o (link_between u.domain.routers y x)).world.routers y) id back) at ∙ ap (λ (o : Option Control). ssn_of o id back) at
    by (Some c) at =
        ap (λ (o : Option Control). ssn_of (slice_get (sends u y o (link_between u.domain.routers y x)).world.routers y) id back) at
        ∙ ap (λ (l : Option ℕ). ssn_of (slice_get (sends u y (Some c) l).world.routers y) id back) backward
        ∙ ap (λ (o : Option Control). ssn_of o id back) (set_there u.routers y c (send c back).control at)
        ∙ sent_ssn_off c back id

-- ---- an LSP is acknowledged only if it was to be sent

-- an LSP that is sent has SRM
sent_lsps : (c : Control) (link : ℕ) (id : LspId) (A : Type 0) → slice_index_or c.flood.due link false ≡ false → (srm c.flood id link ≡ true → A) → AllByRecursion (λ p. IsLspFor id p → A) (send_of c link)
unfolding send_of
sent_lsps c link id A off marked =
    subst (λ (b : Bool). AllByRecursion (λ p. IsLspFor id p → A) (due_csnps c b ++ (due_lsps c link ++ due_psnps c link))) (sym off)
    (each_joined (λ p. IsLspFor id p → A) (due_lsps c link) (due_psnps c link)
    (each_mapped (λ p. IsLspFor id p → A) lsp_of (filter (λ e. srm c.flood e.id link) c.entries)
    (each_weaker (λ e. srm c.flood e.id link ≡ true) (λ e. e.id ≡ id → A) (λ e set is. marked (ap (λ (i : LspId). srm c.flood i link) (sym is) ∙ set)) (filter (λ e. srm c.flood e.id link) c.entries) (each_passing (λ e. srm c.flood e.id link) c.entries)))
    (each_mapped (λ p. IsLspFor id p → A) (psnp_of c) (blocks most_listed (map summary_of (filter (λ e. ssn c.flood e.id link) c.entries))) (each_from (λ rows. IsLspFor id (psnp_of c rows) → A) (λ rows none. absurd none) (blocks most_listed (map summary_of (filter (λ e. ssn c.flood e.id link) c.entries))))))

module _ (d : DomainConf) (x y link back : ℕ) (joined : IsLink d x y link back) (id : LspId) (A : Type 0) where
  -- SRM of x and LSPs in flight from x are as A says
  pub record IsSaid (u : WorldState) : Type 0 where
    pub calm : IsCalm u
    pub domain : u.domain ≡ d
    pub marked : srm_of (slice_get u.routers x) id link ≡ true → A
    pub sent : AllByRecursion (λ item. IsLspItem id item → A) (queue_at u.flights x link)

  Given : ℕ → ℕ → Item → Type 0
  Given a l item = a ≡ x → l ≡ link → IsLspItem id item → A

  given_all : (u : WorldState) → IsSaid u → AllQueues Given u.flights
  unfolding Given
  given_all u s a l = each_given (λ (from : a ≡ x). l ≡ link) (λ item. IsLspItem id item → A) (queue_at u.flights a l)
      (λ p q. subst (λ (n : ℕ). AllByRecursion (λ item. IsLspItem id item → A) (queue_at u.flights n l)) (sym p) (subst (λ (n : ℕ). AllByRecursion (λ item. IsLspItem id item → A) (queue_at u.flights x n)) (sym q) s.sent))

  given_next : (u : WorldState) → IsSaid u → (e : Event) → IsOfRound e → AllQueues Given (happens u e).world.flights
  unfolding Given
  given_next u s (Take a b i) of = take_flights Given (λ a l z h p q lsp. absurd (no_packet id z h lsp)) u s.calm.run.fresh (given_all u s) a b i
  given_next u s (Send a b) of =
      send_flights Given u (given_all u s) a b
      (λ c l at between. each_weaker (λ p. IsLspFor id p → (a ≡ x → l ≡ link → A)) (λ p. Given a l (ControlItem p)) (λ p h from over lsp. h lsp from over) (send_of c l)
      (sent_lsps c l id (a ≡ x → l ≡ link → A) (none_due u s.calm a b c l at between) (λ set from over. s.marked (ap (λ (n : ℕ). srm_of (slice_get u.routers n) id link) (sym from) ∙ ap (λ (o : Option Control). srm_of o id link) at ∙ ap (srm c.flood id) (sym over) ∙ set))))
  given_next u s other of = absurd of

  said_step : (u : WorldState) (e : Event) → IsOfRound e → EventFits (length u.domain.routers) e → event_fault u e ≡ None → IsSaid u → IsSaid (happens u e).world
  unfolding Given
  said_step u e of fits ok s = record {
    calm = calm_step u s.calm e of fits ok;
    domain = (still_step u e (round_traffic e of)).domain ∙ s.domain;
    marked = λ set. s.marked (srm_falls u s.calm e of x id link set);
    sent = each_weaker (λ item. Given x link item) (λ item. IsLspItem id item → A) (λ item h. h refl refl) (queue_at (happens u e).world.flights x link) (given_next u s e of x link);
  }

  -- y has SSN there only if A holds
  abbrev Asked : WorldState → Type 0
  Asked u = ssn_of (slice_get u.routers y) id back ≡ true → A

  asked_step : (u : WorldState) (e : Event) → IsOfRound e → IsSaid u → Asked u → Asked (happens u e).world
  asked_step u e of s asked set = elim (ssn_from u s.calm e of y id back set) [
    | inl had ↦ asked had
    | inr ack ↦ arrived ack
  ]
    where
      arrived : Acknowledges u s.calm e y id back → A
      arrived (a, i, is, rs, arr, same, lsp) =
          let systems = s.calm.run.truth.valid.consistent.systems in
          let from : a ≡ x =
          sym (peer_is u.domain.routers systems y a arr.back arr.backward) ∙ ap (peer_place u.domain.routers y) same
          ∙ peer_is u.domain.routers systems y x back (ap (λ (c : DomainConf). link_between c.routers y x) s.domain ∙ joined.backward) in
          let over : arr.link ≡ link = same_Some arr.link link (sym arr.toward ∙ ap (λ (n : ℕ). link_between u.domain.routers n y) from ∙ ap (λ (c : DomainConf). link_between c.routers x y) s.domain ∙ joined.toward) in
          let there : slice_get (queue_at u.flights x link) i ≡ Some (ControlItem arr.pdu) = ap (λ (n : ℕ). slice_get (queue_at u.flights n link) i) (sym from) ∙ ap (λ (n : ℕ). slice_get (queue_at u.flights a n) i) (sym over) ∙ arr.there in
          each_got (λ item. IsLspItem id item → A) (queue_at u.flights x link) i (ControlItem arr.pdu) s.sent there lsp

  asked_on : (es : List Event) (u : WorldState) → AllByRecursion IsOfRound es → AreAllowed u es → IsSaid u → Asked u → IsSaid (world_after u es) × Asked (world_after u es)
  asked_on es u of allowed s asked = round_keeps (λ v. IsSaid v × Asked v) (λ v e of fits ok h. (said_step v e of fits ok h.0, asked_step v e of h.0 h.1)) es u of allowed (s, asked)

  -- once y has sent, it has not
  sends_ask : (ds : List Direction) (u : WorldState) → AreAllowed u (map send_event ds) → IsSaid u → HasOne (IsAlong y x back) ds → Asked (world_after u (map send_event ds))
  sends_ask [] u allowed s h = absurd h
  sends_ask (t ∷ ds) u allowed s (inl along) =
      let same : Send t.from t.to ≡ Send y x = ap (λ (k : ℕ). Send k t.to) along.from ∙ ap (λ (k : ℕ). Send y k) along.to in
      (asked_on (map send_event ds) (happens u (Send t.from t.to)).world (sends_are IsOfRound (λ a b. tt) ds) allowed.2 (said_step u (Send t.from t.to) tt allowed.0 allowed.1 s)
      (subst (λ (e : Event). Asked (happens u e).world) (sym same) (λ set. absurd (false≢true (sym (off u s) ∙ set))))).1
    where
      off : (u : WorldState) → IsSaid u → ssn_of (slice_get (happens u (Send y x)).world.routers y) id back ≡ false
      off u s = sent_off u y x back id (ap (λ (c : DomainConf). link_between c.routers y x) s.domain ∙ joined.backward)
  sends_ask (t ∷ ds) u allowed s (inr later) = sends_ask ds (happens u (Send t.from t.to)).world allowed.2 (said_step u (Send t.from t.to) tt allowed.0 allowed.1 s) later

  pub round_asks : (w : WorldState) → AreAllowed w (round_events w) → IsSaid w → HasOne (IsAlong y x back) (filter (may_send w) (directions w.domain.routers)) → Asked (world_after w (round_events w))
  round_asks w allowed s along =
      in_round Asked w allowed
      (λ sends takes.
      let ds = directions w.domain.routers in
      let said = round_keeps IsSaid said_step (round_sends w) w (sends_are IsOfRound (λ a b. tt) (filter (may_send w) ds)) sends s in
      (asked_on (round_takes (world_after w (round_sends w)) ds) (world_after w (round_sends w)) (takes_are IsOfRound (λ a b i. tt) ds (world_after w (round_sends w))) takes said (sends_ask (filter (may_send w) ds) w sends s along)).1)
