-- Four rounds bring a domain whose neighbors have the same sequence numbers to rest.
use Rattle.std.proofs.Common.{◌≡◌, inl, inr, ℕ, zero, suc, ◌<◌, Bool, true, false, if◌then◌else◌, List, [], ◌∷◌, map, filter, slice_get, slice_index_or, Option, Some, None, refl, sym, ap, subst, ◌∙◌, arith}
use Rattle.std.specs.List.{AllByRecursion}
use Rattle.std.proofs.lemmas.Bool.{false_from_ne_true, false≢true}
use Rattle.wire_base.specs.declared.addresses.LspId.{LspId}
use Rattle.wire_base.specs.model.Configuration.{DomainConf}
use Rattle.wire_base.specs.model.Control.{Control, FlagRow, IsFlagRow, entry_in, same_id, seq_of, srm_in, ssn_in}
use Rattle.wire_base.specs.model.Flooding.{send, zero_id}
use Rattle.replay_text.specs.declared.event.Event.{Event}
use Rattle.replay_text.specs.declared.event.Event.TheVariants.{Send}
use Rattle.domain_model.specs.Faults.{is_up_toward, up_over}
use Rattle.domain_model.specs.Run.{Direction, directions, may_send, round_events, round_sends, round_takes, settle_events, world_after}
use Rattle.domain_model.specs.Step.{happens, sends}
use Rattle.domain_model.specs.Truth.{IsTrueControl, IsTruthful, confs_now}
use Rattle.domain_model.specs.World.{WorldState, link_between, queue_at, queue_over}
use Rattle.domain_model.proofs.EachLaws.{each_got, each_joined, each_weaker}
use Rattle.domain_model.proofs.LaterTruth.{set_there}
use Rattle.domain_model.proofs.LinkLaws.{end_found, join_of, links_back, peer_is}
use Rattle.domain_model.proofs.QueueLaws.{got_within}
use Rattle.laws_ledger.specs.Runs.{AreAllowed}
use Rattle.laws_settle.specs.Fresh.{HasWholeLinks, number_at}
use Rattle.laws_settle.specs.Gentle.{IsTraffic}
use Rattle.laws_settle.specs.Idle.{IsIdle, IsPacket}
use Rattle.laws_settle.proofs.IdleArrive.{IsReady, round_acknowledges, round_ends}
use Rattle.laws_settle.proofs.IdleCalm.{IsCalm, IsEvenItem, IsOfRound, calm_step, changed, due_of, due_off, even_packet, number_of, sent_due, srm_falls, srm_of, ssn_of}
use Rattle.laws_settle.proofs.IdleDue.{pdu_due, within_off}
use Rattle.laws_settle.proofs.IdleEmpty.{takes_empty}
use Rattle.laws_settle.proofs.Exchange.{router_is}
use Rattle.laws_settle.proofs.IdleRound.{IsLspItem, no_packet, round_asks}
use Rattle.laws_settle.proofs.RestLaws.{IsLevel}
use Rattle.laws_settle.proofs.RoundLaws.{IsOnward, level_on, onward, whole_after}
use Rattle.laws_settle.proofs.RoundQueues.{HasOne}
use Rattle.laws_settle.proofs.RoundReach.{along_all, events_of_round, one_kept}
use Rattle.laws_settle.proofs.RoundTurns.{IsAlong, IsLink, allowed_parts, in_round, send_event, sends_are, takes_are, world_joined}
use Rattle.laws_settle.proofs.RoundUps.{IsStill, still_step}
use Rattle.laws_settle.proofs.RowSrm.{set_off}
use Rattle.laws_settle.proofs.RunLaws.{IsRun, run_step}

-- ---- directions

module _ (w : WorldState) (t : IsTruthful w) (a b link : ℕ) (joined : link_between w.domain.routers a b ≡ Some link) where
  along_at : HasOne (IsAlong a b link) (directions w.domain.routers)
  along_at =
      let j = join_of w.domain.routers a b link joined in
      let f = end_found j.near.ends j.far.system link j.toward in
      along_all w.domain.routers a b link j.near (peer_is w.domain.routers t.valid.consistent.systems a b link joined) j.near_at (got_within j.near.ends link f.at f.there)

  sending_at : up_over (slice_get w.routers a) (Some link) ≡ true → HasOne (IsAlong a b link) (filter (may_send w) (directions w.domain.routers))
  sending_at up = one_kept (IsAlong a b link) (may_send w) (directions w.domain.routers) (λ s h. ap (λ (k : ℕ). up_over (slice_get w.routers k) (Some s.link)) h.from ∙ ap (λ (k : ℕ). up_over (slice_get w.routers a) (Some k)) h.over ∙ up) along_at

round_of : (w : WorldState) → AllByRecursion IsOfRound (round_events w)
unfolding round_events
round_of w = each_joined IsOfRound (round_sends w) (round_takes (world_after w (round_sends w)) (directions w.domain.routers)) (sends_are IsOfRound (λ a b. tt) (filter (may_send w) (directions w.domain.routers))) (takes_are IsOfRound (λ a b i. tt) (directions w.domain.routers) (world_after w (round_sends w)))

-- ---- CSNPs that are due

due_step : (w : WorldState) (e : Event) → IsOfRound e → (z link : ℕ) → due_of (slice_get w.routers z) link ≡ false → due_of (slice_get (happens w e).world.routers z) link ≡ false
due_step w e of z link =
    changed w e of (λ y o p. due_of o link ≡ false → due_of p link ≡ false) (λ y o h. h) (λ a b i is rs arr h. ap (λ (l : List Bool). slice_index_or l link false) (pdu_due arr.router arr.back arr.pdu) ∙ h)
    (λ a b is rs s h. ap (λ (l : List Bool). slice_index_or l link false) (sent_due s.router s.link) ∙ due_off s.router.flood.due s.link link h) z

due_on : (es : List Event) (w : WorldState) → AllByRecursion IsOfRound es → (z link : ℕ) → due_of (slice_get w.routers z) link ≡ false → due_of (slice_get (world_after w es).routers z) link ≡ false
due_on [] w of z link h = h
due_on (e ∷ es) w of z link h = due_on es (happens w e).world of.1 z link (due_step w e of.0 z link h)

sent_none : (u : WorldState) (a b link : ℕ) → link_between u.domain.routers a b ≡ Some link → due_of (slice_get (happens u (Send a b)).world.routers a) link ≡ false
unfolding happens
sent_none u a b link joined = by (slice_get u.routers a) refl
  where
    by : (q : Option Control) → slice_get u.routers a ≡ q → due_of (slice_get (sends u a (slice_get u.routers a) (link_between u.domain.routers a b)).world.routers a) link ≡ false
    by None at = ap (λ (o : Option Control). due_of (slice_get (sends u a o (link_between u.domain.routers a b)).world.routers a) link) at ∙ ap (λ (o : Option Control). due_of o link) at
    by (Some c) at =
        ap (λ (o : Option Control). due_of (slice_get (sends u a o (link_between u.domain.routers a b)).world.routers a) link) at
        ∙ ap (λ (l : Option ℕ). due_of (slice_get (sends u a (Some c) l).world.routers a) link) joined
        ∙ ap (λ (o : Option Control). due_of o link) (set_there u.routers a c (send c link).control at)
        ∙ ap (λ (l : List Bool). slice_index_or l link false) (sent_due c link) ∙ set_off c.flood.due link

sends_none : (d : DomainConf) (a b link : ℕ) → link_between d.routers a b ≡ Some link → (ds : List Direction) (u : WorldState) → AreAllowed u (map send_event ds) → IsRun u → u.domain ≡ d → HasOne (IsAlong a b link) ds → due_of (slice_get (world_after u (map send_event ds)).routers a) link ≡ false
sends_none d a b link joined [] u allowed run domain h = absurd h
sends_none d a b link joined (s ∷ ds) u allowed run domain (inl along) =
    let same : Send s.from s.to ≡ Send a b = ap (λ (k : ℕ). Send k s.to) along.from ∙ ap (λ (k : ℕ). Send a k) along.to in
    due_on (map send_event ds) (happens u (Send s.from s.to)).world (sends_are IsOfRound (λ a b. tt) ds) a link
    (subst (λ (e : Event). due_of (slice_get (happens u e).world.routers a) link ≡ false) (sym same) (sent_none u a b link (ap (λ (c : DomainConf). link_between c.routers a b) domain ∙ joined)))
sends_none d a b link joined (s ∷ ds) u allowed run domain (inr later) =
    sends_none d a b link joined ds (happens u (Send s.from s.to)).world allowed.2 (run_step u (Send s.from s.to) run allowed.0 allowed.1 tt) ((still_step u (Send s.from s.to) tt).domain ∙ domain) later

-- ---- interfaces that are down

rows_off : (up : List Bool) (rows : List FlagRow) (id : LspId) (link : ℕ) → AllByRecursion (IsFlagRow up) rows → slice_index_or up link false ≡ false → (srm_in rows id link ≡ false) × (ssn_in rows id link ≡ false)
rows_off up [] id link all off = (refl, refl)
rows_off up (row ∷ rows) id link all off = by (same_id row.id id) (rows_off up rows id link all.1 off)
  where
    by : (b : Bool) → ((srm_in rows id link ≡ false) × (ssn_in rows id link ≡ false)) → ((if b then slice_index_or row.srm link false else srm_in rows id link) ≡ false) × ((if b then slice_index_or row.ssn link false else ssn_in rows id link) ≡ false)
    by true more = (within_off row.srm up link all.0.srm_up off, within_off row.ssn up link all.0.ssn_up off)
    by false more = more

down_off : (w : WorldState) → IsTruthful w → (a link : ℕ) (id : LspId) → up_over (slice_get w.routers a) (Some link) ≡ false → (srm_of (slice_get w.routers a) id link ≡ false) × (ssn_of (slice_get w.routers a) id link ≡ false) × (due_of (slice_get w.routers a) link ≡ false)
down_off w t a link id off = by (slice_get w.routers a) refl off
  where
    by : (o : Option Control) → slice_get w.routers a ≡ o → up_over o (Some link) ≡ false → (srm_of o id link ≡ false) × (ssn_of o id link ≡ false) × (due_of o link ≡ false)
    by None at h = (refl, refl, refl)
    by (Some c) at h =
        let r = router_is w t a c at in
        let both = rows_off c.flood.up c.flood.rows id link r.control.flood.rows h in
        (both.0, both.1, within_off c.flood.due c.flood.up link r.control.flood.due_up h)

-- ---- a calm domain without PDUs

pub record IsStill_ (w : WorldState) : Type 0 where
  pub calm : IsCalm w
  pub empty : (a b link : ℕ) → link_between w.domain.routers a b ≡ Some link → AllByRecursion IsPacket (queue_at w.flights a link)

module _ (w : WorldState) (run : IsRun w) (whole : HasWholeLinks w) (level : IsLevel (world_after w (round_events w))) (allowed : AreAllowed w (round_events w)) where
  on_here : IsOnward w (world_after w (round_events w))
  on_here = onward (round_events w) w (events_of_round w) allowed run

  empty_after : (a b link : ℕ) → link_between w.domain.routers a b ≡ Some link → AllByRecursion IsPacket (queue_at (world_after w (round_events w)).flights a link)
  empty_after a b link joined =
      in_round (λ v. AllByRecursion IsPacket (queue_at v.flights a link)) w allowed
      (λ sends takes.
      let ds = directions w.domain.routers in
      let on = onward (round_sends w) w (sends_are IsTraffic (λ p q. tt) (filter (may_send w) ds)) sends run in
      let back = links_back w.domain run.truth.valid.consistent a b link joined in
      takes_empty w.domain a b link back.0 (record { toward = joined; backward = back.1 }) ds (world_after w (round_sends w)) takes (record { run = on.run; domain = on.still.domain }) (along_at w run.truth a b link joined))

  due_sent : (a b link : ℕ) → link_between w.domain.routers a b ≡ Some link → up_over (slice_get w.routers a) (Some link) ≡ true → due_of (slice_get (world_after w (round_events w)).routers a) link ≡ false
  due_sent a b link joined up =
      in_round (λ v. due_of (slice_get v.routers a) link ≡ false) w allowed
      (λ sends takes.
      let ds = directions w.domain.routers in
      let after = world_after w (round_sends w) in
      due_on (round_takes after ds) after (takes_are IsOfRound (λ p q i. tt) ds after) a link (sends_none w.domain a b link joined (filter (may_send w) ds) w sends run refl (sending_at w run.truth a b link joined up)))

  due_after : (a b link : ℕ) → link_between w.domain.routers a b ≡ Some link → due_of (slice_get (world_after w (round_events w)).routers a) link ≡ false
  due_after a b link joined = by (up_over (slice_get w.routers a) (Some link)) refl
    where
      by : (u : Bool) → up_over (slice_get w.routers a) (Some link) ≡ u → due_of (slice_get (world_after w (round_events w)).routers a) link ≡ false
      by true up = due_sent a b link joined up
      by false down = (down_off (world_after w (round_events w)) on_here.run.truth a link zero_id (on_here.still.up a link ∙ down)).2

  still_after : IsStill_ (world_after w (round_events w))
  still_after =
      let v = world_after w (round_events w) in
      let back : (a b link : ℕ) → link_between v.domain.routers a b ≡ Some link → link_between w.domain.routers a b ≡ Some link = λ a b link joined. ap (λ (d : DomainConf). link_between d.routers a b) (sym on_here.still.domain) ∙ joined in
      record {
        calm = record {
          run = on_here.run;
          whole = whole_after w v on_here.still whole;
          level = level;
          due = λ a b link joined. due_after a b link (back a b link joined);
          even = λ a b link joined. each_weaker IsPacket (IsEvenItem (number_at v a)) (even_packet (number_at v a)) (queue_at v.flights a link) (empty_after a b link (back a b link joined));
        };
        empty = λ a b link joined. empty_after a b link (back a b link joined);
      }

-- ---- the flags of a round

-- both interfaces of a link are up
record IsPair (w : WorldState) (x y link back : ℕ) : Type 0 where
  toward : link_between w.domain.routers x y ≡ Some link
  backward : link_between w.domain.routers y x ≡ Some back
  near : up_over (slice_get w.routers x) (Some link) ≡ true
  far : up_over (slice_get w.routers y) (Some back) ≡ true

turned : (w : WorldState) (x y link back : ℕ) → IsPair w x y link back → IsPair w y x back link
turned w x y link back p = record { toward = p.backward; backward = p.toward; near = p.far; far = p.near }

pair_after : (w v : WorldState) (x y link back : ℕ) → IsStill w v → IsPair w x y link back → IsPair v x y link back
pair_after w v x y link back s p = record {
  toward = ap (λ (d : DomainConf). link_between d.routers x y) s.domain ∙ p.toward;
  backward = ap (λ (d : DomainConf). link_between d.routers y x) s.domain ∙ p.backward;
  near = s.up x link ∙ p.near;
  far = s.up y back ∙ p.far;
}

srm_on : (es : List Event) (w : WorldState) → AllByRecursion IsOfRound es → AreAllowed w es → IsCalm w → (z : ℕ) (id : LspId) (k : ℕ) → srm_of (slice_get (world_after w es).routers z) id k ≡ true → srm_of (slice_get w.routers z) id k ≡ true
srm_on [] w of allowed calm z id k set = set
srm_on (e ∷ es) w of allowed calm z id k set = srm_falls w calm e of.0 z id k (srm_on es (happens w e).world of.1 allowed.2 (calm_step w calm e of.0 allowed.0 allowed.1) z id k set)

module _ (w : WorldState) (s : IsStill_ w) (allowed : AreAllowed w (round_events w)) (x y link back : ℕ) (p : IsPair w x y link back) (id : LspId) where
  after : WorldState
  after = world_after w (round_events w)

  link_here : IsLink w.domain x y link back
  link_here = record { toward = p.toward; backward = p.backward }

  ready_here : IsReady w.domain x y link back w
  ready_here = record { calm = s.calm; domain = refl; near = p.near; far = p.far }

  -- an LSP is acknowledged if it was to be sent
  acknowledged : srm_of (slice_get w.routers x) id link ≡ true → ssn_of (slice_get (world_after w (round_events w)).routers y) id back ≡ true
  acknowledged set = round_acknowledges w.domain x y link back link_here id w allowed ready_here (along_at w s.calm.run.truth x y link p.toward) (sending_at w s.calm.run.truth x y link p.toward p.near) set

  -- and only then
  asked : ssn_of (slice_get (world_after w (round_events w)).routers y) id back ≡ true → srm_of (slice_get w.routers x) id link ≡ true
  asked = round_asks w.domain x y link back link_here id (srm_of (slice_get w.routers x) id link ≡ true) w allowed
      (record { calm = s.calm; domain = refl; marked = λ set. set; sent = each_weaker IsPacket (λ item. IsLspItem id item → srm_of (slice_get w.routers x) id link ≡ true) (λ item h lsp. absurd (no_packet id item h lsp)) (queue_at w.flights x link) (s.empty x y link p.toward) })
      (sending_at w s.calm.run.truth y x back p.backward p.far)

  -- an acknowledgement ends the sending
  ended : ssn_of (slice_get w.routers x) id link ≡ true → 0 < number_at w x id → srm_of (slice_get (world_after w (round_events w)).routers y) id back ≡ false
  ended set some = round_ends w.domain x y link back link_here id w allowed ready_here (along_at w s.calm.run.truth x y link p.toward) (sending_at w s.calm.run.truth x y link p.toward p.near) set some

-- ---- three rounds

-- an LSP with SRM has a sequence number
marked_some : (w : WorldState) → IsCalm w → (a k : ℕ) (id : LspId) → srm_of (slice_get w.routers a) id k ≡ true → 0 < number_at w a id
marked_some w calm a k id set = by (slice_get w.routers a) refl set
  where
    some : (n : ℕ) → (n ≡ 0 → ⊥) → 0 < n
    some n h = omega (arith, h)

    by : (o : Option Control) → slice_get w.routers a ≡ o → srm_of o id k ≡ true → 0 < number_at w a id
    by None at h = absurd (false≢true h)
    by (Some c) at h =
        let t = each_got (IsTrueControl (confs_now w)) w.routers a c calm.run.truth.controls at in
        let m = some (seq_of (entry_in c.entries id)) (λ z. false≢true (sym (t.unsent id k z) ∙ h)) in
        let n = number_of w a c at id in
        omega (arith, m, n)

up_is : (w : WorldState) (a b link : ℕ) → link_between w.domain.routers a b ≡ Some link → up_over (slice_get w.routers a) (Some link) ≡ true → is_up_toward w a b ≡ true
up_is w a b link joined up = ap (up_over (slice_get w.routers a)) joined ∙ up

module _ (w : WorldState) (s : IsStill_ w) (first : AreAllowed w (round_events w)) (second : AreAllowed (world_after w (round_events w)) (round_events (world_after w (round_events w))))
    (third : AreAllowed (world_after (world_after w (round_events w)) (round_events (world_after w (round_events w)))) (round_events (world_after (world_after w (round_events w)) (round_events (world_after w (round_events w)))))) where
  abbrev w1 : WorldState
  w1 = world_after w (round_events w)

  abbrev w2 : WorldState
  w2 = world_after (world_after w (round_events w)) (round_events (world_after w (round_events w)))

  abbrev w3 : WorldState
  w3 = world_after (world_after (world_after w (round_events w)) (round_events (world_after w (round_events w)))) (round_events (world_after (world_after w (round_events w)) (round_events (world_after w (round_events w)))))

  s1 : IsStill_ w1
  s1 = still_after w s.calm.run s.calm.whole (level_on (round_events w) w (events_of_round w) first s.calm.run s.calm.whole s.calm.level) first

  s2 : IsStill_ w2
  s2 = still_after w1 s1.calm.run s1.calm.whole (level_on (round_events w1) w1 (events_of_round w1) second s1.calm.run s1.calm.whole s1.calm.level) second

  s3 : IsStill_ w3
  s3 = still_after w2 s2.calm.run s2.calm.whole (level_on (round_events w2) w2 (events_of_round w2) third s2.calm.run s2.calm.whole s2.calm.level) third

  still1 : IsStill w w1
  still1 = (onward (round_events w) w (events_of_round w) first s.calm.run).still

  still2 : IsStill w1 w2
  still2 = (onward (round_events w1) w1 (events_of_round w1) second s1.calm.run).still

  still3 : IsStill w2 w3
  still3 = (onward (round_events w2) w2 (events_of_round w2) third s2.calm.run).still

  -- after two rounds none is to be sent
  none_marked : (x y link back : ℕ) → IsPair w x y link back → (id : LspId) → srm_of (slice_get w2.routers y) id back ≡ true → ⊥
  none_marked x y link back p id set2 =
      let p1 = pair_after w w1 x y link back still1 p in
      let set1 = srm_on (round_events w1) w1 (round_of w1) second s1.calm y id back set2 in
      let set0 = srm_on (round_events w) w (round_of w) first s.calm y id back set1 in
      let ack : ssn_of (slice_get w1.routers x) id link ≡ true = acknowledged w s first y x back link (turned w x y link back p) id set0 in
      let m = marked_some w1 s1.calm y back id set1 in
      let l = s1.calm.level y x id (up_is w1 y x back p1.backward p1.far) (up_is w1 x y link p1.toward p1.near) in
      false≢true (sym (ended w1 s1 second x y link back p1 id ack (omega (arith, m, l))) ∙ set2)

  -- the pair of an interface that is up
  pair_at : (a b link : ℕ) → link_between w3.domain.routers a b ≡ Some link → up_over (slice_get w3.routers a) (Some link) ≡ true → (back : ℕ) × IsPair w a b link back
  pair_at a b link joined up =
      let still : IsStill w w3 = record { domain = still3.domain ∙ still2.domain ∙ still1.domain; up = λ z l. still3.up z l ∙ still2.up z l ∙ still1.up z l } in
      let toward : link_between w.domain.routers a b ≡ Some link = ap (λ (d : DomainConf). link_between d.routers a b) (sym still.domain) ∙ joined in
      let back = links_back w.domain s.calm.run.truth.valid.consistent a b link toward in
      let near : up_over (slice_get w.routers a) (Some link) ≡ true = sym (still.up a link) ∙ up in
      (back.0, record { toward = toward; backward = back.1; near = near; far = sym (ap (up_over (slice_get w.routers b)) back.1) ∙ sym (s.calm.whole a b) ∙ up_is w a b link toward near })

  srm_ends : (a b link : ℕ) → link_between w3.domain.routers a b ≡ Some link → (id : LspId) → srm_of (slice_get w3.routers a) id link ≡ false
  srm_ends a b link joined id = by (up_over (slice_get w3.routers a) (Some link)) refl
    where
      by : (u : Bool) → up_over (slice_get w3.routers a) (Some link) ≡ u → srm_of (slice_get w3.routers a) id link ≡ false
      by false down = (down_off w3 s3.calm.run.truth a link id down).0
      by true up =
          let p = pair_at a b link joined up in
          false_from_ne_true (srm_of (slice_get w3.routers a) id link) (λ set. none_marked b a p.0 link (turned w a b link p.0 p.1) id (srm_on (round_events w2) w2 (round_of w2) third s2.calm a id link set))

  ssn_ends : (a b link : ℕ) → link_between w3.domain.routers a b ≡ Some link → (id : LspId) → ssn_of (slice_get w3.routers a) id link ≡ false
  ssn_ends a b link joined id = by (up_over (slice_get w3.routers a) (Some link)) refl
    where
      by : (u : Bool) → up_over (slice_get w3.routers a) (Some link) ≡ u → ssn_of (slice_get w3.routers a) id link ≡ false
      by false down = (down_off w3 s3.calm.run.truth a link id down).1
      by true up =
          let p = pair_at a b link joined up in
          let p2 = pair_after w1 w2 a b link p.0 still2 (pair_after w w1 a b link p.0 still1 p.1) in
          false_from_ne_true (ssn_of (slice_get w3.routers a) id link) (λ set. none_marked a b link p.0 p.1 id (asked w2 s2 third b a p.0 link (turned w2 a b link p.0 p2) id set))

  three_idle : IsIdle w3
  three_idle = record {
    srm_off = λ a b link c id at joined. ap (λ (o : Option Control). srm_of o id link) (sym at) ∙ srm_ends a b link joined id;
    ssn_off = λ a b link c id at joined. ap (λ (o : Option Control). ssn_of o id link) (sym at) ∙ ssn_ends a b link joined id;
    due_off = λ a b link c at joined. ap (λ (o : Option Control). due_of o link) (sym at) ∙ s3.calm.due a b link joined;
    no_pdus = λ a b. by a (link_between w3.domain.routers a b) (λ link joined. s3.empty a b link joined);
  }
    where
      by : (a : ℕ) (l : Option ℕ) → ((link : ℕ) → l ≡ Some link → AllByRecursion IsPacket (queue_at w3.flights a link)) → AllByRecursion IsPacket (queue_over w3.flights a l)
      by a None all = tt
      by a (Some link) all = all link refl

pub idle_later : (w : WorldState) → IsStill_ w → AreAllowed w (settle_events w 3) → IsIdle (world_after w (settle_events w 3))
unfolding settle_events
idle_later w s allowed =
    let v1 = world_after w (round_events w) in
    let v2 = world_after v1 (round_events v1) in
    let v3 = world_after v2 (round_events v2) in
    let a0 = allowed_parts (round_events w) (settle_events v1 2) w allowed in
    let a1 = allowed_parts (round_events v1) (settle_events v2 1) v1 a0.1 in
    let a2 = allowed_parts (round_events v2) (settle_events v3 0) v2 a1.1 in
    subst IsIdle (sym (world_joined (round_events w) (settle_events v1 2) w ∙ world_joined (round_events v1) (settle_events v2 1) v1 ∙ world_joined (round_events v2) (settle_events v3 0) v2)) (three_idle w s a0.0 a1.0 a2.0)

-- a round leaves nothing in flight, nor due
pub settled_still : (rounds : ℕ) (w : WorldState) → IsRun w → HasWholeLinks w → AreAllowed w (settle_events w rounds) → 0 < rounds → IsLevel (world_after w (settle_events w rounds)) → IsStill_ (world_after w (settle_events w rounds))
unfolding settle_events
settled_still zero w run whole allowed some level = absurd (omega (arith, some))
settled_still (suc zero) w run whole allowed some level =
    let v = world_after w (round_events w) in
    let parts = allowed_parts (round_events w) (settle_events v 0) w allowed in
    let joined = world_joined (round_events w) (settle_events v 0) w in
    subst IsStill_ (sym joined) (still_after w run whole (subst IsLevel joined level) parts.0)
settled_still (suc (suc rounds)) w run whole allowed some level =
    let v = world_after w (round_events w) in
    let parts = allowed_parts (round_events w) (settle_events v (suc rounds)) w allowed in
    let on = onward (round_events w) w (events_of_round w) parts.0 run in
    let joined = world_joined (round_events w) (settle_events v (suc rounds)) w in
    subst IsStill_ (sym joined) (settled_still (suc rounds) v on.run (whole_after w v on.still whole) parts.1 (omega arith) (subst IsLevel joined level))
