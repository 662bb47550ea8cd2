-- In as many rounds as a domain is wide, each router gets what the routers had that it is joined to.
use Rattle.std.proofs.Common.{◌≡◌, inl, inr, ℕ, zero, suc, ◌≤◌, true, List, [], ◌∷◌, refl, sym, ap, subst, ◌∙◌, arith}
use Rattle.std.specs.List.{AllByRecursion}
use Rattle.wire_base.specs.declared.addresses.LspId.{LspId}
use Rattle.replay_text.specs.declared.event.Event.{Event}
use Rattle.domain_model.specs.Faults.{is_up_toward}
use Rattle.domain_model.specs.Run.{round_events, settle_events, world_after}
use Rattle.domain_model.specs.Step.{happens}
use Rattle.domain_model.specs.World.{WorldState}
use Rattle.laws_ledger.specs.Runs.{AreAllowed}
use Rattle.laws_settle.specs.Fresh.{HasWholeLinks, number_at}
use Rattle.laws_settle.specs.Gentle.{IsTraffic}
use Rattle.laws_settle.specs.Width.{AreJoined, HasWidth}
use Rattle.laws_settle.proofs.RestLaws.{IsLevel}
use Rattle.laws_settle.proofs.RoundLaws.{gets, onward, settled_on, toward_same, whole_after}
use Rattle.laws_settle.proofs.RoundReach.{events_of_round}
use Rattle.laws_settle.proofs.RoundTurns.{allowed_parts, world_joined}
use Rattle.laws_settle.proofs.RoundStable.{brings_step}
use Rattle.laws_settle.proofs.RoundStays.{gentle_of}
use Rattle.laws_settle.proofs.RoundUps.{IsStill, still_step}
use Rattle.laws_settle.proofs.RunLaws.{IsRun, run_step}

-- ---- joined routers

joined_self : (w : WorldState) (k a : ℕ) → AreJoined w k a a
joined_self w zero a = refl
joined_self w (suc k) a = inl refl

-- one link more, at the end
joined_last : (w : WorldState) (k a b c : ℕ) → AreJoined w k a b → is_up_toward w b c ≡ true → AreJoined w (suc k) a c
joined_last w zero a b c same up = inr (c, ap (λ (x : ℕ). is_up_toward w x c) same ∙ up, refl)
joined_last w (suc k) a b c (inl same) up = inr (c, ap (λ (x : ℕ). is_up_toward w x c) same ∙ up, joined_self w (suc k) c)
joined_last w (suc k) a b c (inr first) up = inr (first.0, first.1, joined_last w k first.0 b c first.2 up)

joined_still : (w v : WorldState) → IsStill w v → (k a b : ℕ) → AreJoined w k a b → AreJoined v k a b
joined_still w v still zero a b same = same
joined_still w v still (suc k) a b (inl same) = inl same
joined_still w v still (suc k) a b (inr first) = inr (first.0, toward_same w v still a first.0 ∙ first.1, joined_still w v still k first.0 b first.2)

module _ (id : LspId) (n : ℕ) where
  -- ---- where an LSP came from

  -- a router had it that the router is joined to
  record ComesFrom (w : WorldState) (a : ℕ) : Type 0 where
    source : ℕ
    had : n ≤ number_at w source id
    length_ : ℕ
    joined : AreJoined w length_ source a

  origin_step : (w u : WorldState) (e : Event) → IsTraffic e → IsRun u → IsStill w u → HasWholeLinks w → ((a : ℕ) → n ≤ number_at u a id → ComesFrom w a) → (a : ℕ) → n ≤ number_at (happens u e).world a id → ComesFrom w a
  origin_step w u e of run still whole before a h = elim (brings_step id n u run.truth run.fresh e of a h) [
    | inl had ↦ before a had
    | inr near ↦
        let o = before near.0 near.2 in
        record { source = o.source; had = o.had; length_ = suc o.length_; joined = joined_last w o.length_ o.source near.0 a o.joined (whole near.0 a ∙ sym (toward_same w u still a near.0) ∙ near.1) }
  ]

  origin_on : (es : List Event) (w u : WorldState) → AllByRecursion IsTraffic es → AreAllowed u es → IsRun u → IsStill w u → HasWholeLinks w → ((a : ℕ) → n ≤ number_at u a id → ComesFrom w a) → (a : ℕ) → n ≤ number_at (world_after u es) a id → ComesFrom w a
  origin_on [] w u of allowed run still whole before = before
  origin_on (e ∷ es) w u of allowed run still whole before =
      let one = still_step u e of.0 in
      origin_on es w (happens u e).world of.1 allowed.2 (run_step u e run allowed.0 allowed.1 (gentle_of u e of.0))
      (record { domain = one.domain ∙ still.domain; up = λ a link. one.up a link ∙ still.up a link }) whole (origin_step w u e of.0 run still whole before)

  origin_rounds : (rounds : ℕ) (w u : WorldState) → AreAllowed u (settle_events u rounds) → IsRun u → IsStill w u → HasWholeLinks w → ((a : ℕ) → n ≤ number_at u a id → ComesFrom w a) → (a : ℕ) → n ≤ number_at (world_after u (settle_events u rounds)) a id → ComesFrom w a
  unfolding settle_events
  origin_rounds zero w u allowed run still whole before = before
  origin_rounds (suc rounds) w u allowed run still whole before =
      let v = world_after u (round_events u) in
      let parts = allowed_parts (round_events u) (settle_events v rounds) u allowed in
      let on = onward (round_events u) u (events_of_round u) parts.0 run in
      let rest = origin_rounds rounds w v parts.1 on.run (record { domain = on.still.domain ∙ still.domain; up = λ a link. on.still.up a link ∙ still.up a link }) whole (origin_on (round_events u) w u (events_of_round u) parts.0 run still whole before) in
      subst (λ (x : WorldState). (a : ℕ) → n ≤ number_at x a id → ComesFrom w a) (sym (world_joined (round_events u) (settle_events v rounds) u)) rest

  -- ---- where it gets

  spreads : (rounds k : ℕ) (w : WorldState) (a b : ℕ) → IsRun w → HasWholeLinks w → AreAllowed w (settle_events w rounds) → k ≤ rounds → AreJoined w k a b → n ≤ number_at w a id → n ≤ number_at (world_after w (settle_events w rounds)) b id
  unfolding settle_events
  spreads rounds zero w a b run whole allowed few same had = stays rounds w a b run allowed same had
    where
      stays : (rounds : ℕ) (w : WorldState) (a b : ℕ) → IsRun w → AreAllowed w (settle_events w rounds) → a ≡ b → n ≤ number_at w a id → n ≤ number_at (world_after w (settle_events w rounds)) b id
      stays rounds w a b run allowed same had =
          let r = (settled_on rounds w allowed run).rise b id in
          let m = ap (λ (x : ℕ). number_at w x id) same in
          omega (arith, r, m, had)
  spreads zero (suc k) w a b run whole allowed few joined had = absurd (omega (arith, few))
  spreads (suc rounds) (suc k) w a b run whole allowed few (inl same) had =
      let r = (settled_on (suc rounds) w allowed run).rise b id in
      let m = ap (λ (x : ℕ). number_at w x id) same in
      omega (arith, r, m, had)
  spreads (suc rounds) (suc k) w a b run whole allowed few (inr first) had =
      let v = world_after w (round_events w) in
      let parts = allowed_parts (round_events w) (settle_events v rounds) w allowed in
      let on = onward (round_events w) w (events_of_round w) parts.0 run in
      let got = gets w run whole parts.0 a first.0 (sym (whole a first.0) ∙ first.1) id in
      subst (λ (x : WorldState). n ≤ number_at x b id) (sym (world_joined (round_events w) (settle_events v rounds) w))
      (spreads rounds k v first.0 b on.run (whole_after w v on.still whole) parts.1 (omega (arith, few)) (joined_still w v on.still k first.0 b first.2) (omega (arith, got, had)))

-- neighbors have the same
pub wide_level : (rounds : ℕ) (w : WorldState) → IsRun w → HasWholeLinks w → HasWidth w rounds → AreAllowed w (settle_events w rounds) → IsLevel (world_after w (settle_events w rounds))
wide_level rounds w run whole width allowed a b id up back =
    let v = world_after w (settle_events w rounds) in
    let n = number_at v a id in
    let on = settled_on rounds w allowed run in
    let o = origin_rounds id n rounds w w allowed run (record { domain = refl; up = λ x link. refl }) whole (λ x h. record { source = x; had = h; length_ = 0; joined = refl }) a (omega arith) in
    let joined = width (suc o.length_) o.source b (joined_last w o.length_ o.source a b o.joined (sym (toward_same w v on.still a b) ∙ up)) in
    spreads id n rounds rounds w o.source b run whole allowed (omega arith) joined o.had
