-- After as many rounds as a domain has routers, it is quiet.
use Rattle.std.proofs.Common.{◌≡◌, ◌⊎◌, inl, inr, ℕ, zero, suc, ◌+◌, ◌<◌, ◌≤◌, nat_le, Bool, true, List, [], ◌∷◌, length, slice_get, Option, Some, None, refl, sym, ap, subst, ◌∙◌, arith}
use Rattle.std.specs.List.{AllByRecursion}
use Rattle.std.proofs.lemmas.Bool.{le-leb, leb-true}
use Rattle.std.proofs.lemmas.List.{length-map}
use Rattle.wire_base.specs.declared.addresses.LspId.{LspId}
use Rattle.wire_base.specs.declared.conf.RouterConf.{RouterConf}
use Rattle.wire_base.specs.model.Configuration.{DomainConf}
use Rattle.wire_base.specs.model.Control.{Control}
use Rattle.replay_text.specs.declared.event.Event.{Event}
use Rattle.laws_router.specs.Becoming.{HaveBecome}
use Rattle.domain_model.specs.Faults.{is_up_toward, up_over}
use Rattle.domain_model.specs.Run.{round_events, settle_events, world_after}
use Rattle.domain_model.specs.Step.{happens}
use Rattle.domain_model.specs.Truth.{IsTruthful, confs_now}
use Rattle.domain_model.specs.World.{WorldState, link_between}
use Rattle.laws_ledger.specs.Runs.{AreAllowed}
use Rattle.laws_quiet.specs.Quiet.{lsdb_of}
use Rattle.laws_settle.specs.Fresh.{HasWholeLinks, number_at, number_in}
use Rattle.laws_settle.specs.Gentle.{IsTraffic}
use Rattle.laws_settle.proofs.OwedSteps.{settling_step}
use Rattle.laws_settle.proofs.RestLaws.{IsLevel, up_at}
use Rattle.laws_settle.proofs.RoundCounts.{Grows, many, many_all, many_some, rises_or_same}
use Rattle.laws_settle.proofs.RoundReach.{events_of_round, round_reaches}
use Rattle.laws_settle.proofs.RoundTurns.{allowed_parts, world_joined}
use Rattle.laws_settle.proofs.RoundStable.{brings_step}
use Rattle.laws_settle.proofs.RoundStays.{gentle_of}
use Rattle.laws_settle.proofs.WorldUps.{over_none}
use Rattle.laws_settle.proofs.RoundUps.{IsStill, still_step}
use Rattle.laws_settle.proofs.RunLaws.{IsRun, run_step}

-- ---- interfaces

pub toward_same : (w v : WorldState) → IsStill w v → (a b : ℕ) → is_up_toward v a b ≡ is_up_toward w a b
toward_same w v still a b = ap (λ (d : DomainConf). up_over (slice_get v.routers a) (link_between d.routers a b)) still.domain ∙ by (link_between w.domain.routers a b)
  where
    by : (l : Option ℕ) → up_over (slice_get v.routers a) l ≡ up_over (slice_get w.routers a) l
    by None = over_none (slice_get v.routers a) ∙ sym (over_none (slice_get w.routers a))
    by (Some link) = still.up a link

-- ---- traffic

-- what they leave: the interfaces, and at least the sequence numbers of before
pub record IsOnward (w v : WorldState) : Type 0 where
  pub run : IsRun v
  pub still : IsStill w v
  pub rise : (a : ℕ) (id : LspId) → number_at w a id ≤ number_at v a id

pub onward : (es : List Event) (w : WorldState) → AllByRecursion IsTraffic es → AreAllowed w es → IsRun w → IsOnward w (world_after w es)
onward [] w of allowed run = record { run = run; still = record { domain = refl; up = λ a link. refl }; rise = λ a id. omega arith }
onward (e ∷ es) w of allowed run =
    let next = run_step w e run allowed.0 allowed.1 (gentle_of w e of.0) in
    let rest = onward es (happens w e).world of.1 allowed.2 next in
    let still = still_step w e of.0 in
    let settling = settling_step w run.truth run.fresh e (gentle_of w e of.0) in
    record {
      run = rest.run;
      still = record { domain = rest.still.domain ∙ still.domain; up = λ a link. rest.still.up a link ∙ still.up a link };
      rise = λ a id. (let m = settling.rise a id in let n = rest.rise a id in omega (arith, m, n));
    }

-- a router has an LSP of that number where its neighbors have it
abbrev IsClosed : LspId → ℕ → WorldState → Type 0
IsClosed id n w = (a b : ℕ) → is_up_toward w b a ≡ true → n ≤ number_at w a id → n ≤ number_at w b id

module _ (id : LspId) (n : ℕ) where
  closed_step : (w : WorldState) (e : Event) → IsTraffic e → IsRun w → IsClosed id n w → IsClosed id n (happens w e).world
  closed_step w e of run closed a b up h =
      let still = still_step w e of in
      let rise = (settling_step w run.truth run.fresh e (gentle_of w e of)).rise b id in
      let had : n ≤ number_at w a id = elim (brings_step id n w run.truth run.fresh e of a h) [
        | inl same ↦ same
        | inr near ↦ closed near.0 a near.1 near.2
      ] in
      let before = closed a b (sym (toward_same w (happens w e).world still b a) ∙ up) had in
      omega (arith, rise, before)

  closed_on : (es : List Event) (w : WorldState) → AllByRecursion IsTraffic es → AreAllowed w es → IsRun w → IsClosed id n w → IsClosed id n (world_after w es)
  closed_on [] w of allowed run closed = closed
  closed_on (e ∷ es) w of allowed run closed = closed_on es (happens w e).world of.1 allowed.2 (run_step w e run allowed.0 allowed.1 (gentle_of w e of.0)) (closed_step w e of.0 run closed)

-- ---- a round

pub whole_after : (w v : WorldState) → IsStill w v → HasWholeLinks w → HasWholeLinks v
whole_after w v still whole a b = toward_same w v still a b ∙ whole a b ∙ sym (toward_same w v still b a)

-- each router gets what its neighbors had
pub gets : (w : WorldState) → IsRun w → HasWholeLinks w → AreAllowed w (round_events w) → (a b : ℕ) → is_up_toward w b a ≡ true → (id : LspId) → number_at w a id ≤ number_at (world_after w (round_events w)) b id
gets w run whole allowed a b up id =
    let near = up_at w a b (whole a b ∙ up) in
    let far = up_at w b a up in
    round_reaches w.domain a b near.link far.link (record { toward = near.toward; backward = far.toward }) id (number_at w a id) w allowed
    (record {
      run = run;
      domain = refl;
      near = ap (λ (o : Option Control). up_over o (Some near.link)) near.at ∙ near.up;
      far = ap (λ (o : Option Control). up_over o (Some far.link)) far.at ∙ far.up;
      some = omega arith;
    })

become_length : (rs qs : List RouterConf) → HaveBecome rs qs → length rs ≡ length qs
become_length [] [] b = refl
become_length [] (y ∷ ys) b = absurd b
become_length (x ∷ xs) [] b = absurd b
become_length (x ∷ xs) (y ∷ ys) b = ap suc (become_length xs ys b.1)

routers_are : (w : WorldState) → IsTruthful w → length w.routers ≡ length w.domain.routers
routers_are w t = sym (length-map w.routers (λ (c : Control). c.conf)) ∙ sym (become_length w.domain.routers (confs_now w) t.become)

-- lists of one length end together
beyond : (xs ys : List Control) (i : ℕ) (e : Control) → length xs ≡ length ys → slice_get xs i ≡ None → slice_get ys i ≡ Some e → ⊥
beyond [] [] i e long s t = cc
beyond [] (y ∷ ys) i e long s t = omega (arith, long)
beyond (x ∷ xs) [] i e long s t = cc
beyond (x ∷ xs) (y ∷ ys) zero e long s t = cc
beyond (x ∷ xs) (y ∷ ys) (suc i) e long s t = beyond xs ys i e (omega (arith, long)) s t

module _ (id : LspId) (n : ℕ) where
  -- the router has an LSP of that number
  has_number : Control → Bool
  has_number c = nat_le n (number_in c.entries id)

  holders : WorldState → ℕ
  holders w = many has_number w.routers

  -- more routers have it after a round, or it is where it gets
  round_rises : (w : WorldState) → IsRun w → HasWholeLinks w → AreAllowed w (round_events w) → (holders w < holders (world_after w (round_events w))) ⊎ IsClosed id n (world_after w (round_events w))
  unfolding has_number holders
  round_rises w run whole allowed =
      let v = world_after w (round_events w) in
      let on = onward (round_events w) w (events_of_round w) allowed run in
      let long : length w.routers ≡ length v.routers = routers_are w run.truth ∙ ap (λ (d : DomainConf). length d.routers) (sym on.still.domain) ∙ sym (routers_are v on.run.truth) in
      let grows : Grows has_number w.routers v.routers = λ i c e at there has. (
      let l : number_at w i id ≡ number_in c.entries id = ap (λ (o : Option Control). number_in (lsdb_of o) id) at in
      let m : number_at v i id ≡ number_in e.entries id = ap (λ (o : Option Control). number_in (lsdb_of o) id) there in
      let r = on.rise i id in
      let h = leb-true n (number_in c.entries id) has in
      le-leb n (number_in e.entries id) (omega (arith, l, m, r, h))) in
      elim (rises_or_same has_number w.routers v.routers long grows) [
        | inl more ↦ inl more
        | inr same ↦ inr (λ a b up h. (
            let before = kept w v long same a h in
            let r = gets w run whole allowed a b (sym (toward_same w v on.still b a) ∙ up) id in
            omega (arith, before, r)))
      ]
    where
      kept : (w v : WorldState) → length w.routers ≡ length v.routers → Grows has_number v.routers w.routers → (a : ℕ) → n ≤ number_at v a id → n ≤ number_at w a id
      kept w v long same a h = by (slice_get v.routers a) refl (slice_get w.routers a) refl h
        where
          by : (o : Option Control) → slice_get v.routers a ≡ o → (q : Option Control) → slice_get w.routers a ≡ q → n ≤ number_in (lsdb_of o) id → n ≤ number_in (lsdb_of q) id
          by None s q t h = omega (arith, h)
          by (Some e) s None t h = absurd (beyond w.routers v.routers a e long t s)
          by (Some e) s (Some c) t h = leb-true n (number_in c.entries id) (same a e c s t (le-leb n (number_in e.entries id) h))

  rounds_rise : (rounds k : ℕ) (w : WorldState) → IsRun w → HasWholeLinks w → AreAllowed w (settle_events w rounds) → IsClosed id n w ⊎ (k ≤ holders w) → IsClosed id n (world_after w (settle_events w rounds)) ⊎ (rounds + k ≤ holders (world_after w (settle_events w rounds)))
  unfolding settle_events
  rounds_rise zero k w run whole allowed (inl closed) = inl closed
  rounds_rise zero k w run whole allowed (inr low) = inr (omega (arith, low))
  rounds_rise (suc rounds) k w run whole allowed h =
      let v = world_after w (round_events w) in
      let parts = allowed_parts (round_events w) (settle_events v rounds) w allowed in
      let on = onward (round_events w) w (events_of_round w) parts.0 run in
      let rest = λ (x : IsClosed id n v ⊎ (suc k ≤ holders v)). rounds_rise rounds (suc k) v on.run (whole_after w v on.still whole) parts.1 x in
      subst (λ (u : WorldState). IsClosed id n u ⊎ (suc rounds + k ≤ holders u)) (sym (world_joined (round_events w) (settle_events v rounds) w)) (turned (rest (next h (round_rises w run whole parts.0) parts.0)))
    where
      next : (IsClosed id n w ⊎ (k ≤ holders w)) → ((holders w < holders (world_after w (round_events w))) ⊎ IsClosed id n (world_after w (round_events w))) → AreAllowed w (round_events w) → IsClosed id n (world_after w (round_events w)) ⊎ (suc k ≤ holders (world_after w (round_events w)))
      next (inl closed) g all = inl (closed_on id n (round_events w) w (events_of_round w) all run closed)
      next (inr low) (inl more) all = inr (omega (arith, low, more))
      next (inr low) (inr closed) all = inl closed

      turned : (IsClosed id n (world_after (world_after w (round_events w)) (settle_events (world_after w (round_events w)) rounds)) ⊎ (rounds + suc k ≤ holders (world_after (world_after w (round_events w)) (settle_events (world_after w (round_events w)) rounds))))
          → IsClosed id n (world_after (world_after w (round_events w)) (settle_events (world_after w (round_events w)) rounds)) ⊎ (suc rounds + k ≤ holders (world_after (world_after w (round_events w)) (settle_events (world_after w (round_events w)) rounds)))
      turned (inl closed) = inl closed
      turned (inr many_) = inr (omega (arith, many_))

-- neighbors that have the same keep it so
pub level_on : (fs : List Event) (w : WorldState) → AllByRecursion IsTraffic fs → AreAllowed w fs → IsRun w → HasWholeLinks w → IsLevel w → IsLevel (world_after w fs)
level_on fs w of allowed run whole level a b id up back =
    let n = number_at (world_after w fs) a id in
    closed_on id n fs w of allowed run (λ x y there h. (let l = level x y id (whole x y ∙ there) there in omega (arith, l, h))) a b back (omega arith)

-- ---- rounds

pub settled_on : (rounds : ℕ) (w : WorldState) → AreAllowed w (settle_events w rounds) → IsRun w → IsOnward w (world_after w (settle_events w rounds))
unfolding settle_events
settled_on zero w allowed run = onward [] w tt tt run
settled_on (suc rounds) w allowed run =
    let v = world_after w (round_events w) in
    let parts = allowed_parts (round_events w) (settle_events v rounds) w allowed in
    let on = onward (round_events w) w (events_of_round w) parts.0 run in
    let rest = settled_on rounds v parts.1 on.run in
    subst (IsOnward w) (sym (world_joined (round_events w) (settle_events v rounds) w)) (record {
      run = rest.run;
      still = record { domain = rest.still.domain ∙ on.still.domain; up = λ a link. rest.still.up a link ∙ on.still.up a link };
      rise = λ a id. (let m = on.rise a id in let n = rest.rise a id in omega (arith, m, n));
    })

-- a router has it, or it gets nowhere
one_or_none : (id : LspId) (n : ℕ) (w : WorldState) → IsClosed id n w ⊎ (1 ≤ holders id n w)
unfolding holders has_number
one_or_none id n w = by (many (has_number id n) w.routers) refl
  where
    by : (k : ℕ) → many (has_number id n) w.routers ≡ k → IsClosed id n w ⊎ (1 ≤ k)
    by (suc k) q = inr (omega arith)
    by zero q = inl (λ a b up h. at a b (slice_get w.routers a) refl h)
      where
        at : (a b : ℕ) (o : Option Control) → slice_get w.routers a ≡ o → n ≤ number_in (lsdb_of o) id → n ≤ number_at w b id
        at a b None p low = omega (arith, low)
        at a b (Some c) p low = absurd (let m = many_some (has_number id n) w.routers a c p (le-leb n (number_in c.entries id) low) in omega (arith, m, q))

module _ (rounds : ℕ) (w : WorldState) (run : IsRun w) (whole : HasWholeLinks w) (enough : length w.domain.routers ≤ suc rounds) (allowed : AreAllowed w (settle_events w rounds)) where
  -- where all routers have it, each has
  all_have : (id : LspId) (n : ℕ) → rounds + 1 ≤ holders id n (world_after w (settle_events w rounds)) → (a b : ℕ) → is_up_toward (world_after w (settle_events w rounds)) b a ≡ true → n ≤ number_at (world_after w (settle_events w rounds)) b id
  unfolding holders has_number
  all_have id n h a b up =
      let v = world_after w (settle_events w rounds) in
      let on = settled_on rounds w allowed run in
      let u = up_at v b a up in
      let long : length v.routers ≡ length w.domain.routers = routers_are v on.run.truth ∙ ap (λ (d : DomainConf). length d.routers) on.still.domain in
      let has = many_all (has_number id n) v.routers (omega (arith, long, enough, h)) b u.router u.at in
      let m : number_at v b id ≡ number_in u.router.entries id = ap (λ (o : Option Control). number_in (lsdb_of o) id) u.at in
      let l = leb-true n (number_in u.router.entries id) has in
      omega (arith, m, l)

  pub level_after : IsLevel (world_after w (settle_events w rounds))
  level_after a b id up back =
      let v = world_after w (settle_events w rounds) in
      elim (rounds_rise id (number_at v a id) rounds 1 w run whole allowed (one_or_none id (number_at v a id) w)) [
        | inl closed ↦ closed a b back (omega arith)
        | inr all ↦ all_have id (number_at v a id) all a b back
      ]
