-- An LSP that a router sends in a round arrives at the neighbor in that round, or the neighbor has one that is as new.
use Rattle.std.proofs.Common.{◌≡◌, ℕ, ◌≤◌, Bool, true, if◌then◌else◌, List, length, slice_get, slice_set, Option, Some, None, refl, ap, subst, ◌∙◌, arith}
use Rattle.std.proofs.lemmas.Bool.{false≢true}
use Rattle.wire_base.specs.declared.addresses.LspId.{LspId}
use Rattle.wire_base.specs.declared.cause.Cause.TheVariants as cause
use Rattle.wire_base.specs.model.Configuration.{DomainConf}
use Rattle.wire_base.specs.model.Control.{Control}
use Rattle.wire_base.specs.model.Flooding.{on_pdu}
use Rattle.wire_base.specs.model.Item.{ControlItem}
use Rattle.wire_base.specs.model.Pdu.{Head, LspPdu}
use Rattle.replay_text.specs.declared.event.Event.{Event}
use Rattle.replay_text.specs.declared.event.Event.TheVariants.{Take}
use Rattle.domain_model.specs.Faults.{event_fault, up_over}
use Rattle.domain_model.specs.Moves.{item_lost}
use Rattle.domain_model.specs.Step.{Happened, arrives, doing, happens, makes, taken_off}
use Rattle.domain_model.specs.Truth.{EventFits, IsTrueControl, IsTrueItem, confs_now}
use Rattle.domain_model.specs.World.{WorldState, is_up, link_between, peer_place, queue_at}
use Rattle.domain_model.proofs.ControlTruth.{state_of}
use Rattle.domain_model.proofs.EachLaws.{each_got}
use Rattle.domain_model.proofs.FloodTruth.{on_lsp_true}
use Rattle.domain_model.proofs.LaterTruth.{set_there}
use Rattle.laws_quiet.specs.Quiet.{lsdb_of}
use Rattle.laws_settle.specs.Fresh.{IsItemOfJournal, number_at, number_in}
use Rattle.laws_settle.specs.Gentle.{IsTraffic}
use Rattle.laws_settle.proofs.LspReach.{lsp_reaches}
use Rattle.laws_settle.proofs.OwedSteps.{settling_step}
use Rattle.laws_settle.proofs.RoundQueues.{StandsAt}
use Rattle.laws_settle.proofs.RoundStays.{gentle_of}
use Rattle.laws_settle.proofs.RoundTurns.{IsLink, taking_is}
use Rattle.laws_settle.proofs.RoundUps.{still_step}
use Rattle.laws_settle.proofs.RunLaws.{IsRun, run_step}

-- in a round, where both interfaces are up, and the number of x is no lower than n
pub record IsInRound (d : DomainConf) (x y link back : ℕ) (id : LspId) (n : ℕ) (w : WorldState) : Type 0 where
  pub run : IsRun w
  pub domain : w.domain ≡ d
  pub near : up_over (slice_get w.routers x) (Some link) ≡ true
  pub far : up_over (slice_get w.routers y) (Some back) ≡ true
  pub some : n ≤ number_at w x id

-- an interface that is up is a router's
pub record IsUpHere (q : Option Control) (link : ℕ) : Type 0 where
  pub router : Control
  pub is : q ≡ Some router
  pub up : is_up router link ≡ true

pub up_here : (q : Option Control) (link : ℕ) → up_over q (Some link) ≡ true → IsUpHere q link
up_here None link h = absurd (false≢true h)
up_here (Some c) link h = record { router = c; is = refl; up = h }

module _ (d : DomainConf) (x y link back : ℕ) (joined : IsLink d x y link back) (id : LspId) (n : ℕ) where
  abbrev InRound : WorldState → Type 0
  InRound w = IsInRound d x y link back id n w

  pub round_step : (w : WorldState) (e : Event) → IsTraffic e → EventFits (length w.domain.routers) e → event_fault w e ≡ None → InRound w → InRound (happens w e).world
  round_step w e of fits ok r =
      let still = still_step w e of in
      let rise = (settling_step w r.run.truth r.run.fresh e (gentle_of w e of)).rise x id in
      let some = r.some in
      record {
        run = run_step w e r.run fits ok (gentle_of w e of);
        domain = still.domain ∙ r.domain;
        near = still.up x link ∙ r.near;
        far = still.up y back ∙ r.far;
        some = omega (arith, rise, some);
      }

  -- what y has, it keeps
  pub has_step : (w : WorldState) (e : Event) → IsTraffic e → IsRun w → n ≤ number_at w y id → n ≤ number_at (happens w e).world y id
  has_step w e of run has = let rise = (settling_step w run.truth run.fresh e (gentle_of w e of)).rise y id in omega (arith, rise, has)

  module _ (w : WorldState) (r : InRound w) where
    toward : link_between w.domain.routers x y ≡ Some link
    toward = ap (λ (c : DomainConf). link_between c.routers x y) r.domain ∙ joined.toward

    backward : link_between w.domain.routers y x ≡ Some back
    backward = ap (λ (c : DomainConf). link_between c.routers y x) r.domain ∙ joined.backward

    -- it arrives
    pub comes_in : (h : Head) (tlvs : List ℕ) → StandsAt w.flights x link 0 (ControlItem (LspPdu h tlvs)) → h.id ≡ id → n ≤ h.seq → n ≤ number_at (happens w (Take x y 0)).world y id
    unfolding happens
    comes_in h tlvs there is new =
        let u = up_here (slice_get w.routers y) back r.far in
        let c = u.router in
        let p = LspPdu h tlvs in
        let done : doing w (Take x y 0) ≡ arrives (taken_off w x link 0) y back c (ControlItem p) =
        taking_is x y link back w toward backward (ControlItem p) c there u.is
        ∙ ap (λ (b : Bool). if b then arrives (taken_off w x link 0) y back c (ControlItem p) else makes (taken_off w x link 0) (item_lost y cause.Link (ControlItem p))) u.up in
        let here : slice_get (slice_set w.routers y (on_pdu c back p).control) y ≡ Some (on_pdu c back p).control = set_there w.routers y c (on_pdu c back p).control u.is in
        let number : number_at (doing w (Take x y 0)).world y id ≡ number_in (on_pdu c back p).control.entries id =
        ap (λ (v : Happened). number_at v.world y id) done ∙ ap (λ (o : Option Control). number_in (lsdb_of o) id) here in
        let k = each_got (IsTrueControl (confs_now w)) w.routers y c r.run.truth.controls u.is in
        let says = each_got (IsTrueItem (confs_now w) w.injections (peer_place w.domain.routers x link)) (queue_at w.flights x link) 0 (ControlItem p) (r.run.truth.items x link) there in
        let told = each_got (IsItemOfJournal r.run.fresh.journal) (queue_at w.flights x link) 0 (ControlItem p) (r.run.fresh.journaled.items x link) there in
        let out_ = (on_lsp_true (confs_now w) r.run.truth.now.few c.flood c.entries (state_of (confs_now w) c k) back h tlvs says.says says.some c.spent).says in
        let reached : h.seq ≤ number_in (on_pdu c back p).control.entries h.id = lsp_reaches (confs_now w) c back h tlvs k.kept.control.own out_ told.live in
        let last : h.seq ≤ number_in (on_pdu c back p).control.entries id = subst (λ (i : LspId). h.seq ≤ number_in (on_pdu c back p).control.entries i) is reached in
        omega (arith, number, last, new)
