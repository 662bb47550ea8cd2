-- What is known where an event is allowed.
use Rattle.std.proofs.Common.{◌≡◌, ℕ, ◌<◌, ◌≤◌, not, nat_le, Bool, true, false, List, length, slice_get, is_none, is_some, Option, Some, None, refl, sym, ap, subst, ◌∙◌}
use mathlib.Core.Bool.{true≢false}
use Rattle.std.proofs.lemmas.Option.{same_Some}
use Rattle.wire_base.specs.declared.bsl.Bsl.{Bsl}
use Rattle.wire_base.specs.declared.conf.End.{End}
use Rattle.wire_base.specs.declared.conf.RouterConf.{RouterConf}
use Rattle.wire_base.specs.model.Control.{Control}
use Rattle.wire_base.specs.model.Membership.{own_range, CanRelabel}
use Rattle.wire_base.specs.model.Place.{sub_in}
use Rattle.replay_text.specs.declared.event.Event.TheVariants.{Down, Up, Send, Relabel, Leave, Join}
use Rattle.domain_model.specs.declared.fault.EventFault.{EventFault}
use Rattle.domain_model.specs.declared.fault.EventFault.TheVariants as faults
use Rattle.domain_model.specs.Faults.{most_events, unless_joined, unless_room, up_over, is_up_toward, relabel_fault, member_fault, rule_fault, event_fault}
use Rattle.domain_model.specs.Truth.{confs_now, IsTruthful}
use Rattle.domain_model.specs.World.{WorldState, is_up, link_between, peer_place}
use Rattle.domain_core.proofs.FramedBack.{at_now}
use Rattle.domain_core.proofs.FramedWorld.{conf_there}
use Rattle.domain_model.proofs.LinkLaws.{join_of, end_found, peer_is}
use Rattle.domain_model.proofs.QueueLaws.{got_within}
use Rattle.domain_model.proofs.WorldTruth.{first_none, may_relabel, may_turn}

not_false : (b : Bool) → not b ≡ false → b ≡ true
not_false true h = refl
not_false false h = absurd (true≢false h)

-- whether the end of a router is up
pub end_is : (w : WorldState) (a link : ℕ) (c : Control) (u : Bool) → slice_get w.routers a ≡ Some c → u ≡ up_over (slice_get w.routers a) (Some link) → is_up c link ≡ u
end_is w a link c u at h = sym (h ∙ ap (λ (o : Option Control). up_over o (Some link)) at)

module _ (w : WorldState) (a b link : ℕ) (c : Control) (at : slice_get w.routers a ≡ Some c) (joined : link_between w.domain.routers a b ≡ Some link) where
  pub toward : is_up_toward w a b ≡ is_up c link
  toward = ap (λ (o : Option Control). up_over o (link_between w.domain.routers a b)) at ∙ ap (up_over (Some c)) joined

  ruled : (next : Option EventFault) → unless_joined w a b next ≡ None → next ≡ None
  ruled next h = (first_none (is_none (link_between w.domain.routers a b)) faults.NoLink next h).1

  pub up_at_down : event_fault w (Down a b) ≡ None → is_up c link ≡ true
  unfolding event_fault
  up_at_down h =
      let r = ruled _ (first_none (nat_le most_events w.events) faults.Events (rule_fault w (Down a b)) h).1 in
      sym toward ∙ not_false (is_up_toward w a b) (first_none (not (is_up_toward w a b)) faults.EndState None r).0

  pub down_at_up : event_fault w (Up a b) ≡ None → is_up c link ≡ false
  unfolding event_fault
  down_at_up h =
      let r = ruled _ (first_none (nat_le most_events w.events) faults.Events (rule_fault w (Up a b)) h).1 in
      sym toward ∙ (first_none (is_up_toward w a b) faults.EndState None r).0

  pub up_at_send : event_fault w (Send a b) ≡ None → is_up c link ≡ true
  unfolding event_fault
  up_at_send h =
      let r = ruled _ (first_none (nat_le most_events w.events) faults.Events (rule_fault w (Send a b)) h).1 in
      sym toward ∙ not_false (is_up_toward w a b) (first_none (not (is_up_toward w a b)) faults.EndState (unless_room w None) r).0

  -- the end is one of the router's
  pub link_within : IsTruthful w → link < length c.conf.ends
  link_within t =
      let j = join_of w.domain.routers a b link joined in
      let here = at_now w.domain.routers (confs_now w) a c.conf t.become (conf_there w a c at) in
      let same : j.near ≡ here.there = same_Some j.near here.there (sym j.near_at ∙ here.at) in
      let there = end_found j.near.ends j.far.system link j.toward in
      subst (λ (es : List End). link < length es) (ap (λ (r : RouterConf). r.ends) same ∙ here.ends) (got_within j.near.ends link there.at there.there)

-- where an end leads that was found by the router there
pub leads_to : (w : WorldState) (a b link : ℕ) → IsTruthful w → link_between w.domain.routers a b ≡ Some link → (os : List RouterConf) → os ≡ w.domain.routers → b ≡ peer_place os a link
leads_to w a b link t joined os same = sym (ap (λ (cs : List RouterConf). peer_place cs a link) same ∙ peer_is w.domain.routers t.valid.consistent.systems a b link joined)

-- ---- other labels, and sub-domains that are left or joined

module _ (w : WorldState) (a : ℕ) (c : Control) (at : slice_get w.routers a ≡ Some c) (sd : ℕ) where
  pub can_relabel : (bsl : Bsl) (label : ℕ) → 16 ≤ label → event_fault w (Relabel a sd bsl label) ≡ None → CanRelabel c.conf sd bsl label
  unfolding event_fault
  can_relabel bsl label low h =
      let r = (first_none (nat_le most_events w.events) faults.Events (rule_fault w (Relabel a sd bsl label)) h).1 in
      may_relabel c.conf sd bsl label low (own_range c.conf sd bsl) refl (ap (λ (o : Option Control). relabel_fault o sd bsl label) (sym at) ∙ r)

  pub can_leave : event_fault w (Leave a sd) ≡ None → is_some (sub_in c.conf.subs sd) ≡ true
  unfolding event_fault
  can_leave h =
      let r = (first_none (nat_le most_events w.events) faults.Events (rule_fault w (Leave a sd)) h).1 in
      may_turn c (λ r. r.subs) sd (ap (λ (o : Option Control). member_fault o (λ r. r.subs) sd) (sym at) ∙ r)

  pub can_join : event_fault w (Join a sd) ≡ None → is_some (sub_in c.conf.away sd) ≡ true
  unfolding event_fault
  can_join h =
      let r = (first_none (nat_le most_events w.events) faults.Events (rule_fault w (Join a sd)) h).1 in
      may_turn c (λ r. r.away) sd (ap (λ (o : Option Control). member_fault o (λ r. r.away) sd) (sym at) ∙ r)
