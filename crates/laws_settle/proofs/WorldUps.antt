-- Which interfaces of a domain are up, and that no event changes it but those that bring an interface up or down.
use Rattle.std.proofs.Common.{◌≡◌, ℕ, zero, suc, ◌+◌, Bool, false, List, [], ◌∷◌, slice_get, slice_set, slice_index_or, Option, Some, None, refl, sym, ap, ◌∙◌}
use Rattle.std.proofs.lemmas.Option.{same_Some}
use Rattle.wire_base.specs.model.Control.{Control}
use Rattle.wire_base.specs.model.Flooding.{Reply, tick, restart, relabel, leave, join}
use Rattle.replay_text.specs.declared.event.Event.{Event}
use Rattle.replay_text.specs.declared.event.Event.TheVariants.{Inject, Take, Lose, Again, Send, Tick, Restart, Relabel, Leave, Join}
use Rattle.replay_text.specs.Hand.{is_move}
use Rattle.domain_model.specs.Faults.{up_over, is_up_toward}
use Rattle.domain_model.specs.Moves.{inject_made}
use Rattle.domain_model.specs.Step.{Happened, changes, happens}
use Rattle.domain_model.specs.World.{WorldState, link_between}
use Rattle.laws_settle.specs.Ups.{ups_in, ups_of}
use Rattle.laws_settle.proofs.EventCases.{after_again, after_change, after_inject, after_lose, after_send, after_take}
use Rattle.laws_settle.proofs.ControlUps.{pdu_ups, tick_ups, restart_ups, send_ups, relabel_ups, leave_ups, join_ups}

-- ---- rows

abbrev pub row_at : List (List Bool) → ℕ → List Bool
row_at ups a = slice_index_or ups a []

-- a router changes and its interfaces stay as they are
set_same : (cs : List Control) (a : ℕ) (c next : Control) → slice_get cs a ≡ Some c → next.flood.up ≡ c.flood.up → ups_in (slice_set cs a next) ≡ ups_in cs
unfolding ups_in
set_same [] a c next at same = refl
set_same (x ∷ xs) zero c next at same = ap (λ (row : List Bool). row ∷ ups_in xs) (same ∙ sym (ap (λ (y : Control). y.flood.up) (same_Some x c at)))
set_same (x ∷ xs) (suc a) c next at same = ap (λ (rows : List (List Bool)). x.flood.up ∷ rows) (set_same xs a c next at same)

-- ---- the interface of one router toward another

abbrev pub up_in : List (List Bool) → ℕ → Option ℕ → Bool
up_in ups a None = false
up_in ups a (Some link) = slice_index_or (row_at ups a) link false

pub over_none : (q : Option Control) → up_over q None ≡ false
over_none None = refl
over_none (Some c) = refl

pub over_some : (cs : List Control) (a link : ℕ) → up_over (slice_get cs a) (Some link) ≡ slice_index_or (row_at (ups_in cs) a) link false
unfolding ups_in
over_some [] a link = refl
over_some (c ∷ cs) zero link = refl
over_some (c ∷ cs) (suc a) link = over_some cs a link

over_is : (cs : List Control) (a : ℕ) (o : Option ℕ) → up_over (slice_get cs a) o ≡ up_in (ups_in cs) a o
over_is cs a None = over_none (slice_get cs a)
over_is cs a (Some link) = over_some cs a link

pub toward_is : (w : WorldState) (a b : ℕ) → is_up_toward w a b ≡ up_in (ups_of w) a (link_between w.domain.routers a b)
toward_is w a b = over_is w.routers a (link_between w.domain.routers a b)

-- ---- events that move no interface

module _ (w : WorldState) where
  abbrev IsSteady : Happened → Type 0
  IsSteady n = ups_of n.world ≡ ups_of w

  changed_ups : (a : ℕ) (change : Control → Reply) → ((c : Control) → (change c).control.flood.up ≡ c.flood.up) → IsSteady (changes w a change (slice_get w.routers a))
  changed_ups a change same = after_change w IsSteady refl a change (λ c at. set_same w.routers a c _ at (same c))

  pub steady_ups : (e : Event) → is_move e ≡ false → ups_of (happens w e).world ≡ ups_of w
  unfolding happens
  steady_ups (Inject a sd bsl ks ttl entropy payload) steady = after_inject w IsSteady refl a (λ c. inject_made w.domain.routers a c (w.injections + 1) sd bsl ks ttl entropy payload) (λ c. refl)
  steady_ups (Take a b i) steady = after_take w IsSteady refl a b i (λ link back c p toward backward there at up. set_same w.routers b c _ at (pdu_ups c back p)) (λ link c y. refl) (λ link x. refl)
  steady_ups (Lose a b i) steady = after_lose w IsSteady refl a b i (λ link x. refl)
  steady_ups (Again a b i) steady = after_again w IsSteady refl a b i (λ link p there. refl)
  steady_ups (Send a b) steady = after_send w IsSteady refl a b (λ c link at toward. set_same w.routers a c _ at (send_ups c link))
  steady_ups (Tick a) steady = changed_ups a tick tick_ups
  steady_ups (Restart a) steady = changed_ups a restart restart_ups
  steady_ups (Relabel a sd bsl label) steady = changed_ups a (λ c. relabel c sd bsl label) (λ c. relabel_ups c sd bsl label)
  steady_ups (Leave a sd) steady = changed_ups a (λ c. leave c sd) (λ c. leave_ups c sd)
  steady_ups (Join a sd) steady = changed_ups a (λ c. join c sd) (λ c. join_ups c sd)
  steady_ups other steady = absurd cc
