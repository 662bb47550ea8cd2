-- What is left to be asked of an event once its own rules allow it.
use Rattle.std.proofs.Common.{◌≡◌, inl, ℕ, ◌+◌, ◌≤◌, nat_le, not, is_none, Bool, true, false, length, map, slice_get, Option, Some, None, sym, ap, subst, ◌∙◌, arith}
use Rattle.std.proofs.lemmas.List.{length-map}
use Rattle.wire_base.specs.model.Configuration.{DomainConf}
use Rattle.wire_base.specs.model.Control.{Control}
use Rattle.laws_router.proofs.DomainLaws.{same_stripped, length_stripped}
use Rattle.laws_router.specs.State.{RouterState}
use Rattle.replay_text.specs.declared.event.Event.{Event}
use Rattle.replay_text.specs.declared.event.Event.TheVariants.{Inject, Take, Lose, Again, Down, Up, Send, Tick, Restart, Relabel, Leave, Join}
use Rattle.domain_model.specs.declared.fault.EventFault.{EventFault}
use Rattle.domain_model.specs.declared.fault.EventFault.TheVariants as faults
use Rattle.domain_core.specs.declared.network.Network.{Network}
use Rattle.domain_model.specs.declared.step_out.StepOut.{StepOut}
use Rattle.domain_core.specs.Answers.{early_fault, early_rule, Refuses}
use Rattle.frames_in_flight.specs.Told.{told}
use Rattle.domain_model.specs.Faults.{most_events, most_in_flight, first_fault, unless_room, up_over, entry_fault, rule_fault, event_fault}
use Rattle.domain_core.specs.Held.{state_of, world_in, IsDone}
use Rattle.domain_core.specs.Network.{NetworkState, confs_in, world_of, seen_of, AreFramesOver, IsAsBefore, IsTrueNetwork}
use Rattle.domain_model.specs.Step.{doing, happens}
use Rattle.domain_model.specs.Truth.{IsTruthful, EventFits, AreWorldDrops}
use Rattle.domain_model.specs.World.{WorldState, in_flight, link_between}
use Rattle.domain_model.proofs.WorldTruth.{happens_true, first_none}

-- what a router says of an injection; of all else nothing
abbrev pub late_fault : WorldState → Event → Option EventFault
late_fault w (Inject a sd bsl ks ttl entropy payload) = entry_fault (slice_get w.routers a) sd bsl ks
late_fault w (Take a b i) = None
late_fault w (Lose a b i) = None
late_fault w (Again a b i) = None
late_fault w (Down a b) = None
late_fault w (Up a b) = None
late_fault w (Send a b) = None
late_fault w (Tick a) = None
late_fault w (Restart a) = None
late_fault w (Relabel a sd bsl label) = None
late_fault w (Leave a sd) = None
late_fault w (Join a sd) = None

ruled_late : (w : WorldState) (e : Event) → early_rule w e ≡ None → rule_fault w e ≡ late_fault w e
ruled_late w (Inject a sd bsl ks ttl entropy payload) h =
    ap (λ (b : Bool). first_fault b faults.InFlight (entry_fault (slice_get w.routers a) sd bsl ks)) (first_none (nat_le most_in_flight (in_flight w.flights)) faults.InFlight None h).0
ruled_late w (Take a b i) h = h
ruled_late w (Lose a b i) h = h
ruled_late w (Again a b i) h = h
ruled_late w (Down a b) h = h
ruled_late w (Up a b) h = h
ruled_late w (Send a b) h = h
ruled_late w (Tick a) h = h
ruled_late w (Restart a) h = h
ruled_late w (Relabel a sd bsl label) h = h
ruled_late w (Leave a sd) h = h
ruled_late w (Join a sd) h = h

pub late_is : (w : WorldState) (e : Event) → early_fault w e ≡ None → event_fault w e ≡ late_fault w e
unfolding event_fault
late_is w e h =
    let k = first_none (nat_le most_events w.events) faults.Events (early_rule w e) h in
    ap (λ (b : Bool). first_fault b faults.Events (rule_fault w e)) k.0 ∙ ruled_late w e k.1

-- a fault that is found early is the first
ruled_early : (w : WorldState) (e : Event) (f : EventFault) → early_rule w e ≡ Some f → rule_fault w e ≡ Some f
ruled_early w (Inject a sd bsl ks ttl entropy payload) f h = by (nat_le most_in_flight (in_flight w.flights)) h
  where
    by : (b : Bool) → first_fault b faults.InFlight None ≡ Some f → first_fault b faults.InFlight (entry_fault (slice_get w.routers a) sd bsl ks) ≡ Some f
    by true k = k
    by false k = cc
ruled_early w (Take a b i) f h = h
ruled_early w (Lose a b i) f h = h
ruled_early w (Again a b i) f h = h
ruled_early w (Down a b) f h = h
ruled_early w (Up a b) f h = h
ruled_early w (Send a b) f h = h
ruled_early w (Tick a) f h = h
ruled_early w (Restart a) f h = h
ruled_early w (Relabel a sd bsl label) f h = h
ruled_early w (Leave a sd) f h = h
ruled_early w (Join a sd) f h = h

pub early_is : (w : WorldState) (e : Event) (f : EventFault) → early_fault w e ≡ Some f → event_fault w e ≡ Some f
unfolding event_fault
early_is w e f h = by (nat_le most_events w.events) h
  where
    by : (b : Bool) → first_fault b faults.Events (early_rule w e) ≡ Some f → first_fault b faults.Events (rule_fault w e) ≡ Some f
    by true k = k
    by false k = ruled_early w e f k

pub as_before : (old new : Network) (e : Event) → state_of new ≡ state_of old → IsAsBefore (seen_of (state_of old)) (seen_of (state_of new)) e
as_before old new e same = record { world = ap world_of same; heard = inl (ap (λ (n : NetworkState). (seen_of n).heard) same) }

-- ---- an event that is done is counted

pub record IsCounted (old new : Network) (e : Event) (out : StepOut) : Type 0 where
  pub world : world_in (record new { events = new.events + 1 }) ≡ (happens (world_in old) e).world
  pub answer : out ≡ told old.domain.routers (happens (world_in old) e).made
  pub drops : AreWorldDrops out.drops
  pub kept : IsTrueNetwork (state_of (record new { events = new.events + 1 }))
  pub low : new.events + 1 ≤ most_events

pub counted_done : (old new : Network) (e : Event) (out : StepOut) → IsTrueNetwork (state_of old) → EventFits (length old.domain.routers) e → event_fault (world_in old) e ≡ None → IsDone old new (doing (world_in old) e) out → IsCounted old new e out
unfolding happens
counted_done old new e out t fits ok done =
    let w = world_in old in
    let k = happens_true w e t.truth fits ok in
    let world : world_in (record new { events = new.events + 1 }) ≡ (happens w e).world = ap (λ (v : WorldState). record v { events = v.events + 1 }) done.world in
    let same : new.domain ≡ old.domain = ap (λ (v : WorldState). v.domain) world ∙ k.domain in
    let count : new.events + 1 ≡ (happens w e).world.events = ap (λ (v : WorldState). v.events) world in
    record {
      world = world;
      answer = done.answer;
      drops = subst AreWorldDrops (sym (ap (λ (o : StepOut). o.drops) done.answer)) k.made.drops;
      kept = record {
        truth = subst IsTruthful (sym world) k.truth;
        frames = subst (λ (d : DomainConf). AreFramesOver d.routers (confs_in (state_of new)) new.flights) (sym same) done.frames;
      };
      low = subst (λ (m : ℕ). m ≤ most_events) (sym count) k.truth.events;
    }

-- events that change nothing are counted all at once
pub counted_more : (n : Network) (m : ℕ) → n.events + m ≤ most_events → IsTrueNetwork (state_of n) → IsTrueNetwork (state_of (record n { events = n.events + m }))
counted_more n m few t = record {
  truth = record {
    valid = t.truth.valid;
    now = t.truth.now;
    become = t.truth.become;
    controls = t.truth.controls;
    queues = t.truth.queues;
    items = t.truth.items;
    injections = omega (arith, t.truth.injections);
    events = few;
  };
  frames = t.frames;
}

-- a send over an end that leads there breaks no rule if the end is up and there is room
pub send_allowed : (w : WorldState) (a b link : ℕ) → link_between w.domain.routers a b ≡ Some link → first_fault (not (up_over (slice_get w.routers a) (Some link))) faults.EndState (unless_room w None) ≡ None → rule_fault w (Send a b) ≡ None
send_allowed w a b link joined none =
    ap (λ (o : Option ℕ). first_fault (is_none o) faults.NoLink (first_fault (not (up_over (slice_get w.routers a) o)) faults.EndState (unless_room w None))) joined ∙ none

-- each router is one of the domain's
pub as_many : (n : Network) → IsTrueNetwork (state_of n) → length n.routers.items ≡ length n.domain.routers
as_many n t =
    sym (length-map (map (λ (r : RouterState). r.control) n.routers.items) (λ (c : Control). c.conf) ∙ length-map n.routers.items (λ (r : RouterState). r.control))
    ∙ sym (length_stripped n.domain.routers (confs_in (state_of n)) (same_stripped n.domain.routers (confs_in (state_of n)) t.truth.become))

pub refuses_first : (o : Option EventFault) (f : EventFault) → o ≡ Some f → Refuses o f
refuses_first o faults.Events h = h
refuses_first o faults.NoLink h = h
refuses_first o faults.EndState h = h
refuses_first o faults.InFlight h = h
refuses_first o (faults.NoFrame i n) h = h
refuses_first o faults.NotControl h = h
refuses_first o (faults.Edge fault) h = h
refuses_first o faults.NoSub h = h
refuses_first o faults.SubState h = h
refuses_first o faults.LabelHigh h = h
refuses_first o (faults.LabelUsed label) h = h
refuses_first o faults.Relabels h = h
refuses_first o faults.Memory h = tt
