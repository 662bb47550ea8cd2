-- What no event changes: the domain and the number of its routers; and how the number of injections grows.
use Rattle.std.proofs.Common.{◌≡◌, ℕ, zero, suc, ◌+◌, ◌<◌, Bool, true, false, List, [], ◌∷◌, length, slice_get, length-set, Option, Some, None, if◌then◌else◌, refl, arith}
use Rattle.wire_base.specs.model.Control.{Control}
use Rattle.wire_base.specs.model.Flooding.{Reply, end_up, end_down, tick, restart, relabel, leave, join}
use Rattle.wire_base.specs.model.Item.{Item, ControlItem, PacketItem}
use Rattle.replay_text.specs.declared.event.Event.{Event}
use Rattle.replay_text.specs.declared.event.Event.TheVariants.{Inject, Take, Lose, Again, Down, Up, Send, Tick, Restart, Relabel, Leave, Join}
use Rattle.domain_model.specs.World.{WorldState, is_up, link_between, queue_at}
use Rattle.domain_model.specs.Moves.{Made, item_lost, inject_made}
use Rattle.wire_base.specs.declared.cause.Cause.TheVariants as cause
use Rattle.domain_model.specs.Step.{Happened, makes, arrives, comes, takes, takes_over, loses, loses_over, repeats, repeats_over, injects, changes_end, sends, changes, doing, happens}
use Rattle.replay_report.specs.Counting.{injected_by}
use Rattle.domain_replay.specs.Telling.{IsEntered}

-- with so many injections more
pub record Stays (more : ℕ) (w : WorldState) (n : Happened) : Type 0 where
  pub domain : n.world.domain ≡ w.domain
  pub routers : length n.world.routers ≡ length w.routers
  pub injections : n.world.injections ≡ w.injections + more

none_more : (n : ℕ) → n ≡ n + 0
none_more n = omega arith

arrives_stays : (w : WorldState) (b back : ℕ) (c : Control) (x : Item) → Stays 0 w (arrives w b back c x)
arrives_stays w b back c (ControlItem p) = record { domain = refl; routers = length-set w.routers b _; injections = none_more w.injections }
arrives_stays w b back c (PacketItem x) = record { domain = refl; routers = refl; injections = none_more w.injections }

comes_stays : (w : WorldState) (b back : ℕ) (c : Control) (x : Item) → Stays 0 w (comes w b back c x)
comes_stays w b back c x = by (is_up c back)
  where
    by : (up : Bool) → Stays 0 w (if up then arrives w b back c x else makes w (item_lost b cause.Link x))
    by true = arrives_stays w b back c x
    by false = record { domain = refl; routers = refl; injections = none_more w.injections }

takes_stays : (w : WorldState) (a link b back i : ℕ) (o : Option Item) (q : Option Control) → Stays 0 w (takes w a link b back i o q)
takes_stays w a link b back i None q = record { domain = refl; routers = refl; injections = none_more w.injections }
takes_stays w a link b back i (Some x) None = record { domain = refl; routers = refl; injections = none_more w.injections }
takes_stays w a link b back i (Some x) (Some c) =
    let s = comes_stays (record w { flights = _ }) b back c x in record { domain = s.domain; routers = s.routers; injections = s.injections }

takes_over_stays : (w : WorldState) (a b i : ℕ) (l m : Option ℕ) → Stays 0 w (takes_over w a b i l m)
takes_over_stays w a b i None m = record { domain = refl; routers = refl; injections = none_more w.injections }
takes_over_stays w a b i (Some link) None = record { domain = refl; routers = refl; injections = none_more w.injections }
takes_over_stays w a b i (Some link) (Some back) = takes_stays w a link b back i (slice_get (queue_at w.flights a link) i) (slice_get w.routers b)

loses_stays : (w : WorldState) (a link b i : ℕ) (o : Option Item) → Stays 0 w (loses w a link b i o)
loses_stays w a link b i None = record { domain = refl; routers = refl; injections = none_more w.injections }
loses_stays w a link b i (Some x) = record { domain = refl; routers = refl; injections = none_more w.injections }

loses_over_stays : (w : WorldState) (a b i : ℕ) (l : Option ℕ) → Stays 0 w (loses_over w a b i l)
loses_over_stays w a b i None = record { domain = refl; routers = refl; injections = none_more w.injections }
loses_over_stays w a b i (Some link) = loses_stays w a link b i (slice_get (queue_at w.flights a link) i)

repeats_stays : (w : WorldState) (a link : ℕ) (o : Option Item) → Stays 0 w (repeats w a link o)
repeats_stays w a link None = record { domain = refl; routers = refl; injections = none_more w.injections }
repeats_stays w a link (Some (PacketItem x)) = record { domain = refl; routers = refl; injections = none_more w.injections }
repeats_stays w a link (Some (ControlItem p)) = record { domain = refl; routers = refl; injections = none_more w.injections }

repeats_over_stays : (w : WorldState) (a i : ℕ) (l : Option ℕ) → Stays 0 w (repeats_over w a i l)
repeats_over_stays w a i None = record { domain = refl; routers = refl; injections = none_more w.injections }
repeats_over_stays w a i (Some link) = repeats_stays w a link (slice_get (queue_at w.flights a link) i)

changes_end_stays : (w : WorldState) (a : ℕ) (change : Control → ℕ → Reply) (q : Option Control) (l : Option ℕ) → Stays 0 w (changes_end w a change q l)
changes_end_stays w a change None l = record { domain = refl; routers = refl; injections = none_more w.injections }
changes_end_stays w a change (Some c) None = record { domain = refl; routers = refl; injections = none_more w.injections }
changes_end_stays w a change (Some c) (Some link) = record { domain = refl; routers = length-set w.routers a _; injections = none_more w.injections }

sends_stays : (w : WorldState) (a : ℕ) (q : Option Control) (l : Option ℕ) → Stays 0 w (sends w a q l)
sends_stays w a None l = record { domain = refl; routers = refl; injections = none_more w.injections }
sends_stays w a (Some c) None = record { domain = refl; routers = refl; injections = none_more w.injections }
sends_stays w a (Some c) (Some link) = record { domain = refl; routers = length-set w.routers a _; injections = none_more w.injections }

changes_stays : (w : WorldState) (a : ℕ) (change : Control → Reply) (q : Option Control) → Stays 0 w (changes w a change q)
changes_stays w a change None = record { domain = refl; routers = refl; injections = none_more w.injections }
changes_stays w a change (Some c) = record { domain = refl; routers = length-set w.routers a _; injections = none_more w.injections }

injects_stays : (w : WorldState) (a : ℕ) (enter : Control → Made) → a < length w.routers → Stays 1 w (injects w a enter (slice_get w.routers a))
injects_stays w a enter within = by w.routers a within
  where
    by : (cs : List Control) (n : ℕ) → n < length cs → Stays 1 w (injects w a enter (slice_get cs n))
    by [] n h = absurd (omega (arith, h))
    by (c ∷ cs) zero h = record { domain = refl; routers = refl; injections = refl }
    by (c ∷ cs) (suc n) h = by cs n (omega (arith, h))

doing_stays : (w : WorldState) (e : Event) → IsEntered (length w.routers) e → Stays (injected_by e) w (doing w e)
doing_stays w (Inject a sd bsl ks ttl entropy payload) there = injects_stays w a (λ c. inject_made w.domain.routers a c (w.injections + 1) sd bsl ks ttl entropy payload) there
doing_stays w (Take a b i) there = takes_over_stays w a b i (link_between w.domain.routers a b) (link_between w.domain.routers b a)
doing_stays w (Lose a b i) there = loses_over_stays w a b i (link_between w.domain.routers a b)
doing_stays w (Again a b i) there = repeats_over_stays w a i (link_between w.domain.routers a b)
doing_stays w (Down a b) there = changes_end_stays w a end_down (slice_get w.routers a) (link_between w.domain.routers a b)
doing_stays w (Up a b) there = changes_end_stays w a end_up (slice_get w.routers a) (link_between w.domain.routers a b)
doing_stays w (Send a b) there = sends_stays w a (slice_get w.routers a) (link_between w.domain.routers a b)
doing_stays w (Tick a) there = changes_stays w a tick (slice_get w.routers a)
doing_stays w (Restart a) there = changes_stays w a restart (slice_get w.routers a)
doing_stays w (Relabel a sd bsl label) there = changes_stays w a (λ c. relabel c sd bsl label) (slice_get w.routers a)
doing_stays w (Leave a sd) there = changes_stays w a (λ c. leave c sd) (slice_get w.routers a)
doing_stays w (Join a sd) there = changes_stays w a (λ c. join c sd) (slice_get w.routers a)

pub happens_stays : (w : WorldState) (e : Event) → IsEntered (length w.routers) e → Stays (injected_by e) w (happens w e)
unfolding happens
happens_stays w e there = let s = doing_stays w e there in record { domain = s.domain; routers = s.routers; injections = s.injections }

-- the domain, whatever the event
pub happens_domain : (w : WorldState) (e : Event) → (happens w e).world.domain ≡ w.domain
unfolding happens
happens_domain w (Inject a sd bsl ks ttl entropy payload) = by (slice_get w.routers a)
  where
    by : (q : Option Control) → (injects w a (λ c. inject_made w.domain.routers a c (w.injections + 1) sd bsl ks ttl entropy payload) q).world.domain ≡ w.domain
    by None = refl
    by (Some c) = refl
happens_domain w (Take a b i) = (let s = doing_stays w (Take a b i) tt in s.domain)
happens_domain w (Lose a b i) = (let s = doing_stays w (Lose a b i) tt in s.domain)
happens_domain w (Again a b i) = (let s = doing_stays w (Again a b i) tt in s.domain)
happens_domain w (Down a b) = (let s = doing_stays w (Down a b) tt in s.domain)
happens_domain w (Up a b) = (let s = doing_stays w (Up a b) tt in s.domain)
happens_domain w (Send a b) = (let s = doing_stays w (Send a b) tt in s.domain)
happens_domain w (Tick a) = (let s = doing_stays w (Tick a) tt in s.domain)
happens_domain w (Restart a) = (let s = doing_stays w (Restart a) tt in s.domain)
happens_domain w (Relabel a sd bsl label) = (let s = doing_stays w (Relabel a sd bsl label) tt in s.domain)
happens_domain w (Leave a sd) = (let s = doing_stays w (Leave a sd) tt in s.domain)
happens_domain w (Join a sd) = (let s = doing_stays w (Join a sd) tt in s.domain)
