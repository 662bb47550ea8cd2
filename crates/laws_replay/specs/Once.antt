-- When a BFR-id of an injection is never dropped and arrives exactly once: it is reachable, and from the injection on
-- topologies agree, no copy is lost, and the TTL covers the path (RFC 8279, 6.5 and 6.9).
use Rattle.std.specs.Prelude.{◌≡◌, ℕ, ◌+◌, ◌%◌, true, List, ◌∷◌, ◌++◌, slice_get, take, Some}
use Rattle.wire_base.specs.model.Configuration.{DomainConf}
use Rattle.wire_base.specs.model.Control.{Control}
use Rattle.wire_base.specs.model.Hop.{has}
use Rattle.wire_base.specs.model.HopCount.{CoversPath}
use Rattle.wire_base.specs.model.View.{control_view}
use Rattle.replay_text.specs.declared.event.Event.{Event}
use Rattle.domain_model.specs.Run.{Run, goes_on, run_of}
use Rattle.laws_ledger.specs.Ledger.{Injection, entered, triple_for, copies_of, deliveries, drops}
use Rattle.laws_ledger.specs.Weights.{copies_in}
use Rattle.laws_course.specs.Course.{IsReachable, IsSteady, KeptFor, own_node}
use Rattle.laws_replay.specs.Moments.{moment}

-- The premises: the events `before`, the event e that is injection n, and the events `after` it, up to the moment in
-- question. The injection i is at the router whose state just before it is c.
pub record IsUndisturbed (d : DomainConf) (before : List (ℕ × Event)) (e : ℕ × Event) (after : List (ℕ × Event)) (c : Control) (n k : ℕ) (i : Injection) : Type 0 where
  -- the event is the injection, with that number
  pub enters : entered (run_of d before).world.injections e.1 n ≡ Some i
  -- it names k
  pub names : has i.ids k ≡ true
  -- c is the ingress
  pub ingress : slice_get (run_of d before).world.routers i.router ≡ Some c
  -- k is reachable: the ingress has it, or its topology has a router to send it to
  pub reachable : IsReachable c.conf (control_view c) (own_node c) i k
  -- the TTL is at least the number of hops to the owner of k, and each tunnel of the path has at most 255 links
  pub covers : CoversPath (control_view c) c.conf.kinds c.conf.table (triple_for i k) (own_node c) (i.entropy % 16) k i.ttl
  -- after the injection and after each later event the ingress has the topology that it had, and so has each router
  -- that it reaches; and no event loses a copy of the injection
  pub steady : IsSteady (goes_on (run_of d before) e) i.router (control_view c) n after

-- What is then true of injection n and the BFR-id k at the moment m.
pub record ArrivesOnce (m : Run) (c : Control) (n k : ℕ) : Type 0 where
  -- no drop has k
  pub kept : drops n k m ≡ 0
  -- k was delivered once, or it is in one copy
  pub once : deliveries n k m + copies_of n k m.world.flights ≡ 1
  -- such a copy is on its course: on a shortest path to the owner, with a TTL that covers the rest of the path
  pub course : KeptFor m.world c n k
  -- if no copy of the injection is in flight, k was delivered exactly once
  pub delivered : copies_in n m.world.flights ≡ 0 → deliveries n k m ≡ 1

-- For each injection of a run and each moment after it.
abbrev pub ArriveOnce : DomainConf → Run → Type 0
ArriveOnce d r =
    (j : ℕ) (before : List (ℕ × Event)) (e : ℕ × Event) (after : List (ℕ × Event)) (c : Control) (n k : ℕ) (i : Injection) → take j r.events ≡ before ++ e ∷ after
    → IsUndisturbed d before e after c n k i → ArrivesOnce (moment d r j) c n k
