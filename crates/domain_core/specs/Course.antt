-- The effect of one event on the course of copies, in terms of the world before it, the world after it, and its result.
-- Each copy for a BFR-id stays on a shortest path to the id's owner, and none is dropped (RFC 8279, 6.5 and 6.9).
use Rattle.std.specs.Prelude.{◌≡◌, ℕ, ◌≤◌, ◌%◌, false, List, [], slice_get, Some}
use Rattle.wire_base.specs.model.Control.{Control}
use Rattle.wire_base.specs.model.HopCount.{CoversPath}
use Rattle.wire_base.specs.model.Item.{DataItem}
use Rattle.wire_base.specs.model.OnFrame.{choice_of}
use Rattle.wire_base.specs.model.View.{control_view}
use Rattle.replay_text.specs.declared.event.Event.{Event}
use Rattle.domain_model.specs.Moves.{packet_of, item_copied}
use Rattle.domain_model.specs.World.{WorldState}
use Rattle.laws_ledger.specs.Ledger.{Injection, entered, triple_for, drops_of}
use Rattle.laws_course.specs.Course.{Agreed, IsReachable, KeptFor, loses_copy, own_node}
use Rattle.domain_model.specs.declared.step_out.StepOut.{StepOut}

-- The event is the injection n, at the router c, where k is reachable over a path that the TTL covers.
pub record Enters (old : WorldState) (e : Event) (c : Control) (n k : ℕ) (i : Injection) : Type 0 where
  pub enters : entered old.injections e n ≡ Some i
  pub ingress : slice_get old.routers i.router ≡ Some c
  pub reachable : IsReachable c.conf (control_view c) (own_node c) i k
  pub covers : CoversPath (control_view c) c.conf.kinds c.conf.table (triple_for i k) (own_node c) (i.entropy % 16) k i.ttl

-- The injection n was made before. Its copies for k are on their course in the topology of the router c, each router to
-- which a path leads from c has the same topology, and the event loses no copy of the injection.
pub record StaysOut (old : WorldState) (e : Event) (c : Control) (n k : ℕ) : Type 0 where
  pub made : n ≤ old.injections
  pub place : ℕ
  pub ingress : slice_get old.routers place ≡ Some c
  pub agreed : Agreed old (control_view c) (own_node c)
  pub kept : KeptFor old c n k
  pub harmless : loses_copy old n e ≡ false

-- Each injection is named by its number n, k is a BFR-id, and c is a router in whose topology copies have their course.
pub record KeepsCourse (old new : WorldState) (e : Event) (out : StepOut) : Type 0 where
  -- the copies of an injection start on their course, and none is dropped
  pub first : (c : Control) (n k : ℕ) (i : Injection) → Enters old e c n k i → KeptFor new c n k
  pub first_drops : (c : Control) (n k : ℕ) (i : Injection) → Enters old e c n k i → drops_of n k out.drops ≡ 0
  -- copies on their course stay on it, and none is dropped
  pub later : (c : Control) (n k : ℕ) → StaysOut old e c n k → KeptFor new c n k
  pub later_drops : (c : Control) (n k : ℕ) → StaysOut old e c n k → drops_of n k out.drops ≡ 0
  -- whether topologies agree or not, a path leads from each router a to the node y that it chooses for a BFR-id: no
  -- copy is dropped for lack of one
  pub ways : (a : ℕ) (c : Control) (x : DataItem) (y k : ℕ) (ks : List ℕ) (ttl : ℕ) → slice_get old.routers a ≡ Some c → choice_of c.conf (control_view c) (own_node c) (packet_of x) k ≡ Some y
      → (item_copied old.domain.routers a c.conf (control_view c) (own_node c) x y ks ttl).drops ≡ []
