-- Which BFR-ids of an injection are reached: the router has the id itself, or sends its bit on, over a path that the TTL covers and
-- whose tunnels an outer TTL covers (RFC 8279, 6.5 and 6.9; RFC 2784).
use Rattle.std.specs.Prelude.{◌≡◌, ℕ, ◌+◌, ◌==◌, ◌||◌, ◌&&◌, ◌%◌, nat_le, nat_lt, Bool, true, false, List, [], ◌∷◌, slice_get, Option, Some, None}
use Rattle.wire_base.specs.declared.bsl.Bsl.{Bsl}
use Rattle.wire_base.specs.declared.triple.Triple.{Triple}
use Rattle.wire_base.specs.model.Control.{Control}
use Rattle.wire_base.specs.model.Hop.{has}
use Rattle.wire_base.specs.model.OnFrame.{outer_ttl}
use Rattle.wire_base.specs.model.Place.{bits_of, own_id, set_identifier}
use Rattle.wire_base.specs.model.View.{control_view}
use Rattle.replay_text.specs.declared.event.Event.{Event}
use Rattle.domain_model.specs.Run.{Run}
use Rattle.domain_model.specs.Step.{happens}
use Rattle.domain_model.specs.Truth.{IsTruthful}
use Rattle.domain_model.specs.World.{WorldState}
use Rattle.laws_ledger.specs.Ledger.{Injection, deliveries_of, drops_of, entered}
use Rattle.laws_ledger.specs.Runs.{AreAllowed, IsAccounted, unlined}
use Rattle.laws_ledger.specs.Weights.{takes_copy}
use Rattle.laws_course.specs.Course.{own_node}
use Rattle.quiet_domain.specs.Way.{way_to}
use Rattle.quiet_domain.specs.declared.path.Way.{Way}
use Rattle.laws_quiet.specs.Quiet.{AreIssuers, IsQuiet}

-- ---- one BFR-id

-- the triple of the packet that has it
abbrev pub triple_with : ℕ → Bsl → ℕ → Triple
triple_with sd bsl k = record { sd = sd; bsl = bsl; si = set_identifier (bits_of bsl) k }

abbrev pub is_own : Option ℕ → ℕ → Bool
is_own None k = false
is_own (Some own) k = own == k

-- a path of at least one hop, which the TTL covers, and whose tunnels an outer TTL covers
abbrev pub is_covered : ℕ → Option Way → Bool
is_covered ttl None = false
is_covered ttl (Some w) = nat_lt 0 w.hops && (nat_le w.hops ttl && nat_le w.longest outer_ttl)

-- the path from a router, in its topology, for packets of a triple and an entropy class
abbrev pub way_from : Control → Triple → ℕ → ℕ → Option Way
way_from c t class k = way_to (control_view c) c.conf.kinds c.conf.table t class k (own_node c)

-- whether packets of a triple and an entropy class that enter at a router reach a BFR-id
abbrev pub reaches_in : Control → Triple → ℕ → ℕ → ℕ → Bool
reaches_in c t ttl class k = is_own (own_id c.conf t.sd) k || is_covered ttl (way_from c t class k)

-- whether packets of an injection do
abbrev pub covers_id : Control → ℕ → Bsl → ℕ → ℕ → ℕ → Bool
covers_id c sd bsl ttl entropy k = reaches_in c (triple_with sd bsl k) ttl (entropy % 16) k

-- ---- events

-- each event is a `take` of a copy of injection n
abbrev pub AreTakes : ℕ → WorldState → List Event → Type 0
AreTakes n w [] = Unit {0}
AreTakes n w (e ∷ es) = (takes_copy w n e ≡ true) × AreTakes n (happens w e).world es

-- how many deliveries of injection n for k events make, and how many drops of n that list k
abbrev pub deliveries_by : ℕ → ℕ → WorldState → List Event → ℕ
deliveries_by n k w [] = 0
deliveries_by n k w (e ∷ es) = deliveries_of n k (happens w e).made.got + deliveries_by n k (happens w e).world es

abbrev pub drops_by : ℕ → ℕ → WorldState → List Event → ℕ
drops_by n k w [] = 0
drops_by n k w (e ∷ es) = drops_of n k (happens w e).made.drops + drops_by n k (happens w e).world es

-- A quiet domain, the event e, which is the injection n at the router c and names k, and the events es after it, which receive
-- copies of the injection. All are allowed, and packets of the injection reach k.
pub record IsCoveredAt (w : WorldState) (e : Event) (es : List Event) (c : Control) (n k : ℕ) (i : Injection) : Type 0 where
  pub truth : IsTruthful w
  pub issuers : AreIssuers w.routers
  pub quiet : IsQuiet w
  pub allowed : AreAllowed w (e ∷ es)
  pub enters : entered w.injections e n ≡ Some i
  pub names : has i.ids k ≡ true
  pub ingress : slice_get w.routers i.router ≡ Some c
  pub covered : covers_id c i.sd i.bsl i.ttl i.entropy k ≡ true
  pub takes : AreTakes n (happens w e).world es

-- the same in a run with its accounts
pub record IsCoveredRun (r : Run) (e : ℕ × Event) (fs : List (ℕ × Event)) (c : Control) (n k : ℕ) (i : Injection) : Type 0 where
  pub accounts : IsAccounted r
  pub here : IsCoveredAt r.world e.1 (unlined fs) c n k i
