-- The moments of a run, and where the BFR-ids that injections name are at each of them (RFC 8279, 6).
--
-- Injections are numbered from 1, in the order of their events.
use Rattle.std.specs.Prelude.{◌≡◌, ℕ, ◌≤◌, Bool, true, false, length, take}
use Rattle.std.specs.List.{AllByRecursion}
use Rattle.wire_base.specs.model.Configuration.{DomainConf}
use Rattle.domain_model.specs.World.{first_world}
use Rattle.domain_model.specs.Run.{Run, run_of}
use Rattle.domain_model.specs.Truth.{IsWorldCause}
use Rattle.laws_ledger.specs.Ledger.{names, numbered, injections_in, ledger, deliveries}
use Rattle.laws_ledger.specs.Runs.{AreAllowed, unlined, IsDeliveryIn, delivered_at, DeliversNamed}

-- ---- moments

-- A run after its first j events. A settle line is many events, so there are moments inside of it too.
abbrev pub moment : DomainConf → Run → ℕ → Run
moment d r j = run_of d (take j r.events)

-- whether the injection with that number is among the first j events of a run, and names the BFR-id k
abbrev pub is_named : Run → (j n k : ℕ) → Bool
is_named r j n k = names (numbered (injections_in (take j r.events)) n) k

-- ---- the ledger

-- What is true of a run after its first j events. The ledger of injection n and the BFR-id k is the number of copies of
-- n in flight that have k, of deliveries of n for k, and of drops of n with k.
pub record HasLedger (d : DomainConf) (r : Run) (j : ℕ) : Type 0 where
  -- each BFR-id that an injection named so far is in one copy, one delivery or one drop, and in only one of them
  pub named : (n k : ℕ) → is_named r j n k ≡ true → ledger n k (moment d r j) ≡ 1
  -- no other BFR-id is in any
  pub others : (n k : ℕ) → is_named r j n k ≡ false → ledger n k (moment d r j) ≡ 0
  -- each delivery is of an injection so far, with its payload, at a router whose own BFR-id in the injection's sub-domain
  -- is the one that is delivered
  pub owned : AllByRecursion (λ g. IsDeliveryIn (moment d r j) g.1) (moment d r j).got
  -- each drop has one of these causes: no row, the TTL, a tunnel's TTL, no route, lost, or a link that is down
  pub causes : AllByRecursion (λ x. IsWorldCause x.1.cause) (moment d r j).drops

-- What is true of a run at every moment.
pub record HasLedgerThroughout (d : DomainConf) (r : Run) : Type 0 where
  -- each event was allowed where it occurred
  pub allowed : AreAllowed (first_world d) (unlined r.events)
  -- after each number of events the ledger balances
  pub moments : (j : ℕ) → HasLedger d r j
  -- the last moment is the run
  pub last : moment d r (length r.events) ≡ r

-- ---- deliveries

-- What a run delivered at most once.
pub record DeliversOnce (r : Run) : Type 0 where
  -- the router at index a delivers injection n at most once
  pub egress : (a n : ℕ) → delivered_at a n r ≤ 1
  -- the BFR-id k of injection n is delivered at most once, even if several routers have it
  pub id : (n k : ℕ) → deliveries n k r ≤ 1
  -- each delivery is of a BFR-id that its injection names
  pub named : DeliversNamed r
