-- What is true of every run: its ledger, the injections of its copies and deliveries, and the total number of BFR-ids.
use Rattle.std.specs.Prelude.{◌≡◌, ℕ, ◌+◌, ◌==◌, ◌&&◌, true, List, [], ◌∷◌, length, map, sum_by, Option, Some, None}
use Rattle.std.specs.List.{AllByRecursion}
use Rattle.wire_base.specs.model.Hop.{distinct, one_if, tally}
use Rattle.wire_base.specs.model.Item.{Item, ControlItem, PacketItem, DataItem}
use Rattle.replay_text.specs.declared.event.Event.{Event}
use Rattle.domain_model.specs.declared.lines.GotLine.{GotLine}
use Rattle.domain_model.specs.World.{WorldState, queue_at, ids_in_flight}
use Rattle.domain_model.specs.Faults.{event_fault}
use Rattle.domain_model.specs.Step.{happens}
use Rattle.domain_model.specs.Run.{Run}
use Rattle.domain_model.specs.Truth.{EventFits}
use Rattle.laws_ledger.specs.Ledger.{Injection, injection_of, names, injections_in, injected, ledger, IsCopyOf, IsDeliveryOf}

-- each event of a list is allowed in the world that it occurs in
abbrev pub AreAllowed : WorldState → List Event → Type 0
AreAllowed w [] = Unit {0}
AreAllowed w (e ∷ es) = EventFits (length w.domain.routers) e × (event_fault w e ≡ None) × AreAllowed (happens w e).world es

-- the events without their line numbers
abbrev pub unlined : List (ℕ × Event) → List Event
unlined es = map (λ e. e.1) es

-- ---- how many BFR-ids

abbrev pub named_in : Option Injection → ℕ
named_in None = 0
named_in (Some i) = length (distinct i.ids)

-- how many BFR-ids the injections of a run name; one that is named twice counts once
abbrev pub named_total : Run → ℕ
named_total r = sum_by (λ (e : ℕ × Event). named_in (injection_of e.1)) r.events

-- how many BFR-ids its drops list
abbrev pub dropped_total : Run → ℕ
dropped_total r = sum_by (λ d. length d.1.ids) r.drops

-- ---- the injection of copies and deliveries

-- a copy is one of an injection of the run
pub record IsCopyIn (r : Run) (x : DataItem) : Type 0 where
  pub injection : Injection
  pub there : injected r x.number ≡ Some injection
  pub is : IsCopyOf injection x

abbrev pub IsItemIn : Run → Item → Type 0
IsItemIn r (ControlItem p) = Unit {0}
IsItemIn r (PacketItem x) = IsCopyIn r x

-- a delivery is one of an injection of the run
pub record IsDeliveryIn (r : Run) (g : GotLine) : Type 0 where
  pub injection : Injection
  pub there : injected r g.injection ≡ Some injection
  pub is : IsDeliveryOf r.world.domain.routers injection g

-- ---- the accounts

-- The injections are those among the events. The ledger of an injection and a BFR-id is 1 if the injection names it,
-- and otherwise 0. Each copy in flight and each delivery is one of an injection. All BFR-ids that are named were
-- delivered, were dropped, or are in flight.
pub record IsAccounted (r : Run) : Type 0 where
  pub counted : length (injections_in r.events) ≡ r.world.injections
  pub balanced : (n k : ℕ) → ledger n k r ≡ one_if (names (injected r n) k)
  pub copies : (a link : ℕ) → AllByRecursion (IsItemIn r) (queue_at r.world.flights a link)
  pub delivered : AllByRecursion (λ g. IsDeliveryIn r g.1) r.got
  pub total : named_total r ≡ length r.got + (dropped_total r + ids_in_flight r.world.flights)

-- ---- deliveries at routers

-- how often a router delivered an injection
abbrev pub delivered_at : ℕ → ℕ → Run → ℕ
delivered_at a n r = tally (λ g. (g.1.router == a) && (g.1.injection == n)) r.got

-- each delivery is for a BFR-id that its injection names
abbrev pub DeliversNamed : Run → Type 0
DeliversNamed r = AllByRecursion (λ g. names (injected r g.1.injection) g.1.id ≡ true) r.got
