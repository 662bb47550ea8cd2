-- All BFR-ids that an event names are delivered, dropped or on the way after it, with those that were on the way before.
use Rattle.std.proofs.Common.{◌≡◌, inl, inr, ℕ, ◌+◌, Bool, true, List, [], ◌∷◌, length, slice_get, sum_by, Option, Some, None, refl, sym, ap, ◌∙◌, arith}
use Rattle.std.specs.List.{AllByRecursion}
use Rattle.std.proofs.lemmas.List.Sums.{sum_by-cons}
use Rattle.wire_base.specs.model.Control.{Control}
use Rattle.wire_base.specs.model.Hop.{distinct}
use Rattle.wire_base.specs.model.Ingress.{id_set}
use Rattle.wire_base.specs.model.Item.{Item, ControlItem, PacketItem, DataItem}
use Rattle.replay_text.specs.declared.event.Event.{Event}
use Rattle.domain_model.specs.declared.lines.GotLine.{GotLine}
use Rattle.domain_model.specs.declared.lines.DropLine.{DropLine}
use Rattle.domain_model.specs.World.{WorldState, queue_at, carried, ids_in_flight}
use Rattle.domain_model.specs.Faults.{event_fault}
use Rattle.domain_model.specs.Step.{happens}
use Rattle.domain_model.specs.Truth.{IsTruthful, EventFits}
use Rattle.domain_model.proofs.EachLaws.{each_weaker}
use Rattle.laws_ledger.specs.Ledger.{Injection, injection_of, over_all}
use Rattle.laws_ledger.specs.Runs.{named_in}
use Rattle.laws_ledger.proofs.SumLaws.{sum-same}
use Rattle.laws_ledger.proofs.GroupLaws.{how_many}
use Rattle.laws_ledger.proofs.MeasureLaws.{share_of, in_item, in_got, in_drop}
use Rattle.laws_ledger.proofs.CountLaws.{named_count, event-count, injection_named, injection_there}
use Rattle.laws_ledger.proofs.LedgerLaws.{over-same}
use Rattle.laws_ledger.proofs.SourceLaws.{IfPacket, IsDropFrom, event_from}

pub carried-all : (flights : List (List (List Item))) → ids_in_flight flights ≡ over_all carried flights
unfolding ids_in_flight over_all
carried-all flights = refl

abbrev any : ℕ → Bool
any n = true

abbrev size : List ℕ → ℕ
size ids = length ids

item_sizes : (x : Item) → carried x ≡ in_item any size x
item_sizes (ControlItem p) = refl
item_sizes (PacketItem x) = refl

got_sizes : (gots : List GotLine) → sum_by (in_got any size) gots ≡ length gots
got_sizes [] = refl
got_sizes (g ∷ gs) = omega (arith, sum_by-cons (in_got any size) g gs, got_sizes gs)

abbrev Any : DataItem → Type 0
Any x = Unit {0}

drop_size : (d : DropLine) → IsDropFrom Any d → in_drop any size d ≡ length d.ids
drop_size d (inl none) = ap (λ (o : Option ℕ). share_of any size o d.ids) none.0 ∙ sym (ap (λ (l : List ℕ). length l) none.1)
drop_size d (inr some) = ap (λ (o : Option ℕ). share_of any size o d.ids) some.2

named-size : (w : WorldState) (e : Event) → IsTruthful w → EventFits (length w.domain.routers) e → event_fault w e ≡ None → named_count any size how_many w.injections (injection_of e) ≡ named_in (injection_of e)
named-size w e truth fits ok = by (injection_of e) refl
  where
    at : (i : Injection) → injection_of e ≡ Some i → (q : Option Control) → slice_get w.routers i.router ≡ q → length (id_set i.ids) ≡ length (distinct i.ids)
    at i is None there = absurd (injection_there w truth e i is fits there)
    at i is (Some c) there = let k = injection_named w e i c is there fits ok in k.once

    by : (o : Option Injection) → injection_of e ≡ o → named_count any size how_many w.injections o ≡ named_in o
    by None is = refl
    by (Some i) is = at i is (slice_get w.routers i.router) refl

pub event_total : (w : WorldState) (e : Event) → IsTruthful w → EventFits (length w.domain.routers) e → event_fault w e ≡ None
    → ids_in_flight w.flights + named_in (injection_of e) ≡ ids_in_flight (happens w e).world.flights + (length (happens w e).made.got + sum_by (λ d. length d.ids) (happens w e).made.drops)
event_total w e truth fits ok =
    let n = happens w e in
    let from = event_from Any (λ x y same h. tt) w e truth (λ a link. all_any (queue_at w.flights a link)) (λ i is x number of. tt) in
    omega (
      arith,
      event-count any size how_many w e truth fits ok,
      carried-all w.flights,
      carried-all n.world.flights,
      over-same carried (in_item any size) item_sizes w.flights,
      over-same carried (in_item any size) item_sizes n.world.flights,
      got_sizes n.made.got,
      sum-same (in_drop any size) (λ d. length d.ids) n.made.drops (each_weaker (IsDropFrom Any) (λ d. in_drop any size d ≡ length d.ids) drop_size n.made.drops from.drops),
      named-size w e truth fits ok,
    )
  where
    all_any : (xs : List Item) → AllByRecursion (IfPacket Any) xs
    all_any [] = tt
    all_any (ControlItem p ∷ xs) = (tt, all_any xs)
    all_any (PacketItem x ∷ xs) = (tt, all_any xs)
