-- The effect of one event on the ledger, in terms of the world before it, the world after it, and its result (RFC 8279,
-- 6.5).
use Rattle.std.specs.Prelude.{◌≡◌, ℕ, ◌+◌, ◌<◌, ◌≤◌, true, length, sum_by, Some, None}
use Rattle.wire_base.specs.model.Hop.{one_if}
use Rattle.replay_text.specs.declared.event.Event.{Event}
use Rattle.domain_model.specs.World.{WorldState, ids_in_flight}
use Rattle.laws_ledger.specs.Ledger.{Injection, injection_of, names, entered, copies_of, deliveries_of, drops_of, AreCopiesOf, AreDeliveriesOf}
use Rattle.laws_ledger.specs.Runs.{named_in}
use Rattle.laws_ledger.specs.Weights.{weights, first_weight, takes_copy}
use Rattle.domain_model.specs.declared.step_out.StepOut.{StepOut}

-- Each injection is named by its number n, and k is a BFR-id.
pub record KeepsLedger (old new : WorldState) (e : Event) (out : StepOut) : Type 0 where
  -- the copies with k before the event, and one more if it is the injection and names k, are those after it and its
  -- deliveries and drops for k
  pub balanced : (n k : ℕ) → copies_of n k old.flights + one_if (names (entered old.injections e n) k) ≡ copies_of n k new.flights + (deliveries_of n k out.got + drops_of n k out.drops)
  -- the same is true of all BFR-ids together
  pub total : ids_in_flight old.flights + named_in (injection_of e) ≡ ids_in_flight new.flights + (length out.got + sum_by (λ d. length d.ids) out.drops)
  -- the copies of an injection have its sub-domain, payload and entropy, and each delivery is at a router whose own
  -- BFR-id is the one delivered
  pub first_copies : (n : ℕ) (i : Injection) → entered old.injections e n ≡ Some i → AreCopiesOf i n new.flights
  pub first_deliveries : (n : ℕ) (i : Injection) → entered old.injections e n ≡ Some i → AreDeliveriesOf old.domain.routers i n out.got
  pub copies : (n : ℕ) (i : Injection) → n ≤ old.injections → AreCopiesOf i n old.flights → AreCopiesOf i n new.flights
  pub deliveries : (n : ℕ) (i : Injection) → n ≤ old.injections → AreCopiesOf i n old.flights → AreDeliveriesOf old.domain.routers i n out.got
  -- each `take` of a copy lowers the weight of the copies of its injection, and no event but the injection raises it
  pub first_weight_is : (n : ℕ) (i : Injection) → entered old.injections e n ≡ Some i → weights n new.flights ≤ first_weight i
  pub take_lowers : (n : ℕ) → takes_copy old n e ≡ true → weights n new.flights < weights n old.flights
  pub none_raises : (n : ℕ) → entered old.injections e n ≡ None → weights n new.flights ≤ weights n old.flights
