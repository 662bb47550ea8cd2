-- The ledger of one event, in plain words.
use Rattle.std.proofs.Common.{◌≡◌, ℕ, ◌+◌, ◌==◌, ◌&&◌, ◌||◌, Bool, true, false, if◌then◌else◌, List, length, sum_by, Option, Some, None, refl, sym, ap, ◌∙◌, arith}
use Rattle.wire_base.specs.model.Hop.{has, one_if}
use Rattle.wire_base.specs.model.Ingress.{id_set}
use Rattle.wire_base.specs.model.Item.{Item, ControlItem, PacketItem}
use Rattle.replay_text.specs.declared.event.Event.{Event}
use Rattle.domain_model.specs.declared.lines.GotLine.{GotLine}
use Rattle.domain_model.specs.declared.lines.DropLine.{DropLine}
use Rattle.domain_model.specs.World.{WorldState}
use Rattle.domain_model.specs.Faults.{event_fault}
use Rattle.domain_model.specs.Step.{happens}
use Rattle.domain_model.specs.Truth.{IsTruthful, EventFits}
use Rattle.domain_model.proofs.EachLaws.{each_from}
use Rattle.laws_ledger.specs.Ledger.{Injection, injection_of, names, entered, carries, over_all, copies_of, is_got, is_numbered, is_drop, deliveries_of, drops_of, Balances}
use Rattle.laws_ledger.proofs.SumLaws.{sum-same, tally-sum}
use Rattle.laws_ledger.proofs.MeasureLaws.{share_of, in_item, in_got, in_drop}
use Rattle.laws_ledger.proofs.GroupLaws.{has-set, one_id}
use Rattle.laws_ledger.proofs.CountLaws.{named_count, event-count}

pub over-same : (f g : Item → ℕ) → ((x : Item) → f x ≡ g x) → (flights : List (List (List Item))) → over_all f flights ≡ over_all g flights
unfolding over_all
over-same f g h flights =
    sum-same (λ qs. sum_by (λ q. sum_by f q) qs) (λ qs. sum_by (λ q. sum_by g q) qs) flights
    (each_from (λ qs. sum_by (λ q. sum_by f q) qs ≡ sum_by (λ q. sum_by g q) qs)
    (λ qs. sum-same (λ q. sum_by f q) (λ q. sum_by g q) qs (each_from (λ q. sum_by f q ≡ sum_by g q) (λ q. sum-same f g q (each_from (λ x. f x ≡ g x) h q)) qs)) flights)

module _ (n k : ℕ) where
  abbrev of_n : ℕ → Bool
  of_n m = m == n

  abbrev with_k : List ℕ → ℕ
  with_k ids = one_if (has ids k)

  both : (a b : Bool) → one_if (a && b) ≡ (if a then one_if b else 0)
  both true b = refl
  both false b = refl

  item_counts : (x : Item) → one_if (carries n k x) ≡ in_item of_n with_k x
  item_counts (ControlItem p) = refl
  item_counts (PacketItem x) = both (x.number == n) (has x.ids k)

  pub copies-count : (flights : List (List (List Item))) → copies_of n k flights ≡ over_all (in_item of_n with_k) flights
  copies-count flights = over-same (λ x. one_if (carries n k x)) (in_item of_n with_k) item_counts flights

  got_counts : (g : GotLine) → one_if (is_got n k g) ≡ in_got of_n with_k g
  got_counts g = both (g.injection == n) (g.id == k) ∙ ap (λ (b : Bool). if g.injection == n then one_if b else 0) (alone (g.id == k))
    where
      alone : (b : Bool) → b ≡ (b || false)
      alone true = refl
      alone false = refl

  deliveries-count : (gots : List GotLine) → deliveries_of n k gots ≡ sum_by (in_got of_n with_k) gots
  deliveries-count gots = tally-sum (is_got n k) gots ∙ sum-same (λ g. one_if (is_got n k g)) (in_got of_n with_k) gots (each_from (λ g. one_if (is_got n k g) ≡ in_got of_n with_k g) got_counts gots)

  drop_counts : (d : DropLine) → one_if (is_drop n k d) ≡ in_drop of_n with_k d
  drop_counts d = by d.injection
    where
      by : (o : Option ℕ) → one_if (is_numbered o n && has d.ids k) ≡ share_of of_n with_k o d.ids
      by None = refl
      by (Some m) = both (m == n) (has d.ids k)

  drops-count : (drops : List DropLine) → drops_of n k drops ≡ sum_by (in_drop of_n with_k) drops
  drops-count drops = tally-sum (is_drop n k) drops ∙ sum-same (λ d. one_if (is_drop n k d)) (in_drop of_n with_k) drops (each_from (λ d. one_if (is_drop n k d) ≡ in_drop of_n with_k d) drop_counts drops)

  named-counts : (made : ℕ) (e : Event) → one_if (names (entered made e n) k) ≡ named_count of_n with_k (one_id k) made (injection_of e)
  named-counts made e = by (injection_of e)
    where
      with_set : (i : Injection) (b : Bool) → one_if (names (if b then Some i else None) k) ≡ (if b then with_k (id_set i.ids) else 0)
      with_set i true = ap one_if (sym (has-set i.ids k))
      with_set i false = refl

      none : (b : Bool) → one_if (names (if b then None else None) k) ≡ 0
      none true = refl
      none false = refl

      by : (o : Option Injection) → one_if (names (if made + 1 == n then o else None) k) ≡ named_count of_n with_k (one_id k) made o
      by None = none (made + 1 == n)
      by (Some i) = with_set i (made + 1 == n)

  pub event_balances : (w : WorldState) (e : Event) → IsTruthful w → EventFits (length w.domain.routers) e → event_fault w e ≡ None → Balances w e n k
  event_balances w e truth fits ok =
      let m = happens w e in
      omega (
        arith,
        event-count of_n with_k (one_id k) w e truth fits ok,
        copies-count w.flights,
        copies-count m.world.flights,
        deliveries-count m.made.got,
        drops-count m.made.drops,
        named-counts w.injections e,
      )
