-- Copies and deliveries are of their injection, each router delivers an injection once, and only what is named.
use Rattle.std.proofs.Common.{◌≡◌, ℕ, ◌+◌, ◌<◌, ◌≤◌, ◌==◌, ◌&&◌, Bool, true, false, if◌then◌else◌, List, [], ◌∷◌, slice_get, Option, Some, None, refl, sym, ap, subst, ◌∙◌, arith}
use Rattle.std.specs.List.{AllByRecursion}
use Rattle.std.proofs.lemmas.Bool.{and_parts, eqb-true, eq-eqb}
use Rattle.std.proofs.lemmas.Option.{same_Some}
use Rattle.wire_base.specs.declared.conf.RouterConf.{RouterConf}
use Rattle.wire_base.specs.declared.triple.Triple.{Triple}
use Rattle.wire_base.specs.model.Hop.{one_if, tally}
use Rattle.wire_base.specs.model.Item.{Item, ControlItem, PacketItem, DataItem}
use Rattle.wire_base.specs.model.Place.{own_id}
use Rattle.replay_text.specs.declared.event.Event.{Event}
use Rattle.domain_model.specs.declared.lines.GotLine.{GotLine}
use Rattle.domain_model.specs.World.{WorldState, peer_place, queue_at}
use Rattle.domain_model.specs.Step.{happens}
use Rattle.domain_model.specs.Run.{Run}
use Rattle.domain_model.specs.Truth.{IsTrueItem, IsTruthful, confs_now}
use Rattle.domain_model.proofs.EachLaws.{each_weaker}
use Rattle.laws_route.proofs.HopLemmas.{tally-map}
use Rattle.laws_ledger.specs.Ledger.{Injection, injection_of, names, entered, injected, is_got, deliveries, IsCopyOf, IsDeliveryOf, IsOneOf, AreCopiesOf, AreDeliveriesOf}
use Rattle.laws_ledger.specs.Runs.{IsDeliveryIn, IsAccounted, delivered_at, DeliversNamed}
use Rattle.laws_ledger.proofs.SourceLaws.{IsSameSource, IfPacket, IsGotFrom, IsAfterFrom, event_from}

-- ---- one event

module _ (n : ℕ) (i : Injection) where
  abbrev Of : DataItem → Type 0
  Of x = x.number ≡ n → IsCopyOf i x

  of_kept : (x y : DataItem) → IsSameSource x y → Of x → Of y
  of_kept x y same h number =
      let k = h (sym same.number ∙ number) in
      record { sd = ap (λ (t : Triple). t.sd) same.triple ∙ k.sd; triple = λ j named. same.triple ∙ k.triple j (same.part j named); payload = same.payload ∙ k.payload; entropy = same.entropy ∙ k.entropy }

  pub record IsOfAfter (w : WorldState) (e : Event) : Type 0 where
    pub copies : AreCopiesOf i n (happens w e).world.flights
    pub delivered : AreDeliveriesOf w.domain.routers i n (happens w e).made.got

  of_after : (w : WorldState) (e : Event) → IsTruthful w → ((a link : ℕ) → AllByRecursion (IfPacket Of) (queue_at w.flights a link)) → ((j : Injection) → injection_of e ≡ Some j → (x : DataItem) → x.number ≡ w.injections + 1 → IsCopyOf j x → Of x) → IsOfAfter w e
  of_after w e truth all first = record {
    copies = λ a link. each_weaker (IfPacket Of) (IsOneOf i n) item (queue_at (happens w e).world.flights a link) (from.copies a link);
    delivered = each_weaker (IsGotFrom w.domain.routers Of) (λ g. g.injection ≡ n → IsDeliveryOf w.domain.routers i g) got (happens w e).made.got from.got;
  }
    where
      from : IsAfterFrom Of of_kept w.domain.routers (happens w e)
      from = event_from Of of_kept w e truth all first

      item : (x : Item) → IfPacket Of x → IsOneOf i n x
      item (ControlItem p) h = tt
      item (PacketItem x) h = h

      got : (g : GotLine) → IsGotFrom w.domain.routers Of g → g.injection ≡ n → IsDeliveryOf w.domain.routers i g
      got g h number =
          let k = h.holds (sym h.number ∙ number) in
          record { router = h.router; there = h.there; own = ap (own_id h.router) (sym k.sd) ∙ h.own; payload = h.payload ∙ k.payload }

  pub later_of : (w : WorldState) (e : Event) → IsTruthful w → n ≤ w.injections → AreCopiesOf i n w.flights → IsOfAfter w e
  later_of w e truth made all =
      of_after w e truth (λ a link. each_weaker (IsOneOf i n) (IfPacket Of) item (queue_at w.flights a link) (all a link)) (λ j is x number of same. absurd (omega (arith, number, same, made)))
    where
      item : (x : Item) → IsOneOf i n x → IfPacket Of x
      item (ControlItem p) h = tt
      item (PacketItem x) h = h

  pub first_of_it : (w : WorldState) (e : Event) → IsTruthful w → entered w.injections e n ≡ Some i → IsOfAfter w e
  first_of_it w e truth is =
      let this = number (w.injections + 1 == n) refl is in
      of_after w e truth
      (λ a link. each_weaker (IsTrueItem (confs_now w) w.injections (peer_place w.domain.routers a link)) (IfPacket Of) (none (peer_place w.domain.routers a link) this.0) (queue_at w.flights a link) (truth.items a link))
      (λ j event x number of same. subst (λ (h : Injection). IsCopyOf h x) (same_Some j i (sym event ∙ this.1)) of)
    where
      number : (b : Bool) → (w.injections + 1 == n) ≡ b → (if b then injection_of e else None) ≡ Some i → (w.injections < n) × (injection_of e ≡ Some i)
      number true e h = ((let z = eqb-true (w.injections + 1) n e in omega (arith, z)), h)
      number false e h = cc

      none : (b : ℕ) → w.injections < n → (x : Item) → IsTrueItem (confs_now w) w.injections b x → IfPacket Of x
      none b later (ControlItem p) h = tt
      none b later (PacketItem x) h = λ same. (let made = h.made in absurd (omega (arith, same, made, later)))

-- ---- whole runs

one_most : (b : Bool) → one_if b ≤ 1
one_most true = omega arith
one_most false = omega arith

pub one_delivery : (r : Run) (n k : ℕ) → IsAccounted r → deliveries n k r ≤ 1
one_delivery r n k all = omega (arith, all.balanced n k, one_most (names (injected r n) k))

-- each element is counted among those that are like it
each_counted : {X : Type 0} (p : X → X → Bool) → ((x : X) → p x x ≡ true) → (xs : List X) → AllByRecursion (λ x. 1 ≤ tally (p x) xs) xs
each_counted p same [] = tt
each_counted p same (x ∷ xs) = (rw (same x) (omega arith), each_weaker (λ y. 1 ≤ tally (p y) xs) (λ y. 1 ≤ tally (p y) (x ∷ xs)) (λ y h. omega (arith, h)) xs (each_counted p same xs))

both_from : (a b : Bool) → a ≡ true → b ≡ true → (a && b) ≡ true
both_from a b e f = rw (e, f) refl

pub delivers_named : (r : Run) → IsAccounted r → DeliversNamed r
delivers_named r all =
    each_weaker (λ (g : ℕ × GotLine). 1 ≤ tally (λ (h : ℕ × GotLine). is_got g.1.injection g.1.id h.1) r.got) (λ g. names (injected r g.1.injection) g.1.id ≡ true) named r.got
    (each_counted (λ (g h : ℕ × GotLine). is_got g.1.injection g.1.id h.1) (λ g. both_from (g.1.injection == g.1.injection) (g.1.id == g.1.id) (eq-eqb g.1.injection g.1.injection refl) (eq-eqb g.1.id g.1.id refl)) r.got)
  where
    by : (b : Bool) → 1 ≤ one_if b → b ≡ true
    by true h = refl
    by false h = absurd (omega (arith, h))

    named : (g : ℕ × GotLine) → 1 ≤ tally (λ (h : ℕ × GotLine). is_got g.1.injection g.1.id h.1) r.got → names (injected r g.1.injection) g.1.id ≡ true
    named g h = by (names (injected r g.1.injection) g.1.id) (omega (arith, h, all.balanced g.1.injection g.1.id, tally-map (is_got g.1.injection g.1.id) (λ (x : ℕ × GotLine). x.1) r.got))

most_by : {X : Type 0} (p q : X → Bool) (xs : List X) → AllByRecursion (λ x. p x ≡ true → q x ≡ true) xs → tally p xs ≤ tally q xs
most_by p q [] all = omega arith
most_by p q (x ∷ xs) all = omega (arith, by (p x) (q x) all.0, most_by p q xs all.1)
  where
    by : (a b : Bool) → (a ≡ true → b ≡ true) → one_if a ≤ one_if b
    by true b f = (let e = f refl in omega (arith, ap one_if e))
    by false b f = omega arith

none_by : {X : Type 0} (p : X → Bool) (xs : List X) → AllByRecursion (λ x. p x ≡ true → ⊥) xs → tally p xs ≡ 0
none_by p [] all = refl
none_by p (x ∷ xs) all = omega (arith, by (p x) all.0, none_by p xs all.1)
  where
    by : (a : Bool) → (a ≡ true → ⊥) → one_if a ≡ 0
    by true f = absurd (f refl)
    by false f = refl

-- a router's deliveries of an injection are all for its own id
record IsOwnDelivery (confs : List RouterConf) (a : ℕ) (i : Injection) (g : GotLine) : Type 0 where
  router : RouterConf
  there : slice_get confs a ≡ Some router
  own : own_id router i.sd ≡ Some g.id

module _ (r : Run) (a n : ℕ) (all : IsAccounted r) where
  abbrev confs : List RouterConf
  confs = r.world.domain.routers

  abbrev here : ℕ × GotLine → Bool
  here g = (g.1.router == a) && (g.1.injection == n)

  -- what is known of each delivery there
  known : (i : Injection) → injected r n ≡ Some i → (g : ℕ × GotLine) → IsDeliveryIn r g.1 → here g ≡ true → IsOwnDelivery confs a i g.1
  known i is g d h =
      let p = and_parts (g.1.router == a) (g.1.injection == n) h in
      let same : d.injection ≡ i = same_Some d.injection i (sym d.there ∙ ap (injected r) (eqb-true g.1.injection n p.1) ∙ is) in
      record { router = d.is.router; there = ap (slice_get confs) (sym (eqb-true g.1.router a p.0)) ∙ d.is.there; own = ap (λ (j : Injection). own_id d.is.router j.sd) (sym same) ∙ d.is.own }

  each_known : (P : ℕ × GotLine → Type 0) → ((g : ℕ × GotLine) → IsDeliveryIn r g.1 → P g) → AllByRecursion P r.got
  each_known P h = each_weaker (λ g. IsDeliveryIn r g.1) P h r.got all.delivered

  nowhere : ((g : ℕ × GotLine) → IsDeliveryIn r g.1 → here g ≡ true → ⊥) → delivered_at a n r ≤ 1
  nowhere none = let e = none_by here r.got (each_known (λ g. here g ≡ true → ⊥) none) in omega (arith, e)

  for_one : (k : ℕ) → ((g : ℕ × GotLine) → IsDeliveryIn r g.1 → here g ≡ true → g.1.id ≡ k) → delivered_at a n r ≤ 1
  for_one k same =
      let most = most_by here (λ (g : ℕ × GotLine). is_got n k g.1) r.got (each_known (λ g. here g ≡ true → is_got n k g.1 ≡ true) (λ g d h. (let p = and_parts (g.1.router == a) (g.1.injection == n) h in both_from (g.1.injection == n) (g.1.id == k) p.1 (eq-eqb g.1.id k (same g d h))))) in
      omega (arith, most, one_delivery r n k all, tally-map (is_got n k) (λ (x : ℕ × GotLine). x.1) r.got)

  at_own : (i : Injection) → injected r n ≡ Some i → (q : RouterConf) → slice_get confs a ≡ Some q → (o : Option ℕ) → own_id q i.sd ≡ o → delivered_at a n r ≤ 1
  at_own i is q there None e =
      nowhere (λ g d h. (let k = known i is g d h in let z : Some g.1.id ≡ None = sym k.own ∙ ap (λ (c : RouterConf). own_id c i.sd) (same_Some k.router q (sym k.there ∙ there)) ∙ e in cc))
  at_own i is q there (Some own) e =
      for_one own (λ g d h. (let k = known i is g d h in same_Some g.1.id own (sym k.own ∙ ap (λ (c : RouterConf). own_id c i.sd) (same_Some k.router q (sym k.there ∙ there)) ∙ e)))

  at_router : (i : Injection) → injected r n ≡ Some i → (q : Option RouterConf) → slice_get confs a ≡ q → delivered_at a n r ≤ 1
  at_router i is None e = nowhere (λ g d h. (let k = known i is g d h in let z : Some k.router ≡ None = sym k.there ∙ e in cc))
  at_router i is (Some q) e = at_own i is q e (own_id q i.sd) refl

  pub once_at : delivered_at a n r ≤ 1
  once_at = by (injected r n) refl
    where
      by : (o : Option Injection) → injected r n ≡ o → delivered_at a n r ≤ 1
      by None is = nowhere (λ g d h. (let p = and_parts (g.1.router == a) (g.1.injection == n) h in let z : Some d.injection ≡ None = sym d.there ∙ ap (injected r) (eqb-true g.1.injection n p.1) ∙ is in cc))
      by (Some i) is = at_router i is (slice_get confs a) refl
