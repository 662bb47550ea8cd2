-- What the copies of an injection weigh, event by event.
use Rattle.std.proofs.Common.{◌≡◌, ◌⊎◌, inl, inr, ℕ, suc, ◌+◌, ◌*◌, ◌<◌, ◌≤◌, ◌==◌, Bool, true, false, if◌then◌else◌, List, [], ◌∷◌, length, slice_get, slice_index_or, sum_by, Option, Some, None, refl, sym, ap, subst, ◌∙◌, arith}
use mathlib.Core.Bool.{false≢true}
use Rattle.std.specs.List.{AllByRecursion}
use Rattle.std.proofs.lemmas.Bool.{eqb-true, eq-eqb, ne_eqb}
use Rattle.std.proofs.lemmas.Option.{same_Some}
use Rattle.std.proofs.lemmas.List.Sums.{sum_by-cons}
use Rattle.wire_base.specs.declared.cause.Cause.TheVariants as cause
use Rattle.wire_base.specs.model.Control.{Control}
use Rattle.wire_base.specs.model.Hop.{one_if}
use Rattle.wire_base.specs.model.Item.{Item, ControlItem, PacketItem, DataItem}
use Rattle.replay_text.specs.declared.event.Event.{Event}
use Rattle.replay_text.specs.declared.event.Event.TheVariants.{Inject, Take, Lose, Again, Down, Up, Send, Tick, Restart, Relabel, Leave, Join}
use Rattle.domain_model.specs.World.{WorldState, is_up, peer_place, link_between, queue_at, queue_over, frames_between}
use Rattle.domain_model.specs.Moves.{Sending, item_lost, packet_taken, inject_made}
use Rattle.domain_model.specs.Faults.{event_fault}
use Rattle.domain_model.specs.Step.{Happened, makes, taken_off, arrives, comes, takes, takes_over, counted, happens}
use Rattle.domain_model.specs.Run.{world_after}
use Rattle.domain_model.specs.Truth.{IsTrueItem, IsTruthful, confs_now, EventFits}
use Rattle.domain_model.proofs.EachLaws.{each_weaker}
use Rattle.domain_model.proofs.QueueLaws.{got_within}
use Rattle.domain_model.proofs.LinkLaws.{join_of, links_back}
use Rattle.domain_model.proofs.WorldTruth.{happens_true}
use Rattle.laws_ledger.specs.Ledger.{Injection, injection_of, entered, over_all}
use Rattle.laws_ledger.specs.Runs.{AreAllowed}
use Rattle.laws_ledger.specs.Weights.{weight, weight_in, weights, first_weight, is_of, copies_in, is_one_of, takes_copy, takes_in}
use Rattle.laws_ledger.proofs.SumLaws.{sum-most, sum-none}
use Rattle.laws_ledger.proofs.ShapeLaws.{IsOff, IsQuiet, IsDropped, IsEntered, Shape, Quiet, Dropped, Taken, Entered, shape_of}
use Rattle.laws_ledger.proofs.FlightLaws.{Lands, taken-sum, sent-sum, controls-sum, taken_shape}
use Rattle.laws_ledger.proofs.WorldLaws.{is_there, owner_at, copy_at, copy_order}
use Rattle.laws_ledger.proofs.CountLaws.{taken_lands, inject_lands, injection_named, injection_there}
use Rattle.laws_ledger.proofs.WeightLaws.{sent_weight, lively_weight, taken_less, inject_most}
use Rattle.laws_ledger.proofs.SourceLaws.{IsSameSource, IfPacket, taken_from, inject_from}
use Rattle.laws_ledger.proofs.RunLaws.{listed_one, entered_more}

-- ---- sums over queues, by what holds of each item

module _ (P : Item → Type 0) (f g : Item → ℕ) (most : (x : Item) → P x → f x ≤ g x) where
  row_most : (row : List (List Item)) → ((link : ℕ) → AllByRecursion P (slice_index_or row link [])) → sum_by (λ q. sum_by f q) row ≤ sum_by (λ q. sum_by g q) row
  row_most [] all = omega arith
  row_most (q ∷ qs) all =
      omega (arith, sum_by-cons (λ q. sum_by f q) q qs, sum_by-cons (λ q. sum_by g q) q qs, sum-most f g q (each_weaker P (λ x. f x ≤ g x) most q (all 0)), row_most qs (λ link. all (suc link)))

  pub over-most : (flights : List (List (List Item))) → ((a link : ℕ) → AllByRecursion P (queue_at flights a link)) → over_all f flights ≤ over_all g flights
  unfolding over_all
  over-most [] all = omega arith
  over-most (row ∷ rows) all =
      omega (
        arith,
        sum_by-cons (λ qs. sum_by (λ q. sum_by f q) qs) row rows,
        sum_by-cons (λ qs. sum_by (λ q. sum_by g q) qs) row rows,
        row_most row (λ link. all 0 link),
        over-most rows (λ a link. all (suc a) link),
      )

over-zero : (flights : List (List (List Item))) → over_all (λ x. 0) flights ≡ 0
unfolding over_all
over-zero flights = sum-none (λ qs. sum_by (λ q. sum_by (λ x. 0) q) qs) flights (λ qs. sum-none (λ q. sum_by (λ x. 0) q) qs (λ q. sum-none (λ x. 0) q (λ x. refl)))

-- ---- one event

same_number : (m : ℕ) (x y : DataItem) → IsSameSource x y → x.number ≡ m → y.number ≡ m
same_number m x y same h = same.number ∙ h

module _ (n : ℕ) where
  -- what is sent of other injections weighs nothing here
  others_none : (m : ℕ) → (m == n) ≡ false → (sendings : List Sending) → AllByRecursion (λ (s : Sending). IfPacket (λ x. x.number ≡ m) s.item) sendings → sent_weight n sendings ≡ 0
  others_none m other [] all = refl
  others_none m other (s ∷ ss) all = omega (arith, sum_by-cons (λ (s : Sending). weight_in n s.item) s ss, by s.item all.0, others_none m other ss all.1)
    where
      by : (x : Item) → IfPacket (λ y. y.number ≡ m) x → weight_in n x ≡ 0
      by (ControlItem p) h = refl
      by (PacketItem x) h = let e : (x.number == n) ≡ false = ap (λ (k : ℕ). k == n) h ∙ other in rw e refl

  module _ (w : WorldState) (truth : IsTruthful w) where
    quiet_weight : (m : Happened) → IsQuiet w m → weights n m.world.flights ≡ weights n w.flights
    quiet_weight m q = ap (weights n) q.flights ∙ controls-sum (weight_in n) (λ p. refl) q.pushed q.before q.controls ∙ before q.before q.off
      where
        before : (flights : List (List (List Item))) → (flights ≡ w.flights) ⊎ IsOff w.flights flights → weights n flights ≡ weights n w.flights
        before flights (inl same) = ap (weights n) same
        before flights (inr off) = ap (weights n) off.is ∙ omega (arith, taken-sum (weight_in n) w.flights off.from off.link off.i (ControlItem off.pdu) off.at)

    -- a copy that is gone
    gone_weight : (a b link i : ℕ) (x : DataItem) → slice_get (queue_at w.flights a link) i ≡ Some (PacketItem x) → weights n (taken_off w a link i).flights + weight_in n (PacketItem x) ≡ weights n w.flights
    gone_weight a b link i x at = taken-sum (weight_in n) w.flights a link i (PacketItem x) at

    dropped_weight : (e : Event) (m : Happened) → IsDropped w e m → weights n m.world.flights ≤ weights n w.flights
    dropped_weight e m d =
        let is = ap (λ (h : Happened). weights n h.world.flights) d.is in
        omega (arith, is, gone_weight d.from d.to d.link d.i d.item d.at)

    -- what is sent of a copy that comes to a router
    sent_is : (a b link i : ℕ) (c : Control) (x : DataItem) → slice_get w.routers b ≡ Some c → weights n (makes (taken_off w a link i) (packet_taken w.domain.routers b c x x.outer)).world.flights ≡ weights n (taken_off w a link i).flights + sent_weight n (packet_taken w.domain.routers b c x x.outer).sent
    sent_is a b link i c x there =
        let made = packet_taken w.domain.routers b c x x.outer in
        let lands = subst (λ (counts : List ℕ). AllByRecursion (Lands counts) made.sent) (sym (taken_shape w.flights a link i)) (taken_lands w truth b c there x) in
        sent-sum (weight_in n) (λ p. refl) made.sent (taken_off w a link i).flights lands

    lively_ids : (x : DataItem) → (x.ids ≡ [] → ⊥) → 0 < length x.ids
    lively_ids x some = by x.ids some
      where
        by : (ks : List ℕ) → (ks ≡ [] → ⊥) → 0 < length ks
        by [] h = absurd (h refl)
        by (k ∷ ks) h = omega arith

    -- a copy of this injection that comes to a router: lower
    hopped_weight : (a b link i : ℕ) (c : Control) (x : DataItem) → link_between w.domain.routers a b ≡ Some link → slice_get (queue_at w.flights a link) i ≡ Some (PacketItem x) → slice_get w.routers b ≡ Some c → x.number ≡ n
        → weights n (makes (taken_off w a link i) (packet_taken w.domain.routers b c x x.outer)).world.flights < weights n w.flights
    hopped_weight a b link i c x joined at there of =
        let copy = copy_at w truth a b link i x joined at in
        let less = taken_less n w.domain.routers b c x (copy_order (confs_now w) w.injections b x copy) copy.lives (lively_ids x copy.some) in
        let whole : weight_in n (PacketItem x) ≡ weight x = rw (eq-eqb x.number n of) refl in
        omega (arith, less, whole, sent_is a b link i c x there, gone_weight a b link i x at)

    passed_weight : (a b link i : ℕ) (c : Control) (x : DataItem) → link_between w.domain.routers a b ≡ Some link → slice_get (queue_at w.flights a link) i ≡ Some (PacketItem x) → slice_get w.routers b ≡ Some c
        → weights n (makes (taken_off w a link i) (packet_taken w.domain.routers b c x x.outer)).world.flights ≤ weights n w.flights
    passed_weight a b link i c x joined at there = by (x.number == n) refl
      where
        by : (t : Bool) → (x.number == n) ≡ t → weights n (makes (taken_off w a link i) (packet_taken w.domain.routers b c x x.outer)).world.flights ≤ weights n w.flights
        by true e = omega (arith, hopped_weight a b link i c x joined at there (eqb-true x.number n e))
        by false e =
            let from = taken_from (λ y. y.number ≡ x.number) (same_number x.number) w.domain.routers b c x (owner_at w truth b c there) refl in
            omega (arith, others_none x.number e (packet_taken w.domain.routers b c x x.outer).sent from.sent, sent_is a b link i c x there, gone_weight a b link i x at)

    -- no copy has the number of an injection to come
    none_yet : w.injections < n → weights n w.flights ≡ 0
    none_yet later =
        let few = over-most (IfPacket (λ y. y.number ≤ w.injections)) (weight_in n) (λ x. 0) none w.flights (λ a link. each_weaker (IsTrueItem (confs_now w) w.injections (peer_place w.domain.routers a link)) (IfPacket (λ y. y.number ≤ w.injections)) (known (peer_place w.domain.routers a link)) (queue_at w.flights a link) (truth.items a link)) in
        omega (arith, few, over-zero w.flights)
      where
        known : (b : ℕ) (x : Item) → IsTrueItem (confs_now w) w.injections b x → IfPacket (λ y. y.number ≤ w.injections) x
        known b (ControlItem p) h = tt
        known b (PacketItem x) h = h.made

        none : (x : Item) → IfPacket (λ y. y.number ≤ w.injections) x → weight_in n x ≤ 0
        none (ControlItem p) h = omega arith
        none (PacketItem x) h = let e : (x.number == n) ≡ false = ne_eqb x.number n (λ z. omega (arith, z, h, later)) in rw e (omega arith)

    -- ---- injections

    inject_weight : (e : Event) (m : Happened) (k : IsEntered w e m) → weights n m.world.flights ≡ weights n w.flights + sent_weight n (inject_made w.domain.routers k.injection.router k.router (w.injections + 1) k.injection.sd k.injection.bsl k.injection.ids k.injection.ttl k.injection.entropy k.injection.payload).sent
    inject_weight e m k =
        let i = k.injection in
        let made = inject_made w.domain.routers i.router k.router (w.injections + 1) i.sd i.bsl i.ids i.ttl i.entropy i.payload in
        ap (λ (h : Happened). weights n h.world.flights) k.is ∙ sent-sum (weight_in n) (λ p. refl) made.sent w.flights (inject_lands w truth i.router k.router k.there (w.injections + 1) i.sd i.bsl i.ids i.ttl i.entropy i.payload)

    -- what enters under another number weighs nothing here
    other_enters : (e : Event) (m : Happened) → IsEntered w e m → (w.injections + 1 == n) ≡ false → weights n m.world.flights ≤ weights n w.flights
    other_enters e m k other =
        let i = k.injection in
        let from = inject_from (λ y. y.number ≡ w.injections + 1) (same_number (w.injections + 1)) w.domain.routers i.router k.router (w.injections + 1) i (owner_at w truth i.router k.router k.there) (λ x number of. number) in
        let none = others_none (w.injections + 1) other (inject_made w.domain.routers i.router k.router (w.injections + 1) i.sd i.bsl i.ids i.ttl i.entropy i.payload).sent from.sent in
        omega (arith, inject_weight e m k, none)

    -- an event that isn't the injection n raises nothing
    pub event_weight : (e : Event) → entered w.injections e n ≡ None → weights n (happens w e).world.flights ≤ weights n w.flights
    event_weight e not = by (happens w e) (shape_of w e)
      where
        not_this : (o : Option Injection) (i : Injection) (b : Bool) → o ≡ Some i → (if b then o else None) ≡ None → b ≡ false
        not_this o i true is h = (let z : Some i ≡ None = sym is ∙ h in cc)
        not_this o i false is h = refl

        by : (m : Happened) → Shape w e m → weights n m.world.flights ≤ weights n w.flights
        by m (Quiet q none) = omega (arith, quiet_weight m q)
        by m (Dropped d none) = dropped_weight e m d
        by m (Taken k none) =
            let is = ap (λ (h : Happened). weights n h.world.flights) k.is in
            omega (arith, is, passed_weight k.from k.to k.link k.i k.router k.item k.joined k.at k.there)
        by m (Entered k) = other_enters e m k (not_this (injection_of e) k.injection (w.injections + 1 == n) k.event not)

    -- the injection n
    pub first_is : (e : Event) (i : Injection) → EventFits (length w.domain.routers) e → event_fault w e ≡ None → entered w.injections e n ≡ Some i → weights n (happens w e).world.flights ≤ first_weight i
    first_is e i fits ok is = by (happens w e) (shape_of w e)
      where
        number : (b : Bool) → (w.injections + 1 == n) ≡ b → (if b then injection_of e else None) ≡ Some i → (w.injections < n) × (injection_of e ≡ Some i)
        number true e h = ((let z = eqb-true (w.injections + 1) n e in omega (arith, z)), h)
        number false e h = cc

        this : (w.injections < n) × (injection_of e ≡ Some i)
        this = number (w.injections + 1 == n) refl is

        never : injection_of e ≡ None → ⊥
        never none = (let z : None ≡ Some i = sym none ∙ this.1 in cc)

        by : (m : Happened) → Shape w e m → weights n m.world.flights ≤ first_weight i
        by m (Quiet q (inl none)) = absurd (never none)
        by m (Quiet q (inr nowhere)) = absurd (injection_there w truth e nowhere.0 nowhere.1 fits nowhere.2)
        by m (Dropped d none) = absurd (never none)
        by m (Taken k none) = absurd (never none)
        by m (Entered k) =
            let j = k.injection in
            let named = injection_named w e j k.router k.event k.there fits ok in
            let same : j ≡ i = same_Some j i (sym k.event ∙ this.1) in
            let most = inject_most n w.domain.routers j.router k.router (w.injections + 1) j.sd j.bsl j.ids j.ttl j.entropy j.payload named.whole named.packets in
            let once = ap (λ k. k * (256 * j.ttl + 255)) named.once in
            subst (λ (h : Injection). weights n m.world.flights ≤ first_weight h) same (omega (arith, inject_weight e m k, most, once, none_yet this.0))

    -- ---- takes

    -- a copy that an event takes, and the router that it comes to
    record Arrival (a b i : ℕ) (x : DataItem) : Type 0 where
      link : ℕ
      joined : link_between w.domain.routers a b ≡ Some link
      at : slice_get (queue_at w.flights a link) i ≡ Some (PacketItem x)
      back : ℕ
      turned : link_between w.domain.routers b a ≡ Some back
      router : Control
      there : slice_get w.routers b ≡ Some router

    arrival_of : (a b i : ℕ) (x : DataItem) → slice_get (frames_between w a b) i ≡ Some (PacketItem x) → Arrival a b i x
    arrival_of a b i x h = by (link_between w.domain.routers a b) refl h
      where
        by : (l : Option ℕ) → link_between w.domain.routers a b ≡ l → slice_get (queue_over w.flights a l) i ≡ Some (PacketItem x) → Arrival a b i x
        by None e h = absurd cc
        by (Some link) e h =
            let j = join_of w.domain.routers a b link e in
            let back = links_back w.domain truth.valid.consistent a b link e in
            at (slice_get w.routers b) refl
          where
            at : (q : Option Control) → slice_get w.routers b ≡ q → Arrival a b i x
            at None s = (let j = join_of w.domain.routers a b link e in absurd (is_there w truth b (got_within w.domain.routers b j.far j.far_at) s))
            at (Some c) s = (let back = links_back w.domain truth.valid.consistent a b link e in record { link = link; joined = e; at = h; back = back.0; turned = back.1; router = c; there = s })

    arrival_is : (a b i : ℕ) (x : DataItem) (k : Arrival a b i x) → happens w (Take a b i) ≡ counted (comes (taken_off w a k.link i) b k.back k.router (PacketItem x))
    unfolding happens
    arrival_is a b i x k =
        ap (λ (h : Happened). counted h)
        (ap (λ (l : Option ℕ). takes_over w a b i l (link_between w.domain.routers b a)) k.joined
        ∙ ap (λ (l : Option ℕ). takes_over w a b i (Some k.link) l) k.turned
        ∙ ap (λ (o : Option Item). takes w a k.link b k.back i o (slice_get w.routers b)) k.at
        ∙ ap (λ (q : Option Control). takes w a k.link b k.back i (Some (PacketItem x)) q) k.there)

    taken_weight : (a b i : ℕ) (x : DataItem) → x.number ≡ n → slice_get (frames_between w a b) i ≡ Some (PacketItem x) → weights n (happens w (Take a b i)).world.flights < weights n w.flights
    taken_weight a b i x of h = let k = arrival_of a b i x h in subst (λ (m : Happened). weights n m.world.flights < weights n w.flights) (sym (arrival_is a b i x k)) (by k (is_up k.router k.back))
      where
        ended : (k : Arrival a b i x) → weights n (taken_off w a k.link i).flights < weights n w.flights
        ended k =
            let copy = copy_at w truth a b k.link i x k.joined k.at in
            let some = lively_weight n x copy.lives (lively_ids x copy.some) in
            let whole : weight_in n (PacketItem x) ≡ weight x = rw (eq-eqb x.number n of) refl in
            omega (arith, some, whole, gone_weight a b k.link i x k.at)

        by : (k : Arrival a b i x) (u : Bool) → weights n (if u then arrives (taken_off w a k.link i) b k.back k.router (PacketItem x) else makes (taken_off w a k.link i) (item_lost b cause.Link (PacketItem x))).world.flights < weights n w.flights
        by k true = hopped_weight a b k.link i k.router x k.joined k.at k.there of
        by k false = ended k

    pub take_weight : (e : Event) → takes_copy w n e ≡ true → weights n (happens w e).world.flights < weights n w.flights
    take_weight (Take a b i) h = by (slice_get (frames_between w a b) i) refl h
      where
        by : (o : Option Item) → slice_get (frames_between w a b) i ≡ o → is_one_of n o ≡ true → weights n (happens w (Take a b i)).world.flights < weights n w.flights
        by None e h = absurd (false≢true h)
        by (Some (ControlItem p)) e h = absurd (false≢true h)
        by (Some (PacketItem x)) e h = taken_weight a b i x (eqb-true x.number n h) e
    take_weight (Inject a sd bsl ks ttl entropy payload) h = absurd (false≢true h)
    take_weight (Lose a b i) h = absurd (false≢true h)
    take_weight (Again a b i) h = absurd (false≢true h)
    take_weight (Down a b) h = absurd (false≢true h)
    take_weight (Up a b) h = absurd (false≢true h)
    take_weight (Send a b) h = absurd (false≢true h)
    take_weight (Tick a) h = absurd (false≢true h)
    take_weight (Restart a) h = absurd (false≢true h)
    take_weight (Relabel a sd bsl label) h = absurd (false≢true h)
    take_weight (Leave a sd) h = absurd (false≢true h)
    take_weight (Join a sd) h = absurd (false≢true h)

    -- ---- what is left

    pub none_left : weights n w.flights ≡ 0 → copies_in n w.flights ≡ 0
    none_left nothing =
        let few = over-most (IfPacket (λ y. 0 < weight y)) (λ x. one_if (is_of n x)) (weight_in n) one w.flights (λ a link. each_weaker (IsTrueItem (confs_now w) w.injections (peer_place w.domain.routers a link)) (IfPacket (λ y. 0 < weight y)) (lively (peer_place w.domain.routers a link)) (queue_at w.flights a link) (truth.items a link)) in
        omega (arith, few, nothing)
      where
        lively : (b : ℕ) (x : Item) → IsTrueItem (confs_now w) w.injections b x → IfPacket (λ y. 0 < weight y) x
        lively b (ControlItem p) h = tt
        lively b (PacketItem x) h = lively_weight n x h.lives (lively_ids x h.some)

        one : (x : Item) → IfPacket (λ y. 0 < weight y) x → one_if (is_of n x) ≤ weight_in n x
        one (ControlItem p) h = omega arith
        one (PacketItem x) h = by (x.number == n)
          where
            by : (t : Bool) → one_if t ≤ (if t then weight x else 0)
            by true = omega (arith, h)
            by false = omega arith

  -- ---- several events

  step_weight : (w : WorldState) → IsTruthful w → n ≤ w.injections → (e : Event) → one_if (takes_copy w n e) + weights n (happens w e).world.flights ≤ weights n w.flights
  step_weight w truth made e = by (takes_copy w n e) refl
    where
      other : (w.injections + 1 == n) ≡ false
      other = ne_eqb (w.injections + 1) n (λ z. omega (arith, z, made))

      not : entered w.injections e n ≡ None
      not = rw other refl

      by : (t : Bool) → takes_copy w n e ≡ t → one_if t + weights n (happens w e).world.flights ≤ weights n w.flights
      by true h = omega (arith, take_weight w truth e h)
      by false h = omega (arith, event_weight w truth e not)

  pub takes_weight : (es : List Event) (w : WorldState) → IsTruthful w → n ≤ w.injections → AreAllowed w es → takes_in n w es + weights n (world_after w es).flights ≤ weights n w.flights
  takes_weight [] w truth made allowed = omega arith
  takes_weight (e ∷ es) w truth made allowed =
      let kept = happens_true w e truth allowed.0 allowed.1 in
      let more = entered_more w e truth allowed.0 in
      omega (arith, step_weight w truth made e, takes_weight es (happens w e).world kept.truth (omega (arith, made, more)) allowed.2)

  truth_after : (es : List Event) (w : WorldState) → IsTruthful w → AreAllowed w es → IsTruthful (world_after w es)
  truth_after [] w truth allowed = truth
  truth_after (e ∷ es) w truth allowed = let kept = happens_true w e truth allowed.0 allowed.1 in truth_after es (happens w e).world kept.truth allowed.2

  -- after as many takes as the copies weigh at most, none is left
  pub takes_end : (w : WorldState) (e : Event) (i : Injection) (es : List Event) → IsTruthful w → EventFits (length w.domain.routers) e → event_fault w e ≡ None → entered w.injections e n ≡ Some i
      → AreAllowed (happens w e).world es → first_weight i ≤ takes_in n (happens w e).world es → copies_in n (world_after (happens w e).world es).flights ≡ 0
  takes_end w e i es truth fits ok is allowed enough =
      let kept = happens_true w e truth fits ok in
      let fall = takes_weight es (happens w e).world kept.truth (number (w.injections + 1 == n) refl is) allowed in
      let nothing : weights n (world_after (happens w e).world es).flights ≡ 0 = omega (arith, fall, enough, first_is w truth e i fits ok is) in
      none_left (world_after (happens w e).world es) (truth_after es (happens w e).world kept.truth allowed) nothing
    where
      number : (b : Bool) → (w.injections + 1 == n) ≡ b → (if b then injection_of e else None) ≡ Some i → n ≤ (happens w e).world.injections
      number true s h = (let z = eqb-true (w.injections + 1) n s in let more = entered_more w e truth fits in let l = ap (λ o. length (listed_one o)) h in omega (arith, z, more, l))
      number false s h = cc
