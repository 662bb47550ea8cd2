-- One event: what a measure counts of the copies on the way before it, and of what it names, it counts after it in the
-- copies on the way, the deliveries and the drops.
use Rattle.std.proofs.Common.{◌≡◌, ◌⊎◌, inl, inr, ℕ, ◌+◌, ◌*◌, ◌<◌, ◌^◌, Bool, true, false, nat_le, List, length, map, slice_get, slice_index_or, sum_by, Option, Some, None, option_map, refl, sym, ap, subst, ◌∙◌, arith}
use Rattle.std.specs.List.{AllByRecursion}
use Rattle.std.proofs.lemmas.Option.{same_Some}
use Rattle.wire_base.specs.declared.bsl.Bsl.{Bsl}
use Rattle.wire_base.specs.declared.conf.RouterConf.{RouterConf}
use Rattle.wire_base.specs.declared.faults.EdgeFault.{EdgeFault}
use Rattle.wire_base.specs.model.Control.{Control}
use Rattle.wire_base.specs.model.Hop.{distinct}
use Rattle.wire_base.specs.model.Ingress.{IngressPacket, id_set, packets_for, edge_fault}
use Rattle.wire_base.specs.model.Item.{Item, ControlItem, PacketItem, DataItem, Outer}
use Rattle.wire_base.specs.model.OnFrame.{node_place}
use Rattle.wire_base.specs.model.Place.{bits_of}
use Rattle.wire_base.specs.model.View.{control_view}
use Rattle.replay_text.specs.declared.event.Event.{Event}
use Rattle.replay_text.specs.declared.event.Event.TheVariants.{Inject, Take, Lose, Again, Down, Up, Send, Tick, Restart, Relabel, Leave, Join}
use Rattle.domain_model.specs.declared.fault.EventFault.{EventFault}
use Rattle.domain_model.specs.declared.fault.EventFault.TheVariants as faults
use Rattle.domain_model.specs.declared.lines.DropLine.{DropLine}
use Rattle.domain_model.specs.World.{WorldState, in_flight}
use Rattle.domain_model.specs.Moves.{Made, entering_item, item_lost, hop_made, sent_onward, packet_taken, inject_made}
use Rattle.domain_model.specs.Faults.{most_events, most_in_flight, first_fault, entry_fault, rule_fault, event_fault}
use Rattle.domain_model.specs.Step.{Happened, makes, taken_off, counted, happens}
use Rattle.domain_model.specs.Truth.{IsTruthful, confs_now, EventFits}
use Rattle.domain_model.proofs.EachLaws.{each_from, each_weaker, each_mapped, each_flat}
use Rattle.domain_model.proofs.QueueLaws.{got_within}
use Rattle.domain_model.proofs.EnterTruth.{IsEntry, allowed_of, packets_true}
use Rattle.laws_ledger.specs.Ledger.{Injection, injection_of, over_all}
use Rattle.laws_ledger.proofs.SumLaws.{sum-same, sum-none}
use Rattle.laws_ledger.proofs.ShapeLaws.{IsControlDrop, IsOff, IsQuiet, IsDropped, IsTaken, IsEntered, Shape, Quiet, Dropped, Taken, Entered, shape_of}
use Rattle.laws_ledger.proofs.FlightLaws.{shape, Lands, taken-sum, sent-sum, controls-sum, taken_shape}
use Rattle.laws_ledger.proofs.CopyLaws.{IsOnwardSent, IsOnwardLost, onward_is}
use Rattle.laws_ledger.proofs.MadeLaws.{IsHopSent, hop_made_is, Fate, Hops, GoesOn, Ends, fate_of}
use Rattle.laws_ledger.proofs.MeasureLaws.{AreIdsInOrder, IsMeasure, share, share_of, in_item, in_got, in_drop, in_made, item_lost-count, taken-count, inject-count}
use Rattle.laws_ledger.proofs.GroupLaws.{set_order, set-length}
use Rattle.laws_ledger.proofs.WorldLaws.{in_order, is_there, room_at, copy_at, copy_order}

-- ---- what is sent finds its queue

module _ (w : WorldState) (truth : IsTruthful w) (a : ℕ) (c : Control) (there : slice_get w.routers a ≡ Some c) where
  link_lands : (link : ℕ) → link < length c.conf.ends → link < slice_index_or (shape w.flights) a 0
  link_lands link h = let room = room_at w truth a c there in omega (arith, h, room)

  pub hop_lands : (x : DataItem) (ttl : ℕ) → AllByRecursion (Lands (shape w.flights)) (hop_made w.domain.routers a c x ttl).sent
  hop_lands x ttl =
      let g = control_view c in
      let u = node_place g c.conf.system in
      each_weaker (IsHopSent w.domain.routers a c.conf g u x ttl) (Lands (shape w.flights)) (λ s h. subst (Lands (shape w.flights)) (sym h.is) (link_lands h.way.link (got_within c.conf.ends h.way.link h.way.end h.way.there)))
      (hop_made w.domain.routers a c x ttl).sent (hop_made_is w.domain.routers a c.conf g u x ttl).sent

  pub taken_lands : (x : DataItem) → AllByRecursion (Lands (shape w.flights)) (packet_taken w.domain.routers a c x x.outer).sent
  taken_lands x = by (fate_of w.domain.routers a c x)
    where
      onward : (o : Outer) → IsOnwardSent w.domain.routers a c.conf (control_view c) (node_place (control_view c) c.conf.system) x o (sent_onward w.domain.routers a c.conf (control_view c) (node_place (control_view c) c.conf.system) x o)
          ⊎ IsOnwardLost a c.conf (control_view c) (node_place (control_view c) c.conf.system) x o (sent_onward w.domain.routers a c.conf (control_view c) (node_place (control_view c) c.conf.system) x o)
          → AllByRecursion (Lands (shape w.flights)) (sent_onward w.domain.routers a c.conf (control_view c) (node_place (control_view c) c.conf.system) x o).sent
      onward o (inl s) = subst (λ (m : Made). AllByRecursion (Lands (shape w.flights)) m.sent) (sym s.is) (link_lands s.way.link (got_within c.conf.ends s.way.link s.way.end s.way.there), tt)
      onward o (inr l) = subst (λ (m : Made). AllByRecursion (Lands (shape w.flights)) m.sent) (sym l.is) tt

      by : Fate w.domain.routers a c x (packet_taken w.domain.routers a c x x.outer) → AllByRecursion (Lands (shape w.flights)) (packet_taken w.domain.routers a c x x.outer).sent
      by (Hops ends is) = subst (λ (m : Made). AllByRecursion (Lands (shape w.flights)) m.sent) (sym is) (hop_lands x x.ttl)
      by (GoesOn o e on more is) = subst (λ (m : Made). AllByRecursion (Lands (shape w.flights)) m.sent) (sym is) (onward o (onward_is w.domain.routers a c.conf (control_view c) (node_place (control_view c) c.conf.system) x o))
      by (Ends o e on few is) = subst (λ (m : Made). AllByRecursion (Lands (shape w.flights)) m.sent) (sym is) tt

  pub inject_lands : (number sd : ℕ) (bsl : Bsl) (ks : List ℕ) (ttl entropy : ℕ) (payload : List ℕ) → AllByRecursion (Lands (shape w.flights)) (inject_made w.domain.routers a c number sd bsl ks ttl entropy payload).sent
  unfolding inject_made
  inject_lands number sd bsl ks ttl entropy payload =
      let enter : IngressPacket → Made = λ p. hop_made w.domain.routers a c (entering_item c.conf number ttl entropy payload p) (ttl + 1) in
      each_flat (Lands (shape w.flights)) (λ (m : Made). m.sent) (map enter (packets_for sd bsl ks))
      (each_mapped (λ (m : Made). AllByRecursion (Lands (shape w.flights)) m.sent) enter (packets_for sd bsl ks)
      (each_from (λ p. AllByRecursion (Lands (shape w.flights)) (enter p).sent) (λ p. hop_lands (entering_item c.conf number ttl entropy payload p) (ttl + 1)) (packets_for sd bsl ks)))

-- ---- what an injection names

-- the ids of an injection that is allowed, and of each of its packets
pub record AreNamed (sd : ℕ) (bsl : Bsl) (ks : List ℕ) : Type 0 where
  pub whole : AreIdsInOrder (id_set ks)
  pub packets : AllByRecursion (λ (p : IngressPacket). AreIdsInOrder p.ids) (packets_for sd bsl ks)
  pub once : length (id_set ks) ≡ length (distinct ks)

named_of : (r : RouterConf) (sd : ℕ) (bsl : Bsl) (ks : List ℕ) → edge_fault r sd bsl ks ≡ None → AllByRecursion (λ k. k < 2 ^ 16) ks → AreNamed sd bsl ks
named_of r sd bsl ks ok small =
    let allowed = allowed_of r sd bsl ks ok in
    record {
      whole = set_order ks allowed.some small;
      packets = each_weaker (IsEntry sd bsl) (λ p. AreIdsInOrder p.ids) (λ p h. in_order (p.triple.si * bits_of p.triple.bsl) (p.triple.si * bits_of p.triple.bsl + bits_of p.triple.bsl) p.ids h.ids.of_set h.ids.bfr_ids) (packets_for sd bsl ks) (packets_true r sd bsl ks allowed small);
      once = set-length ks allowed.some small;
    }

first_none : (b : Bool) (reason : EventFault) (next : Option EventFault) → first_fault b reason next ≡ None → next ≡ None
first_none true reason next h = cc
first_none false reason next h = h

no_edge : (o : Option EdgeFault) → option_map faults.Edge o ≡ None → o ≡ None
no_edge None h = refl
no_edge (Some f) h = cc

-- an injection that is allowed names ids that its router takes
pub injection_named : (w : WorldState) (e : Event) (i : Injection) (c : Control) → injection_of e ≡ Some i → slice_get w.routers i.router ≡ Some c → EventFits (length w.domain.routers) e → event_fault w e ≡ None → AreNamed i.sd i.bsl i.ids
unfolding event_fault
injection_named w (Inject a sd bsl ks ttl entropy payload) i c is there fits ok =
    let rule = first_none (nat_le most_events w.events) faults.Events (rule_fault w (Inject a sd bsl ks ttl entropy payload)) ok in
    let edge = first_none (nat_le most_in_flight (in_flight w.flights)) faults.InFlight (entry_fault (slice_get w.routers a) sd bsl ks) rule in
    let same = same_Some (record { router = a; sd = sd; bsl = bsl; ids = ks; ttl = ttl; entropy = entropy; payload = payload }) i is in
    let here : slice_get w.routers a ≡ Some c = subst (λ (j : Injection). slice_get w.routers j.router ≡ Some c) (sym same) there in
    let fault : option_map faults.Edge (edge_fault c.conf sd bsl ks) ≡ None = subst (λ (q : Option Control). entry_fault q sd bsl ks ≡ None) here edge in
    subst (λ (j : Injection). AreNamed j.sd j.bsl j.ids) same (named_of c.conf sd bsl ks (no_edge (edge_fault c.conf sd bsl ks) fault) fits.bfr_ids)
injection_named w (Take a b i) j c is there fits ok = cc
injection_named w (Lose a b i) j c is there fits ok = cc
injection_named w (Again a b i) j c is there fits ok = cc
injection_named w (Down a b) j c is there fits ok = cc
injection_named w (Up a b) j c is there fits ok = cc
injection_named w (Send a b) j c is there fits ok = cc
injection_named w (Tick a) j c is there fits ok = cc
injection_named w (Restart a) j c is there fits ok = cc
injection_named w (Relabel a sd bsl label) j c is there fits ok = cc
injection_named w (Leave a sd) j c is there fits ok = cc
injection_named w (Join a sd) j c is there fits ok = cc

pub injection_there : (w : WorldState) → IsTruthful w → (e : Event) (i : Injection) → injection_of e ≡ Some i → EventFits (length w.domain.routers) e → slice_get w.routers i.router ≡ None → ⊥
injection_there w truth (Inject a sd bsl ks ttl entropy payload) i is fits none =
    let same = same_Some (record { router = a; sd = sd; bsl = bsl; ids = ks; ttl = ttl; entropy = entropy; payload = payload }) i is in
    is_there w truth a fits.place (subst (λ (j : Injection). slice_get w.routers j.router ≡ None) (sym same) none)
injection_there w truth (Take a b i) j is fits none = cc
injection_there w truth (Lose a b i) j is fits none = cc
injection_there w truth (Again a b i) j is fits none = cc
injection_there w truth (Down a b) j is fits none = cc
injection_there w truth (Up a b) j is fits none = cc
injection_there w truth (Send a b) j is fits none = cc
injection_there w truth (Tick a) j is fits none = cc
injection_there w truth (Restart a) j is fits none = cc
injection_there w truth (Relabel a sd bsl label) j is fits none = cc
injection_there w truth (Leave a sd) j is fits none = cc
injection_there w truth (Join a sd) j is fits none = cc

-- ---- one event

module _ (t : ℕ → Bool) (size : List ℕ → ℕ) (measure : IsMeasure size) where
  -- of what is on the way after an event, and of what it delivered and dropped
  abbrev pub after_count : Happened → ℕ
  after_count n = over_all (in_item t size) n.world.flights + (sum_by (in_got t size) n.made.got + sum_by (in_drop t size) n.made.drops)

  -- of what an event names
  abbrev pub named_count : ℕ → Option Injection → ℕ
  named_count made None = 0
  named_count made (Some i) = share t size (made + 1) (id_set i.ids)

  made-count : (v : WorldState) (m : Made) → AllByRecursion (Lands (shape v.flights)) m.sent → after_count (counted (makes v m)) ≡ over_all (in_item t size) v.flights + in_made t size m
  made-count v m lands = omega (arith, sent-sum (in_item t size) (λ p. refl) m.sent v.flights lands)

  control-drops : (drops : List DropLine) → AllByRecursion IsControlDrop drops → sum_by (in_drop t size) drops ≡ 0
  control-drops drops all = sum-same (in_drop t size) (λ d. 0) drops (each_weaker IsControlDrop (λ d. in_drop t size d ≡ 0) (λ d h. ap (λ (o : Option ℕ). share_of t size o d.ids) h.0) drops all) ∙ sum-none (λ d. 0) drops (λ d. refl)

  module _ (w : WorldState) where
    off-count : (before : List (List (List Item))) → (before ≡ w.flights) ⊎ IsOff w.flights before → over_all (in_item t size) before ≡ over_all (in_item t size) w.flights
    off-count before (inl same) = ap (over_all (in_item t size)) same
    off-count before (inr off) = ap (over_all (in_item t size)) off.is ∙ omega (arith, taken-sum (in_item t size) w.flights off.from off.link off.i (ControlItem off.pdu) off.at)

    quiet-count : (n : Happened) → IsQuiet w n → after_count n ≡ over_all (in_item t size) w.flights
    quiet-count n q =
        let moved = ap (over_all (in_item t size)) q.flights ∙ controls-sum (in_item t size) (λ p. refl) q.pushed q.before q.controls ∙ off-count q.before q.off in
        let got = ap (sum_by (in_got t size)) q.got in
        omega (arith, moved, got, control-drops n.made.drops q.drops)

    module _ (truth : IsTruthful w) (e : Event) (n : Happened) where
      dropped-count : IsDropped w e n → after_count n ≡ over_all (in_item t size) w.flights
      dropped-count d =
          let order = copy_order (confs_now w) w.injections d.to d.item (copy_at w truth d.from d.to d.link d.i d.item d.joined d.at) in
          ap after_count d.is
          ∙ made-count (taken_off w d.from d.link d.i) (item_lost d.to d.why (PacketItem d.item)) tt
          ∙ omega (arith, item_lost-count t size d.to d.why d.item order, taken-sum (in_item t size) w.flights d.from d.link d.i (PacketItem d.item) d.at)

      taken-counted : IsTaken w e n → after_count n ≡ over_all (in_item t size) w.flights
      taken-counted k =
          let order = copy_order (confs_now w) w.injections k.to k.item (copy_at w truth k.from k.to k.link k.i k.item k.joined k.at) in
          let made = packet_taken w.domain.routers k.to k.router k.item k.item.outer in
          let lands = subst (λ (counts : List ℕ). AllByRecursion (Lands counts) made.sent) (sym (taken_shape w.flights k.from k.link k.i)) (taken_lands w truth k.to k.router k.there k.item) in
          ap after_count k.is
          ∙ made-count (taken_off w k.from k.link k.i) made lands
          ∙ omega (arith, taken-count t size measure w.domain.routers k.to k.router k.item order k.item.outer, taken-sum (in_item t size) w.flights k.from k.link k.i (PacketItem k.item) k.at)

      entered-counted : (k : IsEntered w e n) → AreNamed k.injection.sd k.injection.bsl k.injection.ids → after_count n ≡ over_all (in_item t size) w.flights + named_count w.injections (injection_of e)
      entered-counted k named =
          let i = k.injection in
          let v : WorldState = record w { injections = w.injections + 1 } in
          let made = inject_made w.domain.routers i.router k.router (w.injections + 1) i.sd i.bsl i.ids i.ttl i.entropy i.payload in
          ap after_count k.is
          ∙ made-count v made (inject_lands w truth i.router k.router k.there (w.injections + 1) i.sd i.bsl i.ids i.ttl i.entropy i.payload)
          ∙ omega (arith, inject-count t size measure w.domain.routers i.router k.router (w.injections + 1) i.sd i.bsl i.ids i.ttl i.entropy i.payload named.whole named.packets, ap (named_count w.injections) k.event)

  pub event-count : (w : WorldState) (e : Event) → IsTruthful w → EventFits (length w.domain.routers) e → event_fault w e ≡ None → after_count (happens w e) ≡ over_all (in_item t size) w.flights + named_count w.injections (injection_of e)
  event-count w e truth fits ok = by (shape_of w e)
    where
      none : (m : ℕ) → m ≡ over_all (in_item t size) w.flights → injection_of e ≡ None → m ≡ over_all (in_item t size) w.flights + named_count w.injections (injection_of e)
      none m h is = omega (arith, h, ap (named_count w.injections) is)

      by : Shape w e (happens w e) → after_count (happens w e) ≡ over_all (in_item t size) w.flights + named_count w.injections (injection_of e)
      by (Quiet q (inl is)) = none (after_count (happens w e)) (quiet-count w (happens w e) q) is
      by (Quiet q (inr nowhere)) = absurd (injection_there w truth e nowhere.0 nowhere.1 fits nowhere.2)
      by (Dropped d is) = none (after_count (happens w e)) (dropped-count w truth e (happens w e) d) is
      by (Taken k is) = none (after_count (happens w e)) (taken-counted w truth e (happens w e) k) is
      by (Entered k) = entered-counted w truth e (happens w e) k (injection_named w e k.injection k.router k.event k.there fits ok)
