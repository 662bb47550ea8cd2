-- What holds of all copies of an injection holds of the copies that are made of them, and each delivery is made of a copy at
-- a router that owns the id.
use Rattle.std.proofs.Common.{◌≡◌, ◌⊎◌, inl, inr, ℕ, ◌+◌, ◌-◌, ◌==◌, true, filter, List, map, slice_get, Some, refl, sym, ap, ◌∙◌, subst}
use Rattle.std.specs.List.{AllByRecursion}
use Rattle.std.proofs.lemmas.Bool.{and_parts, eqb-true}
use Rattle.wire_base.specs.declared.conf.RouterConf.{RouterConf}
use Rattle.wire_base.specs.model.Control.{Control}
use Rattle.wire_base.specs.model.Hop.{has}
use Rattle.wire_base.specs.model.Ingress.{IngressPacket, id_set, packet_for, packets_for, sets_of}
use Rattle.wire_base.specs.model.Item.{Item, ControlItem, PacketItem, DataItem, Outer}
use Rattle.wire_base.specs.model.OnFrame.{node_place, choice_of}
use Rattle.wire_base.specs.model.Place.{bits_of, set_identifier, own_id}
use Rattle.wire_base.specs.model.View.{control_view}
use Rattle.replay_text.specs.declared.event.Event.{Event}
use Rattle.domain_model.specs.declared.lines.GotLine.{GotLine}
use Rattle.domain_model.specs.declared.lines.DropLine.{DropLine}
use Rattle.domain_model.specs.World.{WorldState, queue_at, without_item}
use Rattle.domain_model.specs.Moves.{Sending, Made, packet_of, entering_item, item_lost, hop_made, sent_onward, packet_taken, inject_made}
use Rattle.domain_model.specs.Step.{Happened, makes, taken_off, counted, push_sending, push_all, happens}
use Rattle.domain_model.specs.Truth.{IsTruthful}
use Rattle.domain_model.proofs.EachLaws.{each_from, each_weaker, each_mapped, each_flat, each_got, fold_keeps}
use Rattle.domain_model.proofs.QueueLaws.{AllQueues, item_pushed, item_gone}
use Rattle.laws_route.proofs.HopLemmas.{has-filter}
use Rattle.laws_ledger.specs.Ledger.{Injection, injection_of, triple_for, IsCopyOf}
use Rattle.laws_ledger.proofs.ShapeLaws.{IsControlItem, IsControlSending, IsControlDrop, IsOff, IsQuiet, Shape, Quiet, Dropped, Taken, Entered, shape_of}
use Rattle.laws_ledger.proofs.OutcomeLaws.{group_named}
use Rattle.laws_ledger.proofs.CopyLaws.{IsOnwardSent, IsOnwardLost, onward_is}
use Rattle.laws_ledger.proofs.MadeLaws.{IsHopSent, IsHopGot, IsHopDrop, hop_made_is, Fate, Hops, GoesOn, Ends, fate_of}
use Rattle.laws_ledger.proofs.WorldLaws.{IsOwnerAt, owner_at}

-- what all copies of a packet share
pub record IsSameSource (x y : DataItem) : Type 0 where
  pub number : y.number ≡ x.number
  pub entropy : y.entropy ≡ x.entropy
  pub payload : y.payload ≡ x.payload
  pub triple : y.triple ≡ x.triple
  pub part : (k : ℕ) → has y.ids k ≡ true → has x.ids k ≡ true

abbrev pub IfPacket : (DataItem → Type 0) → Item → Type 0
IfPacket Q (ControlItem p) = Unit {0}
IfPacket Q (PacketItem x) = Q x

abbrev pub AllCopies : (DataItem → Type 0) → List (List (List Item)) → Type 0
AllCopies Q flights = AllQueues (λ a link. IfPacket Q) flights

-- a delivery is made of a copy, at a router whose own id in the copy's sub-domain is the one delivered
pub record IsGotFrom (confs : List RouterConf) (Q : DataItem → Type 0) (g : GotLine) : Type 0 where
  pub item : DataItem
  pub holds : Q item
  pub router : RouterConf
  pub there : slice_get confs g.router ≡ Some router
  pub own : own_id router item.triple.sd ≡ Some g.id
  pub number : g.injection ≡ item.number
  pub payload : g.payload ≡ item.payload

-- a drop is of a copy, or of what carries no packet
abbrev pub IsDropFrom : (DataItem → Type 0) → DropLine → Type 0
IsDropFrom Q d = IsControlDrop d ⊎ ((x : DataItem) × Q x × (d.injection ≡ Some x.number))

module _ (Q : DataItem → Type 0) (kept : (x y : DataItem) → IsSameSource x y → Q x → Q y) where
  -- what is made of copies for which Q holds
  pub record IsMadeFrom (confs : List RouterConf) (m : Made) : Type 0 where
    pub sent : AllByRecursion (λ s. IfPacket Q s.item) m.sent
    pub got : AllByRecursion (IsGotFrom confs Q) m.got
    pub drops : AllByRecursion (IsDropFrom Q) m.drops

  hop_from : (confs : List RouterConf) (a : ℕ) (c : Control) (x : DataItem) (ttl : ℕ) → IsOwnerAt confs a c.conf → Q x → IsMadeFrom confs (hop_made confs a c x ttl)
  hop_from confs a c x ttl owner h =
      let g = control_view c in
      let u = node_place g c.conf.system in
      let made = hop_made_is confs a c.conf g u x ttl in
      record {
        sent = each_weaker (IsHopSent confs a c.conf g u x ttl) (λ s. IfPacket Q s.item) (λ s k. subst (λ (z : Sending). IfPacket Q z.item) (sym k.is) (copied k)) (hop_made confs a c x ttl).sent made.sent;
        got = each_weaker (IsHopGot confs a c.conf g u x ttl) (IsGotFrom confs Q) (λ l k. subst (IsGotFrom confs Q) (sym k.is) (record { item = x; holds = h; router = owner.router; there = owner.there; own = owner.own x.triple.sd k.id k.owns; number = refl; payload = refl })) (hop_made confs a c x ttl).got made.got;
        drops = each_weaker (IsHopDrop confs a c.conf g u x ttl) (IsDropFrom Q) (λ d k. inr (x, h, ap (λ (z : DropLine). z.injection) k.is)) (hop_made confs a c x ttl).drops made.drops;
      }
    where
      copied : {s : Sending} → (k : IsHopSent confs a c.conf (control_view c) (node_place (control_view c) c.conf.system) x ttl s) → Q (record x { bift = k.way.bift; ids = k.ids; ttl = k.left; outer = k.way.outer })
      copied k = kept x (record x { bift = k.way.bift; ids = k.ids; ttl = k.left; outer = k.way.outer }) (record { number = refl; entropy = refl; payload = refl; triple = refl; part = λ j named. (group_named (own_id c.conf x.triple.sd) (choice_of c.conf (control_view c) (node_place (control_view c) c.conf.system) (packet_of x)) x.ids ttl k.node k.ids k.left j k.group named).0 }) h

  pub taken_from : (confs : List RouterConf) (a : ℕ) (c : Control) (x : DataItem) → IsOwnerAt confs a c.conf → Q x → IsMadeFrom confs (packet_taken confs a c x x.outer)
  taken_from confs a c x at h = by (fate_of confs a c x)
    where
      onward : (o : Outer) (m : Made) → IsOnwardSent confs a c.conf (control_view c) (node_place (control_view c) c.conf.system) x o m ⊎ IsOnwardLost a c.conf (control_view c) (node_place (control_view c) c.conf.system) x o m → IsMadeFrom confs m
      onward o m (inl s) =
          subst (IsMadeFrom confs) (sym s.is)
          (record { sent = (kept x (record x { outer = Some (record o { ttl = o.ttl - 1 }) }) (record { number = refl; entropy = refl; payload = refl; triple = refl; part = λ j named. named }) h, tt); got = tt; drops = tt })
      onward o m (inr l) = subst (IsMadeFrom confs) (sym l.is) (record { sent = tt; got = tt; drops = (inr (x, h, refl), tt) })

      by : Fate confs a c x (packet_taken confs a c x x.outer) → IsMadeFrom confs (packet_taken confs a c x x.outer)
      by (Hops ends is) = subst (IsMadeFrom confs) (sym is) (hop_from confs a c x x.ttl at h)
      by (GoesOn o e on more is) = subst (IsMadeFrom confs) (sym is) (onward o (sent_onward confs a c.conf (control_view c) (node_place (control_view c) c.conf.system) x o) (onward_is confs a c.conf (control_view c) (node_place (control_view c) c.conf.system) x o))
      by (Ends o e on few is) = subst (IsMadeFrom confs) (sym is) (record { sent = tt; got = tt; drops = (inr (x, h, refl), tt) })

  pub inject_from : (confs : List RouterConf) (a : ℕ) (c : Control) (number : ℕ) (i : Injection) → IsOwnerAt confs a c.conf → ((x : DataItem) → x.number ≡ number → IsCopyOf i x → Q x) → IsMadeFrom confs (inject_made confs a c number i.sd i.bsl i.ids i.ttl i.entropy i.payload)
  unfolding inject_made packets_for
  inject_from confs a c number i at first =
      let item : IngressPacket → DataItem = λ p. entering_item c.conf number i.ttl i.entropy i.payload p in
      let enter : IngressPacket → Made = λ p. hop_made confs a c (item p) (i.ttl + 1) in
      let packet : ℕ → IngressPacket = packet_for i.sd i.bsl i.ids in
      let sets = sets_of i.bsl i.ids in
      let each : AllByRecursion (IsMadeFrom confs) (map enter (map packet sets)) =
      each_mapped (IsMadeFrom confs) enter (map packet sets)
      (each_mapped (λ p. IsMadeFrom confs (enter p)) packet sets
      (each_from (λ si. IsMadeFrom confs (enter (packet si))) (λ si. hop_from confs a c (item (packet si)) (i.ttl + 1) at (first (item (packet si)) refl (record { sd = refl; triple = of_set si; payload = refl; entropy = refl }))) sets)) in
      record {
        sent = each_flat (λ (s : Sending). IfPacket Q s.item) (λ (m : Made). m.sent) (map enter (map packet sets)) (each_weaker (IsMadeFrom confs) (λ m. AllByRecursion (λ (s : Sending). IfPacket Q s.item) m.sent) (λ m h. h.sent) (map enter (map packet sets)) each);
        got = each_flat (IsGotFrom confs Q) (λ (m : Made). m.got) (map enter (map packet sets)) (each_weaker (IsMadeFrom confs) (λ m. AllByRecursion (IsGotFrom confs Q) m.got) (λ m h. h.got) (map enter (map packet sets)) each);
        drops = each_flat (IsDropFrom Q) (λ (m : Made). m.drops) (map enter (map packet sets)) (each_weaker (IsMadeFrom confs) (λ m. AllByRecursion (IsDropFrom Q) m.drops) (λ m h. h.drops) (map enter (map packet sets)) each);
      }
    where
      of_set : (si k : ℕ) → has (filter (λ j. set_identifier (bits_of i.bsl) j == si) (id_set i.ids)) k ≡ true → (packet_for i.sd i.bsl i.ids si).triple ≡ triple_for i k
      of_set si k h =
          let p = and_parts (has (id_set i.ids) k) (set_identifier (bits_of i.bsl) k == si) (sym (has-filter (λ j. set_identifier (bits_of i.bsl) j == si) (id_set i.ids) k) ∙ h) in
          ap (λ (m : ℕ). record { sd = i.sd; bsl = i.bsl; si = m }) (sym (eqb-true (set_identifier (bits_of i.bsl) k) si p.1))

  -- ---- what is on the way

  pushed_copies : (sendings : List Sending) (flights : List (List (List Item))) → AllByRecursion (λ (s : Sending). IfPacket Q s.item) sendings → AllCopies Q flights → AllCopies Q (push_all flights sendings)
  pushed_copies sendings flights all items =
      fold_keeps (AllCopies Q) (λ (s : Sending). IfPacket Q s.item) push_sending (λ f s h k. item_pushed (λ a link. IfPacket Q) f s.from s.link s.item h k) sendings flights all items

  gone_copies : (flights : List (List (List Item))) (a link i : ℕ) → AllCopies Q flights → AllCopies Q (without_item flights a link i)
  gone_copies flights a link i items = item_gone (λ a link. IfPacket Q) flights a link i items

  control_is : (s : Sending) → IsControlSending s → IfPacket Q s.item
  control_is s h = by s.item refl h
    where
      by : (x : Item) → s.item ≡ x → IsControlItem x → IfPacket Q s.item
      by (ControlItem p) e h = subst (IfPacket Q) (sym e) tt
      by (PacketItem x) e h = absurd h

  pub record IsAfterFrom (confs : List RouterConf) (n : Happened) : Type 0 where
    pub copies : AllCopies Q n.world.flights
    pub got : AllByRecursion (IsGotFrom confs Q) n.made.got
    pub drops : AllByRecursion (IsDropFrom Q) n.made.drops

  quiet_from : (w : WorldState) (n : Happened) → AllCopies Q w.flights → IsQuiet w n → IsAfterFrom w.domain.routers n
  quiet_from w n all q = record {
    copies = subst (AllCopies Q) (sym q.flights) (pushed_copies q.pushed q.before (each_weaker IsControlSending (λ s. IfPacket Q s.item) control_is q.pushed q.controls) (before q.before q.off));
    got = subst (AllByRecursion (IsGotFrom w.domain.routers Q)) (sym q.got) tt;
    drops = each_weaker IsControlDrop (IsDropFrom Q) (λ d h. inl h) n.made.drops q.drops;
  }
    where
      before : (flights : List (List (List Item))) → (flights ≡ w.flights) ⊎ IsOff w.flights flights → AllCopies Q flights
      before flights (inl same) = subst (AllCopies Q) (sym same) all
      before flights (inr off) = subst (AllCopies Q) (sym off.is) (gone_copies w.flights off.from off.link off.i all)

  made_from : (confs : List RouterConf) (v : WorldState) (m : Made) → AllCopies Q v.flights → IsMadeFrom confs m → IsAfterFrom confs (counted (makes v m))
  made_from confs v m all from = record { copies = pushed_copies m.sent v.flights from.sent all; got = from.got; drops = from.drops }

  pub event_from : (w : WorldState) (e : Event) → IsTruthful w → AllCopies Q w.flights → ((i : Injection) → injection_of e ≡ Some i → (x : DataItem) → x.number ≡ w.injections + 1 → IsCopyOf i x → Q x) → IsAfterFrom w.domain.routers (happens w e)
  event_from w e truth all first = by (shape_of w e)
    where
      by : Shape w e (happens w e) → IsAfterFrom w.domain.routers (happens w e)
      by (Quiet q none) = quiet_from w (happens w e) all q
      by (Dropped d none) = subst (IsAfterFrom w.domain.routers) (sym d.is) (made_from w.domain.routers (taken_off w d.from d.link d.i) (item_lost d.to d.why (PacketItem d.item)) (gone_copies w.flights d.from d.link d.i all) (record { sent = tt; got = tt; drops = (inr (d.item, each_got (IfPacket Q) (queue_at w.flights d.from d.link) d.i (PacketItem d.item) (all d.from d.link) d.at, refl), tt) }))
      by (Taken k none) =
          subst (IsAfterFrom w.domain.routers) (sym k.is)
          (made_from w.domain.routers (taken_off w k.from k.link k.i) (packet_taken w.domain.routers k.to k.router k.item k.item.outer) (gone_copies w.flights k.from k.link k.i all)
          (taken_from w.domain.routers k.to k.router k.item (owner_at w truth k.to k.router k.there) (each_got (IfPacket Q) (queue_at w.flights k.from k.link) k.i (PacketItem k.item) (all k.from k.link) k.at)))
      by (Entered k) =
          let i = k.injection in
          subst (IsAfterFrom w.domain.routers) (sym k.is)
          (made_from w.domain.routers (record w { injections = w.injections + 1 }) (inject_made w.domain.routers i.router k.router (w.injections + 1) i.sd i.bsl i.ids i.ttl i.entropy i.payload) all
          (inject_from w.domain.routers i.router k.router (w.injections + 1) i (owner_at w truth i.router k.router k.there) (first i k.event)))
