-- The injection puts the copies for a BFR-id that it names on their course, and drops none.
use Rattle.std.proofs.Common.{◌≡◌, ◌⊎◌, inl, inr, ℕ, ◌+◌, ◌<◌, ◌==◌, ◌&&◌, ◌%◌, not, Bool, true, false, if◌then◌else◌, List, length, map, filter, slice_get, is_some, Option, Some, None, refl, sym, ap, subst, ◌∙◌, arith}
use mathlib.Core.Bool.{false≢true, true≢false}
use Rattle.std.specs.List.{AllByRecursion}
use Rattle.std.proofs.lemmas.Bool.{and_parts, eqb-true, eq-eqb}
use Rattle.std.proofs.lemmas.Option.{same_Some}
use Rattle.wire_base.specs.declared.conf.RouterConf.{RouterConf}
use Rattle.wire_base.specs.declared.triple.Triple.{Triple}
use Rattle.wire_base.specs.declared.view.ViewNode.{ViewNode}
use Rattle.wire_base.specs.model.Control.{Control}
use Rattle.wire_base.specs.model.Graph.{covers_at}
use Rattle.wire_base.specs.model.Hop.{has, is_this}
use Rattle.wire_base.specs.model.HopCount.{FitTunnels, CoversPath}
use Rattle.wire_base.specs.model.Ingress.{IngressPacket, id_set, sets_of, packet_for, packets_for}
use Rattle.wire_base.specs.model.Item.{Item, ControlItem, PacketItem, DataItem}
use Rattle.wire_base.specs.model.OnFrame.{node_place}
use Rattle.wire_base.specs.model.Place.{bits_of, set_identifier, own_id}
use Rattle.wire_base.specs.model.View.{control_view}
use Rattle.replay_text.specs.declared.event.Event.{Event}
use Rattle.domain_model.specs.declared.lines.DropLine.{DropLine}
use Rattle.domain_model.specs.World.{WorldState, peer_place, queue_at}
use Rattle.domain_model.specs.Moves.{Sending, Made, joined_made, entering_item, hop_made, inject_made}
use Rattle.domain_model.specs.Step.{Happened, makes, counted, happens}
use Rattle.domain_model.specs.Truth.{IsTrueItem, IsTruthful, confs_now, domain_now, EventFits}
use Rattle.domain_model.proofs.EachLaws.{each_from, each_weaker, each_mapped, each_flat}
use Rattle.domain_model.proofs.QueueLaws.{AllQueues}
use Rattle.laws_route.proofs.HopLemmas.{has-filter}
use Rattle.laws_route.proofs.HopCountLemmas.{chosen}
use Rattle.laws_route.proofs.ChoiceLemmas.{choice-descends}
use Rattle.laws_route.proofs.DescentLemmas.{dist-end}
use Rattle.laws_ledger.specs.Ledger.{Injection, injection_of, entered, triple_for}
use Rattle.laws_ledger.proofs.ShapeLaws.{IsEntered, Shape, Quiet, Dropped, Taken, Entered, shape_of}
use Rattle.laws_ledger.proofs.OutcomeLaws.{others, IsEnded, group_named}
use Rattle.laws_ledger.proofs.MadeLaws.{picks, own, IsHopSent, IsHopDrop, IsGroupLost, hop_made_is}
use Rattle.laws_ledger.proofs.WorldLaws.{now_at}
use Rattle.laws_ledger.proofs.CountLaws.{injection_there}
use Rattle.laws_course.specs.Course.{next_for, IsOnCourse, IsReachable, IsCovered}
use Rattle.laws_course.proofs.HopLaws.{IsThere, copy_course, hop_safe}
use Rattle.laws_course.proofs.ChangedLaws.{Keeps}
use Rattle.laws_course.proofs.StepLaws.{drop_named, listed_has, IsOther, drop_parts, facts, r_among, course_back}
use Rattle.laws_course.proofs.KeptLaws.{IsKeptBy, made_kept}

-- a drop of a hop has no id of the router's own, but where no TTL came
drop_apart : (confs : List RouterConf) (a : ℕ) (q : RouterConf) (g : List ViewNode) (u : ℕ) (x : DataItem) (ttl k : ℕ) (l : DropLine) → IsHopDrop confs a q g u x ttl l → has l.ids k ≡ true → (ttl ≡ 0) ⊎ (is_this (own confs a q g u x ttl) k ≡ false)
drop_apart confs a q g u x ttl k l h named = by h.reason (listed_has h.ids k (ap (λ (z : DropLine). has z.ids k) (sym h.is) ∙ named))
  where
    turned : (b : Bool) → not b ≡ true → b ≡ false
    turned true h = absurd (false≢true h)
    turned false h = refl

    apart : (ids : List ℕ) (own : Option ℕ) (test : ℕ → Bool) → has (filter test (others own ids)) k ≡ true → is_this own k ≡ false
    apart ids own test t =
        let p = and_parts (has (others own ids) k) (test k) (sym (has-filter test (others own ids) k) ∙ t) in
        turned (is_this own k) (and_parts (has ids k) (not (is_this own k)) (sym (has-filter (λ j. not (is_this own j)) ids k) ∙ p.0)).1

    by : IsEnded (own confs a q g u x ttl) (picks confs a q g u x ttl) x.ids ttl h.ids ⊎ ((h.ids ≡ filter (λ j. not (is_some (picks confs a q g u x ttl j)) && not (is_this (own confs a q g u x ttl) j)) x.ids) ⊎ IsGroupLost confs a q g u x ttl h.ids) → has h.ids k ≡ true
        → (ttl ≡ 0) ⊎ (is_this (own confs a q g u x ttl) k ≡ false)
    by (inl (inl e)) t = inl e.0
    by (inl (inr e)) t = inr (apart x.ids (own confs a q g u x ttl) (λ j. is_some (picks confs a q g u x ttl j)) (ap (λ (l : List ℕ). has l k) (sym e.1) ∙ t))
    by (inr (inl e)) t =
        let p = and_parts (has x.ids k) (not (is_some (picks confs a q g u x ttl k)) && not (is_this (own confs a q g u x ttl) k)) (sym (has-filter (λ j. not (is_some (picks confs a q g u x ttl j)) && not (is_this (own confs a q g u x ttl) j)) x.ids k) ∙ ap (λ (l : List ℕ). has l k) (sym e) ∙ t) in
        inr (turned (is_this (own confs a q g u x ttl) k) (and_parts (not (is_some (picks confs a q g u x ttl k))) (not (is_this (own confs a q g u x ttl) k)) p.1).1)
    by (inr (inr e)) t = inr (group_named (own confs a q g u x ttl) (picks confs a q g u x ttl) x.ids ttl e.node h.ids e.left k e.group t).1

module _ (w : WorldState) (truth : IsTruthful w) (s : ℕ) (ingress : Control) (at : slice_get w.routers s ≡ Some ingress) (n k : ℕ) (i : Injection) where
  abbrev confs : List RouterConf
  confs = w.domain.routers

  abbrev g : List ViewNode
  g = control_view ingress

  abbrev u : ℕ
  u = node_place (control_view ingress) ingress.conf.system

  abbrev r : RouterConf
  r = ingress.conf

  abbrev Here : ℕ → ℕ → Item → Type 0
  Here a link item = Keeps confs r g u n k a link item

  -- what a part of the injection makes
  record IsGood (m : Made) : Type 0 where
    sent : AllByRecursion (λ (z : Sending). Here z.from z.link z.item) m.sent
    drops : AllByRecursion (IsOther n k) m.drops

  module _ (number : ℕ) (p : IngressPacket) (subdomain : p.triple.sd ≡ i.sd) (of_set : has p.ids k ≡ true → p.triple ≡ triple_for i k) where
    abbrev x : DataItem
    x = entering_item r number i.ttl i.entropy i.payload p

    -- a hop in which a copy for the id is on its course, and which has no drop of it
    good_hop : ((z : Sending) (h : IsHopSent confs s r g u x (i.ttl + 1) z) → has h.ids k ≡ true → IsOnCourse confs r g u k s (peer_place confs s h.way.link) (record x { bift = h.way.bift; ids = h.ids; ttl = h.left; outer = h.way.outer }))
        → ((l : DropLine) → IsHopDrop confs s r g u x (i.ttl + 1) l → has l.ids k ≡ true → ⊥) → IsGood (hop_made confs s ingress x (i.ttl + 1))
    good_hop sent safe = record {
      sent = each_weaker (IsHopSent confs s r g u x (i.ttl + 1)) (λ (z : Sending). Here z.from z.link z.item) (λ z h. subst (λ (y : Sending). Here y.from y.link y.item) (sym h.is) (λ of_n named. sent z h named)) (hop_made confs s ingress x (i.ttl + 1)).sent (hop_made_is confs s r g u x (i.ttl + 1)).sent;
      drops = each_weaker (IsHopDrop confs s r g u x (i.ttl + 1)) (IsOther n k) (λ l h dropped. (let q = drop_parts n k x.number l (ap (λ (z : DropLine). z.injection) h.is) dropped in safe l h q.1)) (hop_made confs s ingress x (i.ttl + 1)).drops (hop_made_is confs s r g u x (i.ttl + 1)).drops;
    }

    own_good : own_id r i.sd ≡ Some k → IsGood (hop_made confs s ingress x (i.ttl + 1))
    own_good mine =
        good_hop (λ z h named. absurd (true≢false (sym here ∙ (group_named (own confs s r g u x (i.ttl + 1)) (picks confs s r g u x (i.ttl + 1)) x.ids (i.ttl + 1) h.node h.ids h.left k h.group named).1)))
        (λ l h named. by (drop_apart confs s r g u x (i.ttl + 1) k l h named))
      where
        here : is_this (own_id r x.triple.sd) k ≡ true
        here = ap (λ (sd : ℕ). is_this (own_id r sd) k) subdomain ∙ ap (λ (o : Option ℕ). is_this o k) mine ∙ eq-eqb k k refl

        by : (i.ttl + 1 ≡ 0) ⊎ (is_this (own_id r x.triple.sd) k ≡ false) → ⊥
        by (inl e) = omega (arith, e)
        by (inr e) = true≢false (sym here ∙ e)

    -- what is known of the packet at the ingress
    there : IsCovered r g u i k → (y : ℕ) → next_for r g (triple_for i k) i.entropy k u ≡ Some y → p.triple ≡ triple_for i k → IsThere (domain_now w) truth.now g (facts w truth s ingress at).graph (facts w truth s ingress at).nodes r (r_among w truth s ingress at) u k (facts w truth s ingress at).own x u (i.ttl + 1)
    there c y goes same =
        let known = facts w truth s ingress at in
        let goes_x : next_for r g p.triple i.entropy k u ≡ Some y = subst (λ (t : Triple). next_for r g t i.entropy k u ≡ Some y) (sym same) goes in
        let covers : CoversPath g r.kinds r.table p.triple u (i.entropy % 16) k i.ttl = subst (λ (t : Triple). CoversPath g r.kinds r.table t u (i.entropy % 16) k i.ttl) (sym same) c.covers in
        let o = chosen g r.kinds r.table p.triple (i.entropy % 16) k u y goes_x in
        let near = choice-descends g known.graph (covers_at r.kinds r.table p.triple g) o.0 (i.entropy % 16) u y known.own o.2 in
        record {
          last = o.0;
          owns = o.1;
          inside = known.own;
          before = 0;
          reached = dist-end g u;
          rest = near.0.far;
          distance = near.0.from;
          free = λ other. inl refl;
          path = inl refl;
          left = covers.count;
          hops_left = covers.is;
          lasts = (let enough = covers.enough in omega (arith, enough));
        }

    far_good : IsCovered r g u i k → (y : ℕ) → next_for r g (triple_for i k) i.entropy k u ≡ Some y → IsGood (hop_made confs s ingress x (i.ttl + 1))
    far_good c y goes = by (has p.ids k) refl
      where
        by : (b : Bool) → has p.ids k ≡ b → IsGood (hop_made confs s ingress x (i.ttl + 1))
        by true e =
            let known = facts w truth s ingress at in
            let same = of_set e in
            let t = there c y goes same in
            let fit : FitTunnels g (next_for r g p.triple i.entropy k) u = subst (λ (z : Triple). FitTunnels g (next_for r g z i.entropy k) u) (sym same) c.covers.tunnels in
            good_hop (λ z h named. course_back w truth s ingress at k s h.way.link (record x { bift = h.way.bift; ids = h.ids; ttl = h.left; outer = h.way.outer })
            (copy_course (domain_now w) truth.now g known.graph known.nodes r (r_among w truth s ingress at) u k known.own x u (i.ttl + 1) t confs s r (now_at w truth s ingress at) refl z h named fit))
            (λ l h named. hop_safe (domain_now w) truth.now g known.graph known.nodes r (r_among w truth s ingress at) u k known.own x u (i.ttl + 1) t confs s r (now_at w truth s ingress at) refl known.now known.leads l h named)
        by false e =
            good_hop (λ z h named. absurd (true≢false (sym (group_named (own confs s r g u x (i.ttl + 1)) (picks confs s r g u x (i.ttl + 1)) x.ids (i.ttl + 1) h.node h.ids h.left k h.group named).0 ∙ e)))
            (λ l h named. true≢false (sym (drop_named confs s r g u x (i.ttl + 1) k l h named) ∙ e))

    packet_good : IsCovered r g u i k → IsGood (hop_made confs s ingress x (i.ttl + 1))
    packet_good c = by c.reachable
      where
        by : IsReachable r g u i k → IsGood (hop_made confs s ingress x (i.ttl + 1))
        by (inl mine) = own_good mine
        by (inr goes) = far_good c goes.0 goes.1

  joined_good : (ms : List Made) → AllByRecursion IsGood ms → IsGood (joined_made ms)
  joined_good ms all = record {
    sent = each_flat (λ (z : Sending). Here z.from z.link z.item) (λ (m : Made). m.sent) ms (each_weaker IsGood (λ m. AllByRecursion (λ (z : Sending). Here z.from z.link z.item) m.sent) (λ m h. h.sent) ms all);
    drops = each_flat (IsOther n k) (λ (m : Made). m.drops) ms (each_weaker IsGood (λ m. AllByRecursion (IsOther n k) m.drops) (λ m h. h.drops) ms all);
  }

  inject_good : (number : ℕ) → IsCovered r g u i k → IsGood (inject_made confs s ingress number i.sd i.bsl i.ids i.ttl i.entropy i.payload)
  unfolding inject_made packets_for
  inject_good number c =
      let enter : IngressPacket → Made = λ p. hop_made confs s ingress (entering_item r number i.ttl i.entropy i.payload p) (i.ttl + 1) in
      let packet : ℕ → IngressPacket = packet_for i.sd i.bsl i.ids in
      let sets = sets_of i.bsl i.ids in
      joined_good (map enter (map packet sets))
      (each_mapped IsGood enter (map packet sets)
      (each_mapped (λ p. IsGood (enter p)) packet sets
      (each_from (λ si. IsGood (enter (packet si))) (λ si. packet_good number (packet si) refl (of_set si) c) sets)))
    where
      of_set : (si : ℕ) → has (filter (λ j. set_identifier (bits_of i.bsl) j == si) (id_set i.ids)) k ≡ true → (packet_for i.sd i.bsl i.ids si).triple ≡ triple_for i k
      of_set si h =
          let p = and_parts (has (id_set i.ids) k) (set_identifier (bits_of i.bsl) k == si) (sym (has-filter (λ j. set_identifier (bits_of i.bsl) j == si) (id_set i.ids) k) ∙ h) in
          ap (λ (m : ℕ). record { sd = i.sd; bsl = i.bsl; si = m }) (sym (eqb-true (set_identifier (bits_of i.bsl) k) si p.1))

  -- no copy has the number yet
  none_yet : w.injections < n → AllQueues Here w.flights
  none_yet later a link = each_weaker (IsTrueItem (confs_now w) w.injections (peer_place confs a link)) (Here a link) one (queue_at w.flights a link) (truth.items a link)
    where
      one : (y : Item) → IsTrueItem (confs_now w) w.injections (peer_place confs a link) y → Here a link y
      one (ControlItem p) h = tt
      one (PacketItem y) h = λ number named. (let made = h.made in absurd (omega (arith, number, made, later)))

  entered_kept : (e : Event) (h : Happened) (t : IsEntered w e h) → t.injection ≡ i → i.router ≡ s → w.injections < n → IsCovered r g u i k → IsKeptBy confs r g u n k h
  entered_kept e h t same place later c =
      let number = w.injections + 1 in
      let made : Made = inject_made confs s ingress number i.sd i.bsl i.ids i.ttl i.entropy i.payload in
      let router : t.router ≡ ingress = same_Some t.router ingress (sym t.there ∙ ap (λ (j : Injection). slice_get w.routers j.router) same ∙ ap (slice_get w.routers) place ∙ at) in
      let is : h ≡ counted (makes (record w { injections = number }) made) =
      t.is
      ∙ ap (λ (z : Control). counted (makes (record w { injections = number }) (inject_made confs t.injection.router z number t.injection.sd t.injection.bsl t.injection.ids t.injection.ttl t.injection.entropy t.injection.payload))) router
      ∙ ap (λ (j : Injection). counted (makes (record w { injections = number }) (inject_made confs j.router ingress number j.sd j.bsl j.ids j.ttl j.entropy j.payload))) same
      ∙ ap (λ (z : ℕ). counted (makes (record w { injections = number }) (inject_made confs z ingress number i.sd i.bsl i.ids i.ttl i.entropy i.payload))) place in
      let good = inject_good number c in
      subst (IsKeptBy confs r g u n k) (sym is) (made_kept confs r g u n k (record w { injections = number }) made (none_yet later) good.sent good.drops)

  -- the event that is the injection
  pub first_kept : (e : Event) → EventFits (length w.domain.routers) e → entered w.injections e n ≡ Some i → i.router ≡ s → IsCovered r g u i k → IsKeptBy confs r g u n k (happens w e)
  first_kept e fits is place c = by (happens w e) (shape_of w e)
    where
      number : (b : Bool) → (w.injections + 1 == n) ≡ b → (if b then injection_of e else None) ≡ Some i → (w.injections < n) × (injection_of e ≡ Some i)
      number true t h = ((let z = eqb-true (w.injections + 1) n t in omega (arith, z)), h)
      number false t h = cc

      this : (w.injections < n) × (injection_of e ≡ Some i)
      this = number (w.injections + 1 == n) refl is

      never : injection_of e ≡ None → ⊥
      never none = (let z : None ≡ Some i = sym none ∙ this.1 in cc)

      by : (h : Happened) → Shape w e h → IsKeptBy confs r g u n k h
      by h (Quiet q (inl none)) = absurd (never none)
      by h (Quiet q (inr nowhere)) = absurd (injection_there w truth e nowhere.0 nowhere.1 fits nowhere.2)
      by h (Dropped t none) = absurd (never none)
      by h (Taken t none) = absurd (never none)
      by h (Entered t) = entered_kept e h t (same_Some t.injection i (sym t.event ∙ this.1)) place this.0 c
