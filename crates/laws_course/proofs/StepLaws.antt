-- One event keeps all copies for a BFR-id on their course, and drops none.
use Rattle.std.proofs.Common.{◌≡◌, ◌⊎◌, inl, inr, ℕ, ◌+◌, ◌-◌, ◌≤◌, ◌&&◌, nat_le, not, Bool, true, false, List, [], ◌∷◌, map, filter, Contains, slice_get, is_some, Option, Some, None, option_and_then, refl, sym, ap, subst, ◌∙◌, arith}
use Rattle.std.specs.List.{AllByRecursion}
use Rattle.std.specs.Str.{bytes_eq}
use Rattle.std.proofs.lemmas.Bool.{and_parts, eqb-true}
use Rattle.std.proofs.lemmas.Option.{same_Some}
use Rattle.wire_base.specs.declared.cause.Cause.{Cause}
use Rattle.wire_base.specs.declared.cause.Cause.TheVariants as cause
use Rattle.wire_base.specs.declared.conf.End.{End}
use Rattle.wire_base.specs.declared.conf.RouterConf.{RouterConf}
use Rattle.wire_base.specs.declared.view.ViewNode.{ViewNode}
use Rattle.wire_base.specs.model.Choice.{end_toward}
use Rattle.wire_base.specs.model.Control.{Control}
use Rattle.wire_base.specs.model.Graph.{IsGraph, edges_at}
use Rattle.wire_base.specs.model.Hop.{has, is_this, one_if}
use Rattle.wire_base.specs.model.HopCount.{FitTunnels}
use Rattle.wire_base.specs.model.Item.{Item, DataItem, Outer}
use Rattle.wire_base.specs.model.OnFrame.{node_place, next_link, node_with}
use Rattle.wire_base.specs.model.View.{control_view}
use Rattle.wire_base.specs.model.Walk.{dist}
use Rattle.domain_model.specs.declared.lines.DropLine.{DropLine}
use Rattle.domain_model.specs.World.{WorldState, is_up, link_between, peer_place}
use Rattle.domain_model.specs.Moves.{Sending, Made, listed, packet_lost, hop_made_at, hop_made, sent_onward, packet_taken}
use Rattle.domain_model.specs.Step.{push_sending, push_all}
use Rattle.domain_model.specs.Truth.{IsAmong, OuterFits, IsTrueControl, IsTruthful, confs_now, domain_now}
use Rattle.domain_model.proofs.EachLaws.{each_weaker, each_got, fold_keeps}
use Rattle.domain_model.proofs.QueueLaws.{AllQueues, item_pushed}
use Rattle.domain_model.proofs.LinkLaws.{join_of, places_stay}
use Rattle.domain_model.proofs.ViewTruth.{IsRouterNode}
use Rattle.laws_router.proofs.DomainLaws.{strip, same_stripped}
use Rattle.laws_route.proofs.HopLemmas.{has-filter}
use Rattle.laws_ledger.specs.Ledger.{is_numbered, is_drop, drops_of}
use Rattle.laws_ledger.proofs.OutcomeLaws.{others, IsEnded, group_named}
use Rattle.laws_ledger.proofs.CopyLaws.{HasOnward, IsOnwardSent, IsOnwardLost, onward_is}
use Rattle.laws_ledger.proofs.MadeLaws.{picks, own, IsHopSent, IsHopDrop, IsGroupLost, hop_made_is, EndsHere, Fate, Hops, GoesOn, Ends, fate_of}
use Rattle.laws_ledger.proofs.WorldLaws.{now_at, owner_at}
use Rattle.laws_course.specs.Course.{Agreed, next_for, node_by, node_at, target_at, IsOnCourse, IfCopyFor}
use Rattle.laws_course.proofs.KnownLaws.{each_contained, place_has, ComesOverUp, IsKnown, known_of}
use Rattle.laws_course.proofs.ChangedLaws.{node_stays, course_stays}
use Rattle.laws_course.proofs.NodeLaws.{node_some}
use Rattle.laws_course.proofs.HopLaws.{IsThere, copy_course, hop_safe}
use Rattle.laws_course.proofs.TransitLaws.{from_in, to_reached, to_is, course_there, ends_here, onward_course, way_on, lives_on}

-- ---- what a hop's parts name

pub listed_has : (ks : List ℕ) (k : ℕ) → has (listed ks) k ≡ true → has ks k ≡ true
listed_has ks k t = (and_parts (has ks k) (nat_le k 65535) (sym (has-filter (λ j. nat_le j 65535) ks k) ∙ t)).0

-- ---- drops

-- what isn't dropped of the injection for the id
abbrev pub IsOther : ℕ → ℕ → DropLine → Type 0
IsOther n k l = is_drop n k l ≡ true → ⊥

pub none_dropped : (n k : ℕ) (drops : List DropLine) → AllByRecursion (IsOther n k) drops → drops_of n k drops ≡ 0
none_dropped n k [] all = refl
none_dropped n k (l ∷ ls) all = by (is_drop n k l) all.0 (none_dropped n k ls all.1)
  where
    by : (b : Bool) → (b ≡ true → ⊥) → drops_of n k ls ≡ 0 → one_if b + drops_of n k ls ≡ 0
    by true h more = absurd (h refl)
    by false h more = omega (arith, more)

-- a drop of an injection for an id
pub drop_parts : (n k m : ℕ) (l : DropLine) → l.injection ≡ Some m → is_drop n k l ≡ true → (m ≡ n) × (has l.ids k ≡ true)
drop_parts n k m l is h =
    let p = and_parts (is_numbered l.injection n) (has l.ids k) h in
    (eqb-true m n (ap (λ (o : Option ℕ). is_numbered o n) (sym is) ∙ p.0), p.1)

-- ---- what is on the way

module _ (P : ℕ → ℕ → Item → Type 0) where
  abbrev pub Sends : Sending → Type 0
  Sends s = P s.from s.link s.item

  pub pushed_kept : (sendings : List Sending) (flights : List (List (List Item))) → AllByRecursion Sends sendings → AllQueues P flights → AllQueues P (push_all flights sendings)
  pushed_kept sendings flights all items = fold_keeps (AllQueues P) Sends push_sending (λ f s h keep. item_pushed P f s.from s.link s.item h keep) sendings flights all items

-- ---- a copy that comes to a router

module _ (w : WorldState) (truth : IsTruthful w) (s : ℕ) (ingress : Control) (at : slice_get w.routers s ≡ Some ingress) where
  abbrev pub confs : List RouterConf
  confs = w.domain.routers

  -- the routers as they are configured now
  abbrev pub nows : List RouterConf
  nows = confs_now w

  abbrev pub g : List ViewNode
  g = control_view ingress

  abbrev pub u : ℕ
  u = node_place (control_view ingress) ingress.conf.system

  abbrev pub r : RouterConf
  r = ingress.conf

  pub known : (b : ℕ) (c : Control) → slice_get w.routers b ≡ Some c → IsKnown nows c (control_view c)
  known b c there = known_of (domain_now w) truth.now c (each_got (IsTrueControl nows) w.routers b c truth.controls there)

  pub facts : IsKnown nows ingress g
  facts = known s ingress at

  pub r_among : IsAmong nows r
  r_among = record { place = s; there = now_at w truth s ingress at }

  abbrev pub graph : IsGraph g
  graph = facts.graph

  abbrev pub nodes : AllByRecursion (IsRouterNode nows) g
  nodes = facts.nodes

  -- what holds of copies of the injection n for the id
  abbrev pub On : ℕ → ℕ → ℕ → ℕ → Item → Type 0
  On n k a link item = IfCopyFor (IsOnCourse confs r g u k a (peer_place confs a link)) n k item

  same_routers : map strip confs ≡ map strip nows
  same_routers = same_stripped confs nows truth.become

  -- a course that is one by the configurations of now
  pub course_back : (k a link : ℕ) (x : DataItem) → IsOnCourse nows r g u k a (peer_place nows a link) x → IsOnCourse confs r g u k a (peer_place confs a link) x
  course_back k a link x i =
      subst (λ (z : ℕ). IsOnCourse confs r g u k a z x) (sym (places_stay confs nows a link truth.become))
      (course_stays nows confs (sym same_routers) r r refl g u k a (peer_place nows a link) x i)

  module _ (agreed : Agreed w g u) (n k : ℕ) (a b : ℕ) (x : DataItem) (lives : 1 ≤ x.ttl) (course : IsOnCourse confs r g u k a b x) (c : Control) (there : slice_get w.routers b ≡ Some c) where
    i : IsOnCourse nows r g u k a b x
    i = course_stays confs nows same_routers r r refl g u k a b x course

    conf : slice_get nows b ≡ Some c.conf
    conf = now_at w truth b c there

    node : node_place g c.conf.system ≡ node_at nows g b
    node = to_is (domain_now w) truth.now g graph nodes r r_among u k facts.own a b x i c.conf conf

    -- the router has the same view
    pub same_view : control_view c ≡ g
    same_view =
        let m = to_reached (domain_now w) truth.now g graph nodes r r_among u k facts.own a b x i in
        agreed b m.0 c there (ap (dist g u) node ∙ m.1)

    pub its_facts : IsKnown nows c g
    its_facts = subst (IsKnown nows c) same_view (known b c there)

    -- where its tunnel ends, it is at its target
    at_target : EndsHere c x.outer → node_at nows g b ≡ target_at nows g b x
    at_target ends = ends_here (domain_now w) truth.now g graph nodes r r_among u k facts.own a b x i c.conf conf x.outer refl (by x.outer ends)
      where
        by : (o : Option Outer) → EndsHere c o → (t : Outer) → o ≡ Some t → bytes_eq t.dst.0 c.conf.prefix.0 ≡ true
        by None h t e = cc
        by (Some z) h t e = subst (λ (y : Outer). bytes_eq y.dst.0 c.conf.prefix.0 ≡ true) (same_Some z t e) h

    -- what is known of the packet where it is hopped
    hopped_there : EndsHere c x.outer → IsThere (domain_now w) truth.now g graph nodes r r_among u k facts.own x (node_place g c.conf.system) x.ttl
    hopped_there ends =
        subst (λ (z : ℕ). IsThere (domain_now w) truth.now g graph nodes r r_among u k facts.own x z x.ttl) (sym node) (course_there (domain_now w) truth.now g graph nodes r r_among u k facts.own a b x i lives (at_target ends))

    -- the tunnels from there are short enough
    fits_there : EndsHere c x.outer → FitTunnels g (next_for r g x.triple x.entropy k) (node_place g c.conf.system)
    fits_there ends = subst (FitTunnels g (next_for r g x.triple x.entropy k)) (sym (node ∙ at_target ends)) i.covers.tunnels

    -- a copy that the hop makes for the id
    hop_keeps : EndsHere c x.outer → AllByRecursion (λ (z : Sending). On x.number k z.from z.link z.item) (hop_made confs b c x x.ttl).sent
    hop_keeps ends =
        let v = control_view c in
        each_weaker (IsHopSent confs b c.conf v (node_place v c.conf.system) x x.ttl) (λ (z : Sending). On x.number k z.from z.link z.item) one (hop_made confs b c x x.ttl).sent (hop_made_is confs b c.conf v (node_place v c.conf.system) x x.ttl).sent
      where
        one : (z : Sending) → IsHopSent confs b c.conf (control_view c) (node_place (control_view c) c.conf.system) x x.ttl z → On x.number k z.from z.link z.item
        one z h =
            let k' : IsHopSent confs b c.conf g (node_place g c.conf.system) x x.ttl z = subst (λ (v : List ViewNode). IsHopSent confs b c.conf v (node_place v c.conf.system) x x.ttl z) same_view h in
            subst (λ (y : Sending). On x.number k y.from y.link y.item) (sym k'.is) (λ number named. course_back k b k'.way.link (record x { bift = k'.way.bift; ids = k'.ids; ttl = k'.left; outer = k'.way.outer })
            (copy_course (domain_now w) truth.now g graph nodes r r_among u k facts.own x (node_place g c.conf.system) x.ttl (hopped_there ends) confs b c.conf conf refl z k' named (fits_there ends)))

    hop_drops : EndsHere c x.outer → AllByRecursion (IsOther x.number k) (hop_made confs b c x x.ttl).drops
    hop_drops ends =
        let v = control_view c in
        each_weaker (IsHopDrop confs b c.conf v (node_place v c.conf.system) x x.ttl) (IsOther x.number k) one (hop_made confs b c x x.ttl).drops (hop_made_is confs b c.conf v (node_place v c.conf.system) x x.ttl).drops
      where
        one : (l : DropLine) → IsHopDrop confs b c.conf (control_view c) (node_place (control_view c) c.conf.system) x x.ttl l → IsOther x.number k l
        one l h dropped =
            let k' : IsHopDrop confs b c.conf g (node_place g c.conf.system) x x.ttl l = subst (λ (v : List ViewNode). IsHopDrop confs b c.conf v (node_place v c.conf.system) x x.ttl l) same_view h in
            let p = drop_parts x.number k x.number l (ap (λ (z : DropLine). z.injection) k'.is) dropped in
            hop_safe (domain_now w) truth.now g graph nodes r r_among u k facts.own x (node_place g c.conf.system) x.ttl (hopped_there ends) confs b c.conf conf refl its_facts.now its_facts.leads l k' p.1

    -- ---- in a tunnel that goes on

    module _ (t : Outer) (e : x.outer ≡ Some t) (fits : OuterFits nows x.outer) (on : bytes_eq t.dst.0 c.conf.prefix.0 ≡ false) where
      abbrev Onward : Made → Type 0
      Onward m = IsOnwardSent confs b c.conf g (node_place g c.conf.system) x t m ⊎ IsOnwardLost b c.conf g (node_place g c.conf.system) x t m

      onward_here : Onward (sent_onward confs b c.conf (control_view c) (node_place (control_view c) c.conf.system) x t)
      onward_here = subst (λ (v : List ViewNode). Onward (sent_onward confs b c.conf v (node_place v c.conf.system) x t)) (sym same_view) (onward_is confs b c.conf g (node_place g c.conf.system) x t)

      way : HasOnward c.conf g (node_place g c.conf.system) t
      way = subst (λ (z : ℕ). HasOnward c.conf g z t) (sym node) (way_on (domain_now w) truth.now g graph nodes r r_among u k facts.own a b x i c.conf conf t e fits on its_facts.leads)

      onward_keeps : (m : Made) → Onward m → AllByRecursion (λ (z : Sending). On x.number k z.from z.link z.item) m.sent
      onward_keeps m (inl h) =
          let at_node : HasOnward c.conf g (node_at nows g b) t = subst (λ (z : ℕ). HasOnward c.conf g z t) node h.way in
          let onward = onward_course (domain_now w) truth.now g graph nodes r r_among u k facts.own a b x i c.conf conf t e fits on (record { link = h.way.link; end = h.way.end; there = h.way.there; leads = subst (λ (z : ℕ). option_and_then (next_link c.conf g z) (node_with g t.dst) ≡ Some h.way.link) node h.way.leads }) in
          subst (λ (z : Made). AllByRecursion (λ (y : Sending). On x.number k y.from y.link y.item) z.sent) (sym h.is) ((λ number named. course_back k b h.way.link (record x { outer = Some (record t { ttl = t.ttl - 1 }) }) onward), tt)
      onward_keeps m (inr l) = absurd (l.none way)

      onward_drops : (m : Made) → Onward m → AllByRecursion (IsOther x.number k) m.drops
      onward_drops m (inl h) = subst (λ (z : Made). AllByRecursion (IsOther x.number k) z.drops) (sym h.is) tt
      onward_drops m (inr l) = absurd (l.none way)

    -- ---- whatever becomes of it

    pub taken_keeps : OuterFits nows x.outer → AllByRecursion (λ (z : Sending). On x.number k z.from z.link z.item) (packet_taken confs b c x x.outer).sent
    taken_keeps fits = by (packet_taken confs b c x x.outer) (fate_of confs b c x)
      where
        by : (m : Made) → Fate confs b c x m → AllByRecursion (λ (z : Sending). On x.number k z.from z.link z.item) m.sent
        by m (Hops ends is) = subst (λ (z : Made). AllByRecursion (λ (y : Sending). On x.number k y.from y.link y.item) z.sent) (sym is) (hop_keeps ends)
        by m (GoesOn t e on more is) = subst (λ (z : Made). AllByRecursion (λ (y : Sending). On x.number k y.from y.link y.item) z.sent) (sym is) (onward_keeps t e fits on (sent_onward confs b c.conf (control_view c) (node_place (control_view c) c.conf.system) x t) (onward_here t e fits on))
        by m (Ends t e on few is) = absurd (lives_on (domain_now w) truth.now g graph nodes r r_among u k facts.own a b x i c.conf conf t e fits on few)

    pub taken_drops : OuterFits nows x.outer → AllByRecursion (IsOther x.number k) (packet_taken confs b c x x.outer).drops
    taken_drops fits = by (packet_taken confs b c x x.outer) (fate_of confs b c x)
      where
        by : (m : Made) → Fate confs b c x m → AllByRecursion (IsOther x.number k) m.drops
        by m (Hops ends is) = subst (λ (z : Made). AllByRecursion (IsOther x.number k) z.drops) (sym is) (hop_drops ends)
        by m (GoesOn t e on more is) = subst (λ (z : Made). AllByRecursion (IsOther x.number k) z.drops) (sym is) (onward_drops t e fits on (sent_onward confs b c.conf (control_view c) (node_place (control_view c) c.conf.system) x t) (onward_here t e fits on))
        by m (Ends t e on few is) = absurd (lives_on (domain_now w) truth.now g graph nodes r r_among u k facts.own a b x i c.conf conf t e fits on few)

    -- the end that it comes to is up
    pub comes_up : (back : ℕ) → link_between confs b a ≡ Some back → is_up c back ≡ true
    comes_up back turned =
        let from = node_some g (node_at nows g a) (from_in (domain_now w) truth.now g graph nodes r r_among u k facts.own a b x i) in
        let j = join_of confs b a back turned in
        let owner = owner_at w truth b c there in
        let near : j.near ≡ owner.router = same_Some j.near owner.router (sym j.near_at ∙ owner.there) in
        let ends : c.conf.ends ≡ j.near.ends = ap (λ (z : RouterConf). z.ends) owner.become.one ∙ ap (λ (z : RouterConf). z.ends) (sym near) in
        let at_far : node_at nows g a ≡ node_place g j.far.system = sym (node_stays confs nows same_routers g a) ∙ ap (node_by g) j.far_at in
        let system : from.0.system ≡ j.far.system = place_has j.far.system g from.0 (ap (slice_get g) (sym at_far) ∙ from.1) in
        let toward : end_toward c.conf.ends from.0.system ≡ Some back = ap (λ (es : List End). end_toward es from.0.system) ends ∙ ap (end_toward j.near.ends) system ∙ j.toward in
        let edge : Contains from.0.edges i.step.edge = subst (λ (o : Option ViewNode). Contains (edges_at o) i.step.edge) from.1 i.step.leaves in
        each_contained (ComesOverUp c.conf c.flood.up g from.0) from.0.edges i.step.edge (its_facts.comes (node_at nows g a) from.0 from.1) edge (i.step.enters ∙ sym node) back toward

-- ---- a copy that isn't for the id makes none that is

-- a drop of a hop names ids of the packet
pub drop_named : (confs : List RouterConf) (a : ℕ) (q : RouterConf) (g : List ViewNode) (u : ℕ) (x : DataItem) (ttl k : ℕ) (l : DropLine) → IsHopDrop confs a q g u x ttl l → has l.ids k ≡ true → has x.ids k ≡ true
drop_named confs a q g u x ttl k l h named = by h.reason (listed_has h.ids k (ap (λ (z : DropLine). has z.ids k) (sym h.is) ∙ named))
  where
    kept : (ids : List ℕ) (test : ℕ → Bool) → has (filter test ids) k ≡ true → has ids k ≡ true
    kept ids test t = (and_parts (has ids k) (test k) (sym (has-filter test ids k) ∙ t)).0

    by : IsEnded (own confs a q g u x ttl) (picks confs a q g u x ttl) x.ids ttl h.ids ⊎ ((h.ids ≡ filter (λ j. not (is_some (picks confs a q g u x ttl j)) && not (is_this (own confs a q g u x ttl) j)) x.ids) ⊎ IsGroupLost confs a q g u x ttl h.ids) → has h.ids k ≡ true → has x.ids k ≡ true
    by (inl (inl e)) t = ap (λ (l : List ℕ). has l k) (sym e.1) ∙ t
    by (inl (inr e)) t =
        kept x.ids (λ j. not (is_this (own confs a q g u x ttl) j)) (kept (others (own confs a q g u x ttl) x.ids) (λ j. is_some (picks confs a q g u x ttl j)) (ap (λ (l : List ℕ). has l k) (sym e.1) ∙ t))
    by (inr (inl e)) t = kept x.ids (λ j. not (is_some (picks confs a q g u x ttl j)) && not (is_this (own confs a q g u x ttl) j)) (ap (λ (l : List ℕ). has l k) (sym e) ∙ t)
    by (inr (inr e)) t = (group_named (own confs a q g u x ttl) (picks confs a q g u x ttl) x.ids ttl e.node h.ids e.left k e.group t).0

module _ (P : ℕ → ℕ → DataItem → Type 0) (confs : List RouterConf) (n k b : ℕ) (c : Control) (x : DataItem) (none : x.number ≡ n → has x.ids k ≡ true → ⊥) where
  abbrev For : Sending → Type 0
  For z = IfCopyFor (P z.from z.link) n k z.item

  idle_hop : (v : List ViewNode) (u : ℕ) → AllByRecursion For (hop_made_at confs b c.conf v u x x.ttl).sent
  idle_hop v u =
      each_weaker (IsHopSent confs b c.conf v u x x.ttl) For (λ z h. subst For (sym h.is) (λ number named. absurd (none number (group_named (own confs b c.conf v u x x.ttl) (picks confs b c.conf v u x x.ttl) x.ids x.ttl h.node h.ids h.left k h.group named).0)))
      (hop_made_at confs b c.conf v u x x.ttl).sent (hop_made_is confs b c.conf v u x x.ttl).sent

  idle_drops : (v : List ViewNode) (u : ℕ) → AllByRecursion (IsOther n k) (hop_made_at confs b c.conf v u x x.ttl).drops
  idle_drops v u =
      each_weaker (IsHopDrop confs b c.conf v u x x.ttl) (IsOther n k) (λ l h dropped. (let p = drop_parts n k x.number l (ap (λ (z : DropLine). z.injection) h.is) dropped in none p.0 (drop_named confs b c.conf v u x x.ttl k l h p.1)))
      (hop_made_at confs b c.conf v u x x.ttl).drops (hop_made_is confs b c.conf v u x x.ttl).drops

  -- the whole copy is dropped
  idle_lost : (a : ℕ) (why : Cause) → AllByRecursion (IsOther n k) (packet_lost a x why x.ids).drops
  idle_lost a why = ((λ dropped. (let p = drop_parts n k x.number (record { router = a; injection = Some x.number; cause = why; ids = listed x.ids }) refl dropped in none p.0 (listed_has x.ids k p.1))), tt)

  idle_onward : (v : List ViewNode) (u : ℕ) (t : Outer) (m : Made) → IsOnwardSent confs b c.conf v u x t m ⊎ IsOnwardLost b c.conf v u x t m → AllByRecursion For m.sent × AllByRecursion (IsOther n k) m.drops
  idle_onward v u t m (inl h) = subst (λ (z : Made). AllByRecursion For z.sent × AllByRecursion (IsOther n k) z.drops) (sym h.is) ((((λ number named. absurd (none number named)), tt)), tt)
  idle_onward v u t m (inr l) = subst (λ (z : Made). AllByRecursion For z.sent × AllByRecursion (IsOther n k) z.drops) (sym l.is) (tt, idle_lost b cause.Route)

  pub idle_taken : AllByRecursion For (packet_taken confs b c x x.outer).sent × AllByRecursion (IsOther n k) (packet_taken confs b c x x.outer).drops
  idle_taken = by (packet_taken confs b c x x.outer) (fate_of confs b c x)
    where
      by : (m : Made) → Fate confs b c x m → AllByRecursion For m.sent × AllByRecursion (IsOther n k) m.drops
      by m (Hops ends is) = subst (λ (z : Made). AllByRecursion For z.sent × AllByRecursion (IsOther n k) z.drops) (sym is) (idle_hop (control_view c) (node_place (control_view c) c.conf.system), idle_drops (control_view c) (node_place (control_view c) c.conf.system))
      by m (GoesOn t e on more is) =
          subst (λ (z : Made). AllByRecursion For z.sent × AllByRecursion (IsOther n k) z.drops) (sym is)
          (idle_onward (control_view c) (node_place (control_view c) c.conf.system) t (sent_onward confs b c.conf (control_view c) (node_place (control_view c) c.conf.system) x t) (onward_is confs b c.conf (control_view c) (node_place (control_view c) c.conf.system) x t))
      by m (Ends t e on few is) = subst (λ (z : Made). AllByRecursion For z.sent × AllByRecursion (IsOther n k) z.drops) (sym is) (tt, idle_lost b cause.Outer)
