-- A packet that comes to a router on its course: the copy for the BFR-id goes on its course, and the hop drops it not.
use Rattle.std.proofs.Common.{◌≡◌, ◌⊎◌, inl, inr, ℕ, zero, suc, ◌+◌, ◌<◌, ◌≤◌, ◌==◌, ◌&&◌, ◌%◌, nat_le, not, Bool, true, false, List, length, filter, Contains, slice_get, is_some, Option, Some, None, option_map, option_and_then, refl, sym, ap, subst, ◌∙◌, arith}
use mathlib.Core.Bool.{false≢true, true≢false}
use Rattle.std.specs.List.{AllByRecursion}
use Rattle.std.proofs.lemmas.Bool.{and_parts, eqb-true, eq-eqb}
use Rattle.std.proofs.lemmas.Option.{same_Some}
use Rattle.wire_base.specs.declared.conf.End.{End}
use Rattle.wire_base.specs.declared.conf.RouterConf.{RouterConf}
use Rattle.wire_base.specs.declared.conf.SubKind.{SubKind}
use Rattle.wire_base.specs.declared.conf.TableRow.{TableRow}
use Rattle.wire_base.specs.declared.triple.Triple.{Triple}
use Rattle.wire_base.specs.declared.view.ViewEdge.{ViewEdge}
use Rattle.wire_base.specs.declared.view.ViewNode.{ViewNode}
use Rattle.wire_base.specs.declared.view.ViewSub.{ViewSub}
use Rattle.wire_base.specs.model.Choice.{choose, choice, end_toward, is_direct, is_length}
use Rattle.wire_base.specs.model.Configuration.{DomainConf, IsConsistent}
use Rattle.wire_base.specs.model.Graph.{IsGraph, edges_of, is_overloaded, owner, covers_at, node_covers, covers, node_bift, has_id_at, place_in}
use Rattle.wire_base.specs.model.Hop.{has, is_this}
use Rattle.wire_base.specs.model.HopCount.{follow, hops, tunnel_links, Follows, IsPassed, FitTunnels}
use Rattle.wire_base.specs.model.Item.{DataItem, Outer, ingress_header, router_with, outer_target}
use Rattle.wire_base.specs.model.OnFrame.{node_place, link_to, next_link, bift_at, prefix_of, outer_ttl, class_of}
use Rattle.wire_base.specs.model.Place.{bift_of, own_id}
use Rattle.wire_base.specs.model.Tight.{IsTight, next_step}
use Rattle.wire_base.specs.model.Walk.{dist}
use Rattle.domain_model.specs.declared.lines.DropLine.{DropLine}
use Rattle.domain_model.specs.World.{peer_place}
use Rattle.domain_model.specs.Moves.{Sending, listed, packet_of}
use Rattle.domain_model.specs.Truth.{IsAmong}
use Rattle.domain_model.proofs.DomainLaws.{alike}
use Rattle.domain_model.proofs.LinkLaws.{end_found}
use Rattle.domain_model.proofs.ViewTruth.{IsRouterNode}
use Rattle.laws_route.specs.OnWay.{IsOnWay}
use Rattle.laws_route.proofs.HopLemmas.{has-filter}
use Rattle.laws_route.proofs.HopCountLemmas.{chosen-at}
use Rattle.laws_route.proofs.ChoiceLemmas.{any-from, choice-from, choice-descends}
use Rattle.laws_route.proofs.DescentLemmas.{dist-end, IsTight-within}
use Rattle.laws_route.proofs.OwnerLemmas.{owner-is}
use Rattle.laws_route.proofs.RouteLemmas.{first-on-way, IsTight-onward, next_step-tight, next_step-some, tunnel_links-some}
use Rattle.bier_forward.specs.Packets.{LeadsToEnds}
use Rattle.laws_ledger.proofs.OutcomeLaws.{others, IsGroup, IsEnded}
use Rattle.laws_ledger.proofs.CopyLaws.{IsNearWay, IsFarWay, HasWay}
use Rattle.laws_ledger.proofs.MadeLaws.{picks, own, IsHopSent, IsHopDrop, IsGroupLost}
use Rattle.laws_course.specs.Course.{next_for, node_by, node_at, node_of, target_at, HasLinks, IsOnCourse}
use Rattle.laws_course.proofs.KnownLaws.{each_contained, IsOfNow}
use Rattle.laws_course.proofs.FollowLaws.{follow-down, follow-zero, follow-next, passed-next, fit-next, Follows-each}
use Rattle.laws_course.proofs.NodeLaws.{router_at, peer_node, prefix_is, router_found, own_from}

-- ---- what a packet's header says

pub class_is : (x : DataItem) → class_of (packet_of x) ≡ x.entropy % 16
unfolding ingress_header
class_is x = refl

-- a node that supports a triple gives it a BIFT-id, and has a place in its sub-domain
pub covered : (kinds : List SubKind) (table : List TableRow) (t : Triple) (n : ViewNode) → covers kinds table t n ≡ true → ((b : ℕ) × (node_bift kinds table t n ≡ Some b)) × (is_some (place_in n.subs t.sd) ≡ true)
unfolding covers node_bift
covered kinds table t n h = (by (bift_of kinds table (option_map (λ (s : ViewSub). s.ranges) (place_in n.subs t.sd)) t) h, at (place_in n.subs t.sd) h)
  where
    by : (o : Option ℕ) → is_some o ≡ true → (b : ℕ) × (o ≡ Some b)
    by None h = absurd (false≢true h)
    by (Some b) h = (b, refl)

    at : (o : Option ViewSub) → is_some (bift_of kinds table (option_map (λ (s : ViewSub). s.ranges) o) t) ≡ true → is_some o ≡ true
    at None h = h
    at (Some s) h = refl

some_is : {X : Type 0} (o : Option X) → is_some o ≡ true → (x : X) × (o ≡ Some x)
some_is None h = absurd (false≢true h)
some_is (Some x) h = (x, refl)

-- an owner's id is above 0
owner_some : (g : List ViewNode) (sd k d : ℕ) → owner g sd k ≡ Some d → 1 ≤ k
unfolding owner
owner_some g sd zero d h = cc
owner_some g sd (suc k) d h = omega arith

length_is : (o : Option ℕ) (m : ℕ) → is_length o m ≡ true → o ≡ Some m
length_is None m h = absurd (false≢true h)
length_is (Some n) m h = ap (λ (z : ℕ). Some z) (eqb-true n m h)

module _ (d : DomainConf) (valid : IsConsistent d) (g : List ViewNode) (graph : IsGraph g) (nodes : AllByRecursion (IsRouterNode d.routers) g) (r : RouterConf) (among : IsAmong d.routers r) (u k : ℕ) (in_u : u < length g) where
  -- where the packet's copies go next for the id
  abbrev pub next : DataItem → ℕ → Option ℕ
  next x y = next_for r g x.triple x.entropy k y

  abbrev cov : DataItem → ℕ → Bool
  cov x = covers_at r.kinds r.table x.triple g

  -- what is known of a packet for the id at the node where it is hopped
  pub record IsThere (x : DataItem) (here ttl : ℕ) : Type 0 where
    pub last : ℕ
    pub owns : owner g x.triple.sd k ≡ Some last
    pub inside : here < length g
    pub before : ℕ
    pub reached : dist g u here ≡ Some before
    pub rest : ℕ
    pub distance : dist g here last ≡ Some rest
    pub free : (here ≡ last → ⊥) → (here ≡ u) ⊎ (is_overloaded g here ≡ false)
    pub path : IsPassed (next x) u here
    pub left : ℕ
    pub hops_left : hops g r.kinds r.table x.triple (x.entropy % 16) k here ≡ Some left
    pub lasts : left < ttl

  -- all that follow from u are nodes that support the triple
  pub follows_in : (x : DataItem) (j y : ℕ) → Follows (next x) j u y → (cov x y ≡ true) × (y < length g)
  follows_in x j y f = Follows-each (next x) (λ z. cov x z ≡ true) (λ z. z < length g) step j u y in_u f
    where
      step : (y z : ℕ) → y < length g → next x y ≡ Some z → (cov x z ≡ true) × (z < length g)
      step y z within q = by (owner g x.triple.sd k) refl q
        where
          by : (o : Option ℕ) → owner g x.triple.sd k ≡ o → option_and_then (λ e. choice g (cov x) e (x.entropy % 16) y) o ≡ Some z → (cov x z ≡ true) × (z < length g)
          by None e q = cc
          by (Some e) p q =
              let c = choice-from g graph (cov x) e (x.entropy % 16) y z within q in
              let near = choice-descends g graph (cov x) e (x.entropy % 16) y z within q in
              (c.first.covers, near.1)

  -- an edge of the router's node leads over one of its ends
  pub edge_end : (here a : ℕ) (q : RouterConf) → slice_get d.routers a ≡ Some q → node_place g q.system ≡ here → (y : ℕ) → LeadsToEnds q g → (e : ViewEdge) → Contains (edges_of g here) e → e.to ≡ y → (link : ℕ) × (link_to q g y ≡ Some link) × ((at : End) × (slice_get q.ends link ≡ Some at))
  edge_end here a q at node y leads e there to =
      let here_edges : Contains (edges_of g (node_place g q.system)) e = subst (λ (z : ℕ). Contains (edges_of g z) e) (sym node) there in
      let some : is_some (link_to q g e.to) ≡ true = each_contained (λ (z : ViewEdge). is_some (link_to q g z.to) ≡ true) (edges_of g (node_place g q.system)) e leads here_edges in
      let link = some_is (link_to q g y) (ap (λ (z : ℕ). is_some (link_to q g z)) (sym to) ∙ some) in
      (link.0, link.1, found link.0 (slice_get g y) refl link.1)
    where
      found : (link : ℕ) (o : Option ViewNode) → slice_get g y ≡ o → option_and_then (λ n. end_toward q.ends n.system) o ≡ Some link → (at : End) × (slice_get q.ends link ≡ Some at)
      found link None e h = cc
      found link (Some n) e h = let f = end_found q.ends n.system link h in (f.at, f.there)

  module _ (x : DataItem) (here ttl : ℕ) (i : IsThere x here ttl) where
    chosen : (y : ℕ) → next x here ≡ Some y → choice g (cov x) i.last (x.entropy % 16) here ≡ Some y
    chosen y q = sym (chosen-at g r.kinds r.table x.triple (x.entropy % 16) k here i.last i.owns) ∙ q

    -- what is left after a step
    step_left : (y : ℕ) → next x here ≡ Some y → (here ≡ i.last → ⊥) → (m : ℕ) × (hops g r.kinds r.table x.triple (x.entropy % 16) k y ≡ Some m) × (i.left ≡ m + 1)
    unfolding hops
    step_left y q other =
        let own = owner-is g x.triple.sd k i.last i.owns in
        let not_here : has_id_at g x.triple.sd k here ≡ false = own.alone here i.inside ∙ by (here == i.last) refl in
        follow-down (next x) (has_id_at g x.triple.sd k) (length g) here i.left y i.hops_left not_here q
      where
        by : (b : Bool) → (here == i.last) ≡ b → b ≡ false
        by true e = absurd (other (eqb-true here i.last e))
        by false e = refl

    -- a way of a copy to y begins with a tight step toward the owner
    pub record WayFacts (y to target : ℕ) (outer : Option Outer) : Type 0 where
      pub target_is : target ≡ y
      pub step : IsTight g i.last here to
      pub on : IsOnWay g to y i.last
      pub links : HasLinks g y to outer

    module _ (y : ℕ) (on : IsOnWay g here y i.last) (passes : (y ≡ i.last) ⊎ (is_overloaded g y ≡ false)) (within : y < length g) (q : next x here ≡ Some y) (fit : FitTunnels g (next x) here) where
      near_facts : is_direct g here y ≡ true → (to target : ℕ) → to ≡ y → target ≡ to → WayFacts y to target None
      unfolding is_direct
      near_facts t to target same ends =
          let e = any-from (λ e. (e.to == y) && is_length (dist g here y) e.metric) (edges_of g here) t in
          let b = and_parts (e.item.to == y) (is_length (dist g here y) e.item.metric) e.passes in
          let far = length_is (dist g here y) e.item.metric b.1 in
          let metric : on.before ≡ e.item.metric = same_Some on.before e.item.metric (sym on.to ∙ far) in
          let tight : IsTight g i.last here y = record { edge = e.item; leaves = e.there; enters = eqb-true e.item.to y b.0; passes = passes; rest = on.after; from_there = on.on; whole = on.whole ∙ ap (λ (n : ℕ). Some n) (ap (λ (n : ℕ). n + on.after) metric) } in
          let whole : on.after ≡ 0 + on.after = omega arith in
          record {
            target_is = ends ∙ same;
            step = subst (IsTight g i.last here) (sym same) tight;
            on = subst (λ (z : ℕ). IsOnWay g z y i.last) (sym same) (record { before = 0; after = on.after; to = dist-end g y; on = on.on; whole = on.on ∙ ap (λ (n : ℕ). Some n) whole });
            links = sym same;
          }

      far_facts : is_direct g here y ≡ false → (here ≡ y → ⊥) → (v : ℕ) → next_step g y here ≡ Some v → (to target : ℕ) → to ≡ v → target ≡ y → (o : Outer) → o.ttl ≡ 255 → WayFacts y to target (Some o)
      unfolding tunnel_links
      far_facts far other v step to target same is o ttl_is =
          let tight = next_step-tight g graph y here v i.inside step in
          let onward = IsTight-onward g graph here y i.last v i.inside passes on tight in
          let all = tunnel_links-some g graph y here on.before i.inside on.to in
          let not_yet : (here == y) ≡ false = by (here == y) refl in
          let down = follow-down (next_step g y) (λ z. z == y) (length g) here all.0 v all.1 not_yet step in
          let few = fit here y all.0 (inl refl) q far all.1 in
          record {
            target_is = is;
            step = subst (IsTight g i.last here) (sym same) onward.0;
            on = subst (λ (z : ℕ). IsOnWay g z y i.last) (sym same) onward.1;
            links = (down.0, ap (λ (z : ℕ). follow (next_step g y) (λ z. z == y) (length g) z) same ∙ down.1, omega (arith, few, down.2, ttl_is));
          }
        where
          by : (b : Bool) → (here == y) ≡ b → b ≡ false
          by true e = absurd (other (eqb-true here y e))
          by false e = refl

    -- ---- the copy for the id

    -- the places that interfaces lead to are those in `os`
    module _ (os : List RouterConf) (a : ℕ) (q : RouterConf) (at : slice_get d.routers a ≡ Some q) (node : node_place g q.system ≡ here) where
      q_among : IsAmong d.routers q
      q_among = record { place = a; there = at }

      -- all routers choose alike
      same_choice : (j : ℕ) → picks os a q g here x ttl j ≡ choose g r.kinds r.table x.triple (x.entropy % 16) here j
      same_choice j =
          let same = alike d valid r q among q_among in
          ap (λ (n : ℕ). choose g q.kinds q.table x.triple n here j) (class_is x)
          ∙ ap (λ (ks : List SubKind). choose g ks q.table x.triple (x.entropy % 16) here j) same.kinds
          ∙ ap (λ (rows : List TableRow). choose g r.kinds rows x.triple (x.entropy % 16) here j) same.table

      here_is : node_at d.routers g a ≡ here
      here_is = ap (node_by g) at ∙ node

      -- what a group of ids says of one of them
      record IsMember (y : ℕ) : Type 0 where
        named : has x.ids k ≡ true
        other : is_this (own os a q g here x ttl) k ≡ false
        goes : next x here ≡ Some y

      not_own : (ks : List ℕ) (test : ℕ → Bool) → ks ≡ filter test (others (own os a q g here x ttl) x.ids) → has ks k ≡ true → (has x.ids k ≡ true) × (is_this (own os a q g here x ttl) k ≡ false) × (test k ≡ true)
      not_own ks test is h =
          let mine = own os a q g here x ttl in
          let a1 : (has (others mine x.ids) k && test k) ≡ true = sym (has-filter test (others mine x.ids) k) ∙ ap (λ (l : List ℕ). has l k) (sym is) ∙ h in
          let p = and_parts (has (others mine x.ids) k) (test k) a1 in
          let b1 : (has x.ids k && not (is_this mine k)) ≡ true = sym (has-filter (λ j. not (is_this mine j)) x.ids k) ∙ p.0 in
          let z = and_parts (has x.ids k) (not (is_this mine k)) b1 in
          (z.0, turned (is_this mine k) z.1, p.1)
        where
          turned : (b : Bool) → not b ≡ true → b ≡ false
          turned true h = absurd (false≢true h)
          turned false h = refl

      this_some : (o : Option ℕ) (y : ℕ) → is_this o y ≡ true → o ≡ Some y
      this_some None y h = absurd (false≢true h)
      this_some (Some z) y h = ap (λ (n : ℕ). Some n) (sym (eqb-true y z h))

      member_of : (y : ℕ) (ks : List ℕ) (left : ℕ) → IsGroup (own os a q g here x ttl) (picks os a q g here x ttl) x.ids ttl y ks left → has ks k ≡ true → IsMember y
      member_of y ks left group h =
          let p = not_own ks (λ j. is_this (picks os a q g here x ttl j) y) group.those h in
          record { named = p.0; other = p.1; goes = sym (same_choice k) ∙ this_some (picks os a q g here x ttl k) y p.2 }

      way_facts : (y : ℕ) (w : HasWay q g here x.triple y) → IsOnWay g here y i.last → (y ≡ i.last) ⊎ (is_overloaded g y ≡ false) → y < length g → (here ≡ y → ⊥) → next x here ≡ Some y → FitTunnels g (next x) here
          → (z : DataItem) → z.outer ≡ w.outer → WayFacts y (node_at d.routers g (peer_place d.routers a w.link)) (target_at d.routers g (peer_place d.routers a w.link) z) w.outer
      way_facts y w on passes within other goes fit z same = by w.outer same w.leads
        where
          b : ℕ
          b = peer_place d.routers a w.link

          by : (o : Option Outer) → z.outer ≡ o → IsNearWay q g here y w.link o ⊎ IsFarWay q g here x.triple.sd y w.link o → WayFacts y (node_at d.routers g (peer_place d.routers a w.link)) (target_at d.routers g (peer_place d.routers a w.link) z) o
          by o e (inl n) =
              let to = peer_node d valid g graph nodes a y w.link q w.end at within n.toward w.there in
              let ends : target_at d.routers g b z ≡ node_at d.routers g b = ap (λ (t : Option Outer). node_of d.routers g (outer_target d.routers b t)) (e ∙ n.outer_is) in
              subst (WayFacts y (node_at d.routers g b) (target_at d.routers g b z)) (sym n.outer_is) (near_facts y on passes within goes fit n.near (node_at d.routers g b) (target_at d.routers g b z) to ends)
          by o e (inr f) =
              let tunnel : Outer = record { src = q.prefix; dst = f.dst; ttl = outer_ttl } in
              let step = some_step (next_step g y here) refl f.next in
              let inside = IsTight-within g graph y here step.0 (next_step-tight g graph y here step.0 i.inside step.1) in
              let to = peer_node d valid g graph nodes a step.0 w.link q w.end at inside step.2 w.there in
              let owner = router_at d valid g graph nodes y within in
              let dst = prefix_is d valid g graph nodes y x.triple.sd f.dst owner f.prefix in
              let found : router_with 0 d.routers f.dst ≡ Some owner.place = ap (router_with 0 d.routers) dst ∙ router_found d valid g graph nodes owner.place owner.router owner.at in
              let ends : target_at d.routers g b z ≡ y = ap (λ (t : Option Outer). node_of d.routers g (outer_target d.routers b t)) (e ∙ f.outer_is) ∙ ap (node_of d.routers g) found ∙ owner.node_is in
              subst (WayFacts y (node_at d.routers g b) (target_at d.routers g b z)) (sym f.outer_is) (far_facts y on passes within goes fit f.far other step.0 step.1 (node_at d.routers g b) (target_at d.routers g b z) to ends tunnel refl)
            where
              some_step : (s : Option ℕ) → next_step g y here ≡ s → option_and_then (link_to q g) s ≡ Some w.link → (v : ℕ) × (next_step g y here ≡ Some v) × (link_to q g v ≡ Some w.link)
              some_step None e h = cc
              some_step (Some v) e h = (v, e, h)

      -- the copy for the id goes on its course
      pub copy_course : (s : Sending) (h : IsHopSent os a q g here x ttl s) → has h.ids k ≡ true → FitTunnels g (next x) here
          → IsOnCourse d.routers r g u k a (peer_place d.routers a h.way.link) (record x { bift = h.way.bift; ids = h.ids; ttl = h.left; outer = h.way.outer })
      copy_course s h named fit =
          let item : DataItem = record x { bift = h.way.bift; ids = h.ids; ttl = h.left; outer = h.way.outer } in
          let m = member_of h.node h.ids h.left h.group named in
          let c = choice-from g graph (cov x) i.last (x.entropy % 16) here h.node i.inside (chosen h.node m.goes) in
          let near = choice-descends g graph (cov x) i.last (x.entropy % 16) here h.node i.inside (chosen h.node m.goes) in
          let w = first-on-way g graph (cov x) i.last here h.node i.inside c.ends c.first in
          let other : here ≡ h.node → ⊥ = λ e. (let far = ap (λ (z : ℕ). dist g z i.last) e in let same = same_Some near.0.far near.0.near (sym near.0.from ∙ far ∙ near.0.to) in let less = near.0.less in omega (arith, same, less)) in
          let f = way_facts h.node h.way w.0 w.1 near.1 other m.goes fit item refl in
          let left = step_left h.node m.goes c.other in
          let path = passed-next (next x) u here h.node i.path m.goes in
          let is = f.target_is in
          let b = peer_place d.routers a h.way.link in
          record {
            last = i.last;
            owns = i.owns;
            step = subst (λ (z : ℕ). IsTight g i.last z (node_at d.routers g b)) (sym here_is) f.step;
            before = i.before;
            reached = ap (dist g u) here_is ∙ i.reached;
            free = subst (λ (z : ℕ). (z ≡ u) ⊎ (is_overloaded g z ≡ false)) (sym here_is) (i.free c.other);
            passes = subst (λ (z : ℕ). (z ≡ i.last) ⊎ (is_overloaded g z ≡ false)) (sym is) w.1;
            on = subst (λ (z : ℕ). IsOnWay g (node_at d.routers g b) z i.last) (sym is) f.on;
            times = path.0;
            path = subst (Follows (next x) path.0 u) (sym is) path.1;
            covers = record {
              count = left.0;
              is = ap (hops g r.kinds r.table x.triple (x.entropy % 16) k) is ∙ left.1;
              enough = (let less = h.group.less in let lasts = i.lasts in omega (arith, left.2, less, lasts));
              tunnels = subst (FitTunnels g (next x)) (sym is) (fit-next (next x) g here h.node m.goes fit);
            };
            links = subst (λ (z : ℕ). HasLinks g z (node_at d.routers g b) h.way.outer) (sym is) f.links;
          }

      -- ---- no drop has the id

      -- there is a way to the node
      pub way_there : (y : ℕ) → LeadsToEnds q g → cov x y ≡ true → (here ≡ y → ⊥) → IsOnWay g here y i.last → HasWay q g here x.triple y
      unfolding is_direct
      way_there y leads supports other on = by (slice_get g y) refl supports
        where
          bift : (n : ViewNode) → slice_get g y ≡ Some n → covers r.kinds r.table x.triple n ≡ true → (b : ℕ) × (bift_at q g x.triple y ≡ Some b)
          bift n there h =
              let same = alike d valid r q among q_among in
              let b = (covered r.kinds r.table x.triple n h).0 in (
                b.0,
                ap (λ (o : Option ViewNode). option_and_then (node_bift q.kinds q.table x.triple) o) there
                    ∙ ap (λ (ks : List SubKind). node_bift ks q.table x.triple n) same.kinds ∙ ap (λ (rows : List TableRow). node_bift r.kinds rows x.triple n) same.table ∙ b.1,
              )

          near : (n : ViewNode) → slice_get g y ≡ Some n → covers r.kinds r.table x.triple n ≡ true → is_direct g here y ≡ true → HasWay q g here x.triple y
          near n there h t =
              let b = bift n there h in
              let e = any-from (λ e. (e.to == y) && is_length (dist g here y) e.metric) (edges_of g here) t in
              let p = and_parts (e.item.to == y) (is_length (dist g here y) e.item.metric) e.passes in
              let l = edge_end here a q at node y leads e.item e.there (eqb-true e.item.to y p.0) in
              record { link = l.0; end = l.2.0; there = l.2.1; bift = b.0; bift_is = b.1; outer = None; leads = inl (record { near = t; toward = l.1; outer_is = refl }) }

          far : (n : ViewNode) → slice_get g y ≡ Some n → covers r.kinds r.table x.triple n ≡ true → is_direct g here y ≡ false → HasWay q g here x.triple y
          far n there h t =
              let b = bift n there h in
              let s = some_is (place_in n.subs x.triple.sd) (covered r.kinds r.table x.triple n h).1 in
              let prefix : prefix_of g x.triple.sd y ≡ Some s.0.prefix = ap (λ (o : Option ViewNode). option_and_then (λ n. option_map (λ s. s.prefix) (place_in n.subs x.triple.sd)) o) there ∙ ap (λ (o : Option ViewSub). option_map (λ s. s.prefix) o) s.1 in
              let v = next_step-some g graph y here on.before i.inside other on.to in
              let tight = next_step-tight g graph y here v.0 i.inside v.1 in
              let l = edge_end here a q at node v.0 leads tight.edge tight.leaves tight.enters in
              let next_is : next_link q g here y ≡ Some l.0 = ap (λ (o : Option ℕ). option_and_then (link_to q g) o) v.1 ∙ l.1 in
              record {
                link = l.0;
                end = l.2.0;
                there = l.2.1;
                bift = b.0;
                bift_is = b.1;
                outer = Some (record { src = q.prefix; dst = s.0.prefix; ttl = outer_ttl });
                leads = inr (record { far = t; next = next_is; dst = s.0.prefix; prefix = prefix; outer_is = refl });
              }

          at_node : (n : ViewNode) → slice_get g y ≡ Some n → covers r.kinds r.table x.triple n ≡ true → (b : Bool) → is_direct g here y ≡ b → HasWay q g here x.triple y
          at_node n there h true t = near n there h t
          at_node n there h false t = far n there h t

          by : (o : Option ViewNode) → slice_get g y ≡ o → node_covers r.kinds r.table x.triple o ≡ true → HasWay q g here x.triple y
          by None e h = absurd (false≢true h)
          by (Some n) e h = at_node n e h (is_direct g here y) refl

      module _ (now : IsOfNow q g) where
        -- the id isn't the router's own where it goes on
        own_here : has_id_at g x.triple.sd k here ≡ true → is_this (own os a q g here x ttl) k ≡ true
        own_here h =
            let mine : own_id q x.triple.sd ≡ Some k = own_from d valid g graph nodes here x.triple.sd k a q at i.inside node now h (owner_some g x.triple.sd k i.last i.owns) in
            ap (λ (o : Option ℕ). is_this o k) mine ∙ eq-eqb k k refl

        owner_here : here ≡ i.last → has_id_at g x.triple.sd k here ≡ true
        owner_here e = let o = owner-is g x.triple.sd k i.last i.owns in ap (has_id_at g x.triple.sd k) e ∙ o.has

        away : is_this (own os a q g here x ttl) k ≡ false → here ≡ i.last → ⊥
        away other e = true≢false (sym (own_here (owner_here e)) ∙ other)

        abbrev mine : Option ℕ
        mine = own os a q g here x ttl

        abbrev pick : ℕ → Option ℕ
        pick = picks os a q g here x ttl

        not_here : is_this mine k ≡ false → has_id_at g x.triple.sd k here ≡ false
        not_here other = by (has_id_at g x.triple.sd k here) refl
          where
            by : (b : Bool) → has_id_at g x.triple.sd k here ≡ b → b ≡ false
            by true e = absurd (true≢false (sym (own_here e) ∙ other))
            by false e = refl

        -- it has a choice there
        pick_some : is_this mine k ≡ false → is_some (pick k) ≡ true
        unfolding hops
        pick_some other =
            let y = follow-next (next x) (has_id_at g x.triple.sd k) (length g) here i.left i.hops_left (not_here other) in
            ap (λ (o : Option ℕ). is_some o) (same_choice k ∙ y.1)

        -- and a TTL
        ttl_left : is_this mine k ≡ false → i.left ≡ 0 → ⊥
        unfolding hops
        ttl_left other zero_left =
            let ends = follow-zero (next x) (has_id_at g x.triple.sd k) (length g) here (i.hops_left ∙ ap (λ (n : ℕ). Some n) zero_left) in
            true≢false (sym (own_here ends) ∙ other)

        pub hop_safe : LeadsToEnds q g → (l : DropLine) → IsHopDrop os a q g here x ttl l → has l.ids k ≡ true → ⊥
        hop_safe leads l h named = by h.reason (listed_has h.ids (ap (λ (z : DropLine). has z.ids k) (sym h.is) ∙ named))
          where
            listed_has : (ks : List ℕ) → has (listed ks) k ≡ true → has ks k ≡ true
            listed_has ks t = (and_parts (has ks k) (nat_le k 65535) (sym (has-filter (λ j. nat_le j 65535) ks k) ∙ t)).0

            turned : (b : Bool) → not b ≡ true → b ≡ false
            turned true h = absurd (false≢true h)
            turned false h = refl

            no_choice : (b : Bool) → b ≡ true → not b ≡ true → ⊥
            no_choice true e h = false≢true h
            no_choice false e h = false≢true e

            ended : (ks : List ℕ) → IsEnded mine pick x.ids ttl ks → has ks k ≡ true → ⊥
            ended ks (inl e) t = (let lasts = i.lasts in omega (arith, lasts, e.0))
            ended ks (inr e) t = (let lasts = i.lasts in let p = not_own ks (λ j. is_some (pick j)) e.1 t in ttl_left p.1 (omega (arith, lasts, e.0)))

            by : IsEnded mine pick x.ids ttl h.ids ⊎ ((h.ids ≡ filter (λ j. not (is_some (pick j)) && not (is_this mine j)) x.ids) ⊎ IsGroupLost os a q g here x ttl h.ids) → has h.ids k ≡ true → ⊥
            by (inl e) t = ended h.ids e t
            by (inr (inl e)) t =
                let both = and_parts (has x.ids k) (not (is_some (pick k)) && not (is_this mine k)) (sym (has-filter (λ j. not (is_some (pick j)) && not (is_this mine j)) x.ids k) ∙ ap (λ (l : List ℕ). has l k) (sym e) ∙ t) in
                let p = and_parts (not (is_some (pick k))) (not (is_this mine k)) both.1 in
                no_choice (is_some (pick k)) (pick_some (turned (is_this mine k) p.1)) p.0
            by (inr (inr e)) t =
                let m = member_of e.node h.ids e.left e.group t in
                let c = choice-from g graph (cov x) i.last (x.entropy % 16) here e.node i.inside (chosen e.node m.goes) in
                let near = choice-descends g graph (cov x) i.last (x.entropy % 16) here e.node i.inside (chosen e.node m.goes) in
                let w = first-on-way g graph (cov x) i.last here e.node i.inside c.ends c.first in
                let other : here ≡ e.node → ⊥ = λ z. (let far = ap (λ (y : ℕ). dist g y i.last) z in let same = same_Some near.0.far near.0.near (sym near.0.from ∙ far ∙ near.0.to) in let less = near.0.less in omega (arith, same, less)) in
                e.none (way_there e.node leads c.first.covers other w.0)
