-- A copy that comes to a router on its course: it is hopped at its target, and before that its tunnel goes on.
use Rattle.std.proofs.Common.{◌≡◌, ◌⊎◌, inl, inr, ℕ, ◌+◌, ◌-◌, ◌<◌, ◌≤◌, ◌==◌, ◌%◌, Bool, true, false, List, length, slice_get, Option, Some, None, option_and_then, refl, sym, ap, subst, ◌∙◌, arith}
use mathlib.Core.Bool.{true≢false}
use Rattle.std.specs.List.{AllByRecursion}
use Rattle.std.specs.Str.{bytes_eq}
use Rattle.std.proofs.lemmas.Bool.{eqb-true, eq-eqb}
use Rattle.std.proofs.lemmas.Option.{same_Some}
use Rattle.wire_base.specs.declared.addresses.Ipv4.{Ipv4}
use Rattle.wire_base.specs.declared.conf.End.{End}
use Rattle.wire_base.specs.declared.conf.RouterConf.{RouterConf}
use Rattle.wire_base.specs.declared.view.ViewNode.{ViewNode}
use Rattle.wire_base.specs.model.Configuration.{DomainConf, IsConsistent}
use Rattle.wire_base.specs.model.Graph.{IsGraph, is_overloaded, node_covers}
use Rattle.wire_base.specs.model.HopCount.{hops, tunnel_links, Follows, CoversPath}
use Rattle.wire_base.specs.model.Item.{DataItem, Outer, router_with, outer_target}
use Rattle.wire_base.specs.model.OnFrame.{node_place, link_to, next_link, node_with}
use Rattle.wire_base.specs.model.Tight.{IsTight, next_step}
use Rattle.wire_base.specs.model.Walk.{dist}
use Rattle.domain_model.specs.World.{peer_place}
use Rattle.domain_model.specs.Truth.{IsAmong, OuterFits}
use Rattle.domain_model.proofs.DomainLaws.{bytes_is, bytes_from}
use Rattle.domain_model.proofs.ViewTruth.{IsRouterNode}
use Rattle.laws_route.specs.OnWay.{IsOnWay}
use Rattle.laws_route.proofs.WalkLemmas.{edges-node}
use Rattle.laws_route.proofs.DescentLemmas.{dist-end, dist-over, dist-edge, IsTight-within, IsTight-nearer}
use Rattle.laws_route.proofs.RouteLemmas.{dist-through, IsTight-onward, next_step-tight, next_step-some}
use Rattle.bier_forward.specs.Packets.{LeadsToEnds}
use Rattle.laws_ledger.proofs.CopyLaws.{HasOnward}
use Rattle.laws_course.specs.Course.{node_by, node_at, node_of, target_at, HasLinks, IsOnCourse}
use Rattle.laws_course.proofs.FollowLaws.{follow-down, follow-zero}
use Rattle.laws_course.proofs.NodeLaws.{IsRouterAt, router_at, same_router, peer_node, router_found, node_found}
use Rattle.laws_course.proofs.HopLaws.{covered, next, IsThere, follows_in, edge_end}

-- ---- distances

zero_distance : (g : List ViewNode) → IsGraph g → (u d : ℕ) → u < length g → dist g u d ≡ Some 0 → u ≡ d
zero_distance g graph u d node q = by (u == d) refl
  where
    by : (b : Bool) → (u == d) ≡ b → u ≡ d
    by true e = eqb-true u d e
    by false e =
        let other : u ≡ d → ⊥ = λ z. true≢false (sym (eq-eqb u d z) ∙ e) in
        let t = dist-edge g graph u d 0 node other q in
        let n = IsTight-nearer g graph d u t.0 t.2 in
        let far : n.far ≡ 0 = same_Some n.far 0 (sym n.from ∙ q) in
        let less = n.less in
        absurd (omega (arith, less, far))

-- one more step is reached
reached_on : (g : List ViewNode) → IsGraph g → (u a b d n : ℕ) → u < length g → a < length g → dist g u a ≡ Some n → (a ≡ u) ⊎ (is_overloaded g a ≡ false) → IsTight g d a b → (m : ℕ) × (dist g u b ≡ Some m)
reached_on g graph u a b d n in_u in_a q free t =
    let end : dist g t.edge.to b ≡ Some 0 = ap (λ (z : ℕ). dist g z b) t.enters ∙ dist-end g b in
    let o = dist-over g graph a b 0 t.edge in_a t.leaves (inl t.enters) end in
    by free o.0 o.1
  where
    by : (a ≡ u) ⊎ (is_overloaded g a ≡ false) → (m : ℕ) → dist g a b ≡ Some m → (m : ℕ) × (dist g u b ≡ Some m)
    by (inl e) m p = (m, ap (λ (z : ℕ). dist g z b) (sym e) ∙ p)
    by (inr f) m p = (let w = dist-through g graph u a b n m in_u (inr f) q p in (w.0, w.1))

module _ (d : DomainConf) (valid : IsConsistent d) (g : List ViewNode) (graph : IsGraph g) (nodes : AllByRecursion (IsRouterNode d.routers) g) (r : RouterConf) (among : IsAmong d.routers r) (u k : ℕ) (in_u : u < length g) where
  module _ (a b : ℕ) (x : DataItem) (i : IsOnCourse d.routers r g u k a b x) where
    abbrev to : ℕ
    to = node_at d.routers g b

    abbrev target : ℕ
    target = target_at d.routers g b x

    pub from_in : node_at d.routers g a < length g
    from_in = edges-node g (node_at d.routers g a) i.step.edge i.step.leaves

    pub to_in : to < length g
    to_in = IsTight-within g graph i.last (node_at d.routers g a) to i.step

    pub to_reached : (m : ℕ) × (dist g u to ≡ Some m)
    to_reached = reached_on g graph u (node_at d.routers g a) to i.last i.before in_u from_in i.reached i.free i.step

    target_in : target < length g
    target_in = (follows_in d valid g graph nodes r among u k in_u x i.times target i.path).1

    -- at its target it is what a hop starts from
    pub course_there : 1 ≤ x.ttl → to ≡ target → IsThere d valid g graph nodes r among u k in_u x to x.ttl
    course_there lives e =
        let m = to_reached in
        record {
          last = i.last;
          owns = i.owns;
          inside = to_in;
          before = m.0;
          reached = m.1;
          rest = i.on.after;
          distance = ap (λ (z : ℕ). dist g z i.last) e ∙ i.on.on;
          free = λ other. at other i.step.passes;
          path = inr (i.times, subst (Follows (next d valid g graph nodes r among u k in_u x) i.times u) (sym e) i.path);
          left = i.covers.count;
          hops_left = ap (hops g r.kinds r.table x.triple (x.entropy % 16) k) e ∙ i.covers.is;
          lasts = (let enough = i.covers.enough in omega (arith, enough, lives));
        }
      where
        at : (to ≡ i.last → ⊥) → (to ≡ i.last) ⊎ (is_overloaded g to ≡ false) → (to ≡ u) ⊎ (is_overloaded g to ≡ false)
        at other (inl h) = absurd (other h)
        at other (inr h) = inr h

    -- before it, a copy passes nodes that aren't the owner
    not_last : (to ≡ target → ⊥) → is_overloaded g to ≡ false
    not_last other = at i.step.passes
      where
        at : (to ≡ i.last) ⊎ (is_overloaded g to ≡ false) → is_overloaded g to ≡ false
        at (inr f) = f
        at (inl e) =
            let end : dist g to i.last ≡ Some 0 = ap (λ (z : ℕ). dist g z i.last) e ∙ dist-end g i.last in
            let sum : i.on.before + i.on.after ≡ 0 = same_Some (i.on.before + i.on.after) 0 (sym i.on.whole ∙ end) in
            let none : i.on.before ≡ 0 = omega (arith, sum) in
            absurd (other (zero_distance g graph to target to_in (i.on.to ∙ ap (λ (n : ℕ). Some n) none)))

    module _ (q : RouterConf) (at : slice_get d.routers b ≡ Some q) where
      pub to_is : node_place g q.system ≡ to
      to_is = ap (node_by g) (sym at)

      -- a tunnel to its prefix ends there
      pub ends_here : (o : Option Outer) → x.outer ≡ o → ((t : Outer) → o ≡ Some t → bytes_eq t.dst.0 q.prefix.0 ≡ true) → to ≡ target
      ends_here None e h = ap (λ (o : Option Outer). node_of d.routers g (outer_target d.routers b o)) (sym e)
      ends_here (Some t) e h =
          let dst : t.dst ≡ q.prefix = ap (λ (l : List ℕ). record { 0 = l }) (bytes_is t.dst.0 q.prefix.0 (h t refl)) in
          let found : router_with 0 d.routers t.dst ≡ Some b = ap (router_with 0 d.routers) dst ∙ router_found d valid g graph nodes b q at in
          sym (ap (λ (o : Option Outer). node_of d.routers g (outer_target d.routers b o)) e ∙ ap (node_of d.routers g) found)

      module _ (t : Outer) (e : x.outer ≡ Some t) (fits : OuterFits d.routers x.outer) (on : bytes_eq t.dst.0 q.prefix.0 ≡ false) where
        abbrev tunnel_fits : OuterFits d.routers (Some t)
        tunnel_fits = subst (OuterFits d.routers) e fits

        abbrev far : RouterConf
        far = tunnel_fits.dst.router

        found : router_with 0 d.routers t.dst ≡ Some tunnel_fits.dst.among.place
        found = ap (router_with 0 d.routers) tunnel_fits.dst.is ∙ router_found d valid g graph nodes tunnel_fits.dst.among.place far tunnel_fits.dst.among.there

        target_is : target ≡ node_place g far.system
        target_is = ap (λ (o : Option Outer). node_of d.routers g (outer_target d.routers b o)) e ∙ ap (node_of d.routers g) found ∙ ap (node_by g) tunnel_fits.dst.among.there

        target_router : (j : IsRouterAt d valid g graph nodes target) → j.router ≡ far
        target_router j = same_router d valid g graph nodes target tunnel_fits.dst.among.place j far tunnel_fits.dst.among.there (sym target_is)

        -- the copy isn't at its target
        pub elsewhere : to ≡ target → ⊥
        elsewhere same =
            let j = router_at d valid g graph nodes target target_in in
            let here : j.router ≡ q = same_router d valid g graph nodes target b j q at (to_is ∙ same) in
            let routers : far ≡ q = sym (target_router j) ∙ here in
            let prefix : t.dst.0 ≡ q.prefix.0 = ap (λ (p : Ipv4). p.0) tunnel_fits.dst.is ∙ ap (λ (z : RouterConf). z.prefix.0) routers in
            true≢false (sym (bytes_from t.dst.0 q.prefix.0 prefix) ∙ on)

        -- and finds it by the tunnel's destination
        pub finds : node_with g t.dst ≡ Some target
        finds =
            let j = router_at d valid g graph nodes target target_in in
            let supports = (follows_in d valid g graph nodes r among u k in_u x i.times target i.path).0 in
            let node : node_covers r.kinds r.table x.triple (Some j.node) ≡ true = ap (node_covers r.kinds r.table x.triple) (sym j.there) ∙ supports in
            let some = (covered r.kinds r.table x.triple j.node node).1 in
            ap (node_with g) (tunnel_fits.dst.is ∙ ap (λ (z : RouterConf). z.prefix) (sym (target_router j))) ∙ node_found d valid g graph nodes target x.triple.sd j some

        -- the links that are left
        links_left : (h : ℕ) × (tunnel_links g target to ≡ Some h) × (h < t.ttl)
        links_left = subst (HasLinks g target to) e i.links

        not_there : (to == target) ≡ false
        not_there = by (to == target) refl
          where
            by : (w : Bool) → (to == target) ≡ w → w ≡ false
            by true h = absurd (elsewhere (eqb-true to target h))
            by false h = refl

        -- over the tight step of least system
        onward_to : (w : HasOnward q g to t) (v : ℕ) → next_step g target to ≡ Some v → link_to q g v ≡ Some w.link → IsOnCourse d.routers r g u k b (peer_place d.routers b w.link) (record x { outer = Some (record t { ttl = t.ttl - 1 }) })
        unfolding tunnel_links
        onward_to w v step toward =
            let tight = next_step-tight g graph target to v to_in step in
            let onward = IsTight-onward g graph to target i.last v to_in i.passes i.on tight in
            let inside = IsTight-within g graph target to v tight in
            let next_is : node_at d.routers g (peer_place d.routers b w.link) ≡ v = peer_node d valid g graph nodes b v w.link q w.end at inside toward w.there in
            let same : target_at d.routers g (peer_place d.routers b w.link) (record x { outer = Some (record t { ttl = t.ttl - 1 }) }) ≡ target = sym {b = node_of d.routers g (router_with 0 d.routers t.dst)} (ap (λ (o : Option Outer). node_of d.routers g (outer_target d.routers b o)) e) in
            let down = follow-down (next_step g target) (λ z. z == target) (length g) to links_left.0 v links_left.1 not_there step in
            let m = to_reached in
            record {
              last = i.last;
              owns = i.owns;
              step = subst (IsTight g i.last to) (sym {b = v} next_is) onward.0;
              before = m.0;
              reached = m.1;
              free = inr (not_last elsewhere);
              passes = subst (λ (z : ℕ). (z ≡ i.last) ⊎ (is_overloaded g z ≡ false)) (sym {b = target} same) i.passes;
              on = subst (λ (z : ℕ). IsOnWay g z (target_at d.routers g (peer_place d.routers b w.link) (record x { outer = Some (record t { ttl = t.ttl - 1 }) })) i.last) (sym {b = v} next_is) (subst (λ (z : ℕ). IsOnWay g v z i.last) (sym {b = target} same) onward.1);
              times = i.times;
              path = subst (Follows (next d valid g graph nodes r among u k in_u x) i.times u) (sym {b = target} same) i.path;
              covers = subst (λ (z : ℕ). CoversPath g r.kinds r.table x.triple z (x.entropy % 16) k (x.ttl - 1)) (sym {b = target} same) i.covers;
              links = (
                down.0,
                ap (λ (z : ℕ). tunnel_links g z (node_at d.routers g (peer_place d.routers b w.link))) same ∙ ap (tunnel_links g target) next_is ∙ down.1,
                (let few = links_left.2 in omega (arith, few, down.2)),
              );
            }

        -- it goes on, on its course
        pub onward_course : (w : HasOnward q g to t) → IsOnCourse d.routers r g u k b (peer_place d.routers b w.link) (record x { outer = Some (record t { ttl = t.ttl - 1 }) })
        onward_course w =
            let v = some_step (next_step g target to) refl (ap (λ (o : Option ℕ). option_and_then (next_link q g to) o) (sym finds) ∙ w.leads) in
            onward_to w v.0 v.1 v.2
          where
            some_step : (s : Option ℕ) → next_step g target to ≡ s → option_and_then (next_link q g to) (Some target) ≡ Some w.link → (v : ℕ) × (next_step g target to ≡ Some v) × (link_to q g v ≡ Some w.link)
            some_step s f h = by s f (ap (λ (o : Option ℕ). option_and_then (link_to q g) o) (sym f) ∙ h)
              where
                by : (s : Option ℕ) → next_step g target to ≡ s → option_and_then (link_to q g) s ≡ Some w.link → (v : ℕ) × (next_step g target to ≡ Some v) × (link_to q g v ≡ Some w.link)
                by None f h = cc
                by (Some v) f h = (v, f, h)

        -- a way on is there
        pub way_on : LeadsToEnds q g → HasOnward q g to t
        way_on leads = let v = next_step-some g graph target to i.on.before to_in elsewhere i.on.to in by v.0 v.1
          where
            by : (v : ℕ) → next_step g target to ≡ Some v → HasOnward q g to t
            by v step =
                let tight = next_step-tight g graph target to v to_in step in
                let l = edge_end d valid g graph nodes r among u k in_u to b q at to_is v leads tight.edge tight.leaves tight.enters in
                over v step l.0 l.1 l.2.0 l.2.1
              where
                over : (v : ℕ) → next_step g target to ≡ Some v → (link : ℕ) → link_to q g v ≡ Some link → (end : End) → slice_get q.ends link ≡ Some end → HasOnward q g to t
                over v step link toward end there = record {
                  link = link;
                  end = end;
                  there = there;
                  leads = ap (λ (o : Option ℕ). option_and_then (next_link q g to) o) finds ∙ ap (λ (o : Option ℕ). option_and_then (link_to q g) o) step ∙ toward;
                }

        -- and its time to live hasn't ended
        pub lives_on : t.ttl ≤ 1 → ⊥
        unfolding tunnel_links
        lives_on few =
            let left = links_left in
            let none : left.0 ≡ 0 = omega (arith, left.2, few) in
            true≢false (sym (follow-zero (next_step g target) (λ z. z == target) (length g) to (left.1 ∙ ap (λ (n : ℕ). Some n) none)) ∙ not_there)
