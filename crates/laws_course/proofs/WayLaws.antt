-- In a truthful domain each router has a way to the node that it chooses, so that no copy is dropped for want of one.
use Rattle.std.proofs.Common.{◌≡◌, ◌⊎◌, inl, inr, ℕ, ◌+◌, ◌%◌, List, [], slice_get, Some, refl, sym, ap, ◌∙◌, arith}
use Rattle.std.proofs.lemmas.Option.{same_Some}
use Rattle.wire_base.specs.model.Choice.{choose}
use Rattle.wire_base.specs.model.Control.{Control}
use Rattle.wire_base.specs.model.Graph.{covers_at}
use Rattle.wire_base.specs.model.Item.{DataItem}
use Rattle.wire_base.specs.model.OnFrame.{choice_of}
use Rattle.wire_base.specs.model.View.{control_view}
use Rattle.wire_base.specs.model.Walk.{dist}
use Rattle.domain_model.specs.World.{WorldState}
use Rattle.domain_model.specs.Moves.{Made, packet_of, item_copied}
use Rattle.domain_model.specs.Truth.{IsTruthful, domain_now}
use Rattle.laws_route.proofs.HopCountLemmas.{chosen, descends}
use Rattle.laws_route.proofs.ChoiceLemmas.{choice-from, choice-descends}
use Rattle.laws_route.proofs.DescentLemmas.{dist-end}
use Rattle.laws_route.proofs.RouteLemmas.{first-on-way}
use Rattle.laws_ledger.proofs.CopyLaws.{HasWay, IsCopySent, IsCopyLost, copied_is}
use Rattle.laws_ledger.proofs.WorldLaws.{now_at}
use Rattle.laws_course.specs.Course.{next_for, own_node}
use Rattle.laws_course.proofs.HopLaws.{IsThere, class_is, way_there}
use Rattle.laws_course.proofs.StepLaws.{facts, r_among}

module _ (w : WorldState) (truth : IsTruthful w) (a : ℕ) (c : Control) (at : slice_get w.routers a ≡ Some c) (x : DataItem) (y k : ℕ) (goes : choice_of c.conf (control_view c) (own_node c) (packet_of x) k ≡ Some y) where
  way : HasWay c.conf (control_view c) (own_node c) x.triple y
  way =
      let known = facts w truth a c at in
      let r = c.conf in
      let g = control_view c in
      let u = own_node c in
      let next_is : next_for r g x.triple x.entropy k u ≡ Some y = ap (λ (n : ℕ). choose g r.kinds r.table x.triple n u k) (sym (class_is x)) ∙ goes in
      let o = chosen g r.kinds r.table x.triple (x.entropy % 16) k u y next_is in
      let down = descends g r.kinds r.table x.triple (x.entropy % 16) k u y known.graph known.own next_is in
      let cov = covers_at r.kinds r.table x.triple g in
      let first = choice-from g known.graph cov o.0 (x.entropy % 16) u y known.own o.2 in
      let near = choice-descends g known.graph cov o.0 (x.entropy % 16) u y known.own o.2 in
      let on = first-on-way g known.graph cov o.0 u y known.own first.ends first.first in
      let other : u ≡ y → ⊥ = λ z. (let far = ap (λ (v : ℕ). dist g v o.0) z in let same = same_Some near.0.far near.0.near (sym near.0.from ∙ far ∙ near.0.to) in let less = near.0.less in omega (arith, same, less)) in
      let there : IsThere (domain_now w) truth.now g known.graph known.nodes r (r_among w truth a c at) u k known.own x u (down.count + 1) = record {
        last = o.0;
        owns = o.1;
        inside = known.own;
        before = 0;
        reached = dist-end g u;
        rest = near.0.far;
        distance = near.0.from;
        free = λ z. inl refl;
        path = inl refl;
        left = down.count;
        hops_left = down.hops;
        lasts = omega arith;
      } in
      way_there (domain_now w) truth.now g known.graph known.nodes r (r_among w truth a c at) u k known.own x u (down.count + 1) there w.domain.routers a r (now_at w truth a c at) refl y known.leads first.first.covers other on.0

  pub copy_sent : (ks : List ℕ) (ttl : ℕ) → (item_copied w.domain.routers a c.conf (control_view c) (own_node c) x y ks ttl).drops ≡ []
  copy_sent ks ttl = by (item_copied w.domain.routers a c.conf (control_view c) (own_node c) x y ks ttl) (copied_is w.domain.routers a c.conf (control_view c) (own_node c) x y ks ttl)
    where
      by : (m : Made) → IsCopySent w.domain.routers a c.conf (control_view c) (own_node c) x y ks ttl m ⊎ IsCopyLost a c.conf (control_view c) (own_node c) x y ks m → m.drops ≡ []
      by m (inl s) = ap (λ (z : Made). z.drops) s.is
      by m (inr l) = absurd (l.none way)
