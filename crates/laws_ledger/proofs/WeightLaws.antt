-- Each hop of a copy lowers what its injection's copies weigh.
use Rattle.std.proofs.Common.{◌≡◌, ◌⊎◌, inl, inr, ℕ, ◌+◌, ◌-◌, ◌*◌, ◌<◌, ◌≤◌, ◌==◌, List, length, map, sum_by, Option, Some, sym, ap, subst, arith, mul-le-mul_left}
use Rattle.std.specs.List.{AllByRecursion}
use Rattle.std.proofs.lemmas.Bool.{cond_both}
use Rattle.wire_base.specs.declared.bsl.Bsl.{Bsl}
use Rattle.wire_base.specs.declared.conf.RouterConf.{RouterConf}
use Rattle.wire_base.specs.declared.view.ViewNode.{ViewNode}
use Rattle.wire_base.specs.model.Control.{Control}
use Rattle.wire_base.specs.model.Hop.{Outcome, Local, Copy, Expired, NoRow, ids_of, hop}
use Rattle.wire_base.specs.model.Ingress.{IngressPacket, id_set, packets_for}
use Rattle.wire_base.specs.model.Item.{PacketItem, DataItem, Outer}
use Rattle.wire_base.specs.model.OnFrame.{node_place}
use Rattle.wire_base.specs.model.View.{control_view}
use Rattle.domain_model.specs.Moves.{Sending, Made, joined_made, entering_item, item_copied, outcome_made, outcomes_at, hop_made_at, hop_made, sent_onward, packet_taken, inject_made}
use Rattle.domain_model.proofs.EachLaws.{each_weaker}
use Rattle.laws_ledger.specs.Weights.{outer_left, weight, weight_in}
use Rattle.laws_ledger.proofs.SumLaws.{sum-map, sum-flat, sum-most, sum-times}
use Rattle.laws_ledger.proofs.OutcomeLaws.{IsOutcome, hop_are}
use Rattle.laws_ledger.proofs.CopyLaws.{IsNearWay, IsFarWay, IsCopySent, IsCopyLost, copied_is, IsOnwardSent, IsOnwardLost, onward_is}
use Rattle.laws_ledger.proofs.MadeLaws.{picks, own, Fate, Hops, GoesOn, Ends, fate_of}
use Rattle.laws_ledger.proofs.MeasureLaws.{AreIdsInOrder}
use Rattle.laws_ledger.proofs.GroupLaws.{how_many}

-- less of each of one or more
less_each : (l a b : ℕ) → 0 < l → a < b → l * a < l * b
less_each l a b some less =
    let e : l * (a + 1) ≤ l * b = mul-le-mul_left l (omega (arith, less)) in
    omega (arith, e, some)

-- a tunnel begins with an outer TTL of 255
way_outer : (r : RouterConf) (g : List ViewNode) (u sd y link : ℕ) (outer : Option Outer) → IsNearWay r g u y link outer ⊎ IsFarWay r g u sd y link outer → outer_left outer ≤ 255
way_outer r g u sd y link outer (inl n) = let e = ap outer_left n.outer_is in omega (arith, e)
way_outer r g u sd y link outer (inr f) = let e = ap outer_left f.outer_is in omega (arith, e)

module _ (n : ℕ) where
  abbrev pub sent_weight : List Sending → ℕ
  sent_weight sendings = sum_by (λ s. weight_in n s.item) sendings

  -- at most the weight of the item
  weight_most : (x : DataItem) (m : ℕ) → weight x ≤ m → weight_in n (PacketItem x) ≤ m
  weight_most x m h = cond_both (x.number == n) (weight x) 0 (λ w. w ≤ m) (λ e. h) (λ e. omega arith)

  joined_weight : (ms : List Made) → sent_weight (joined_made ms).sent ≡ sum_by (λ (m : Made). sent_weight m.sent) ms
  joined_weight ms = sum-flat (λ (s : Sending). weight_in n s.item) (λ (m : Made). m.sent) ms

  module _ (confs : List RouterConf) (a : ℕ) (r : RouterConf) (g : List ViewNode) (u : ℕ) (x : DataItem) (ttl : ℕ) where
    copied_most : (y : ℕ) (ks : List ℕ) (left : ℕ) → left + 1 ≡ ttl → sent_weight (item_copied confs a r g u x y ks left).sent ≤ length ks * (256 * ttl - 1)
    copied_most y ks left less = by (item_copied confs a r g u x y ks left) (copied_is confs a r g u x y ks left)
      where
        by : (m : Made) → IsCopySent confs a r g u x y ks left m ⊎ IsCopyLost a r g u x y ks m → sent_weight m.sent ≤ length ks * (256 * ttl - 1)
        by m (inl s) =
            let item : DataItem = record x { bift = s.way.bift; ids = ks; ttl = left; outer = s.way.outer } in
            let few = way_outer r g u x.triple.sd y s.way.link s.way.outer s.way.leads in
            let e : length ks * (256 * left + outer_left s.way.outer) ≤ length ks * (256 * ttl - 1) = mul-le-mul_left (length ks) (omega (arith, few, less)) in
            let one = weight_most item (length ks * (256 * ttl - 1)) e in
            subst (λ (z : Made). sent_weight z.sent ≤ length ks * (256 * ttl - 1)) (sym s.is) (omega (arith, one))
        by m (inr l) = subst (λ (z : Made). sent_weight z.sent ≤ length ks * (256 * ttl - 1)) (sym l.is) (omega arith)

    outcome_most : (o : Outcome) → IsOutcome (own confs a r g u x ttl) (picks confs a r g u x ttl) x.ids ttl o → sent_weight (outcome_made confs a r g u x o).sent ≤ length (ids_of o) * (256 * ttl - 1)
    outcome_most (Local id) h = omega arith
    outcome_most (Copy y ks left) h = copied_most y ks left h.less
    outcome_most (Expired ks) h = omega arith
    outcome_most (NoRow ks) h = omega arith

    pub hop_most : AreIdsInOrder x.ids → sent_weight (hop_made_at confs a r g u x ttl).sent ≤ length x.ids * (256 * ttl - 1)
    unfolding hop_made_at outcomes_at
    hop_most order =
        let own_is = own confs a r g u x ttl in
        let choose = picks confs a r g u x ttl in
        let os = hop own_is choose x.ids ttl in
        let most : Outcome → ℕ = λ o. length (ids_of o) * (256 * ttl - 1) in
        let a1 = joined_weight (map (outcome_made confs a r g u x) os) in
        let a2 = sum-map (λ (m : Made). sent_weight m.sent) (outcome_made confs a r g u x) os in
        let a3 = sum-most (λ o. sent_weight (outcome_made confs a r g u x o).sent) most os (each_weaker (IsOutcome own_is choose x.ids ttl) (λ o. sent_weight (outcome_made confs a r g u x o).sent ≤ most o) outcome_most os (hop_are own_is choose x.ids ttl)) in
        let a4 = sum-times (λ o. length (ids_of o)) (256 * ttl - 1) os in
        let parts = how_many in
        let a5 = ap (λ k. k * (256 * ttl - 1)) (parts.parts own_is choose x.ids ttl order) in
        omega (arith, a1, a2, a3, a4, a5)

  -- ---- a copy that comes to a router

  pub lively_weight : (x : DataItem) → 1 ≤ x.ttl → 0 < length x.ids → 0 < weight x
  lively_weight x lives some =
      let k = less_each (length x.ids) 0 (256 * x.ttl + outer_left x.outer) some (omega (arith, lives)) in
      omega (arith, k)

  pub taken_less : (confs : List RouterConf) (a : ℕ) (c : Control) (x : DataItem) → AreIdsInOrder x.ids → 1 ≤ x.ttl → 0 < length x.ids → sent_weight (packet_taken confs a c x x.outer).sent < weight x
  taken_less confs a c x order lives some = by (packet_taken confs a c x x.outer) (fate_of confs a c x)
    where
      hopped : sent_weight (hop_made confs a c x x.ttl).sent < weight x
      hopped =
          let most = hop_most confs a c.conf (control_view c) (node_place (control_view c) c.conf.system) x x.ttl order in
          let less = less_each (length x.ids) (256 * x.ttl - 1) (256 * x.ttl + outer_left x.outer) some (omega (arith, lives)) in
          omega (arith, most, less)

      onward : (o : Outer) → x.outer ≡ Some o → 1 < o.ttl → (m : Made) → IsOnwardSent confs a c.conf (control_view c) (node_place (control_view c) c.conf.system) x o m ⊎ IsOnwardLost a c.conf (control_view c) (node_place (control_view c) c.conf.system) x o m → sent_weight m.sent < weight x
      onward o e more m (inl s) =
          let item : DataItem = record x { outer = Some (record o { ttl = o.ttl - 1 }) } in
          let outer = ap outer_left e in
          let less = less_each (length x.ids) (256 * x.ttl + (o.ttl - 1)) (256 * x.ttl + outer_left x.outer) some (omega (arith, outer, more)) in
          let one = weight_most item (weight item) (omega arith) in
          subst (λ (z : Made). sent_weight z.sent < weight x) (sym s.is) (omega (arith, one, less))
      onward o e more m (inr l) = subst (λ (z : Made). sent_weight z.sent < weight x) (sym l.is) (lively_weight x lives some)

      by : (m : Made) → Fate confs a c x m → sent_weight m.sent < weight x
      by m (Hops ends is) = subst (λ (z : Made). sent_weight z.sent < weight x) (sym is) hopped
      by m (GoesOn o e on more is) =
          subst (λ (z : Made). sent_weight z.sent < weight x) (sym is)
          (onward o e more (sent_onward confs a c.conf (control_view c) (node_place (control_view c) c.conf.system) x o) (onward_is confs a c.conf (control_view c) (node_place (control_view c) c.conf.system) x o))
      by m (Ends o e on few is) = subst (λ (z : Made). sent_weight z.sent < weight x) (sym is) (lively_weight x lives some)

  -- ---- the packets of an injection

  pub inject_most : (confs : List RouterConf) (a : ℕ) (c : Control) (number sd : ℕ) (bsl : Bsl) (ks : List ℕ) (ttl entropy : ℕ) (payload : List ℕ) → AreIdsInOrder (id_set ks) → AllByRecursion (λ (p : IngressPacket). AreIdsInOrder p.ids) (packets_for sd bsl ks)
      → sent_weight (inject_made confs a c number sd bsl ks ttl entropy payload).sent ≤ length (id_set ks) * (256 * ttl + 255)
  unfolding inject_made
  inject_most confs a c number sd bsl ks ttl entropy payload whole orders =
      let packets = packets_for sd bsl ks in
      let item : IngressPacket → DataItem = λ p. entering_item c.conf number ttl entropy payload p in
      let enter : IngressPacket → Made = λ p. hop_made confs a c (item p) (ttl + 1) in
      let most : IngressPacket → ℕ = λ p. length p.ids * (256 * (ttl + 1) - 1) in
      let a1 = joined_weight (map enter packets) in
      let a2 = sum-map (λ (m : Made). sent_weight m.sent) enter packets in
      let a3 = sum-most (λ p. sent_weight (enter p).sent) most packets (each_weaker (λ (p : IngressPacket). AreIdsInOrder p.ids) (λ p. sent_weight (enter p).sent ≤ most p) (λ p order. hop_most confs a c.conf (control_view c) (node_place (control_view c) c.conf.system) (item p) (ttl + 1) order) packets orders) in
      let a4 = sum-times (λ (p : IngressPacket). length p.ids) (256 * (ttl + 1) - 1) packets in
      let measure = how_many in
      let a5 = ap (λ k. k * (256 * (ttl + 1) - 1)) (measure.packets sd bsl ks whole) in
      let a6 : length (id_set ks) * (256 * (ttl + 1) - 1) ≡ length (id_set ks) * (256 * ttl + 255) = ap (λ k. length (id_set ks) * k) (omega arith) in
      omega (arith, a1, a2, a3, a4, a5, a6)
