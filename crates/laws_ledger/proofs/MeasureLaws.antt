-- What is counted of a packet's BFR-ids when it comes to a router stands in its copies, deliveries and drops.
--
-- Ids are counted by a measure: whether one id is among them, or how many they are. It has to add up over the outcomes of a
-- hop; so one proof gives the ledger of an id and the sum over all.
use Rattle.std.proofs.Common.{◌≡◌, ◌⊎◌, inl, inr, ℕ, ◌+◌, ◌&&◌, nat_le, not, Bool, if◌then◌else◌, List, [], ◌∷◌, map, sum_by, is_some, Option, Some, None, refl, sym, ap, subst, ◌∙◌, arith}
use Rattle.std.specs.List.{AllByRecursion}
use Rattle.std.specs.Str.{bytes_eq}
use Rattle.std.proofs.lemmas.Bool.{cond_both, le-leb}
use Rattle.wire_base.specs.declared.bsl.Bsl.{Bsl}
use Rattle.wire_base.specs.declared.cause.Cause.{Cause}
use Rattle.wire_base.specs.declared.cause.Cause.TheVariants as cause
use Rattle.wire_base.specs.declared.conf.RouterConf.{RouterConf}
use Rattle.wire_base.specs.declared.view.ViewNode.{ViewNode}
use Rattle.wire_base.specs.model.BitSet.{IsWithin}
use Rattle.wire_base.specs.model.Control.{Control}
use Rattle.wire_base.specs.model.Hop.{Outcome, Local, Copy, Expired, NoRow, ids_of, is_this, hop}
use Rattle.wire_base.specs.model.Ingress.{IngressPacket, id_set, packets_for}
use Rattle.wire_base.specs.model.Item.{Item, ControlItem, PacketItem, DataItem, Outer}
use Rattle.wire_base.specs.model.OnFrame.{choice_of, node_place}
use Rattle.wire_base.specs.model.Place.{own_id}
use Rattle.wire_base.specs.model.View.{control_view}
use Rattle.wire_base.proofs.SetLaws.{within-filter}
use Rattle.domain_model.specs.declared.lines.GotLine.{GotLine}
use Rattle.domain_model.specs.declared.lines.DropLine.{DropLine}
use Rattle.domain_model.specs.Moves.{Sending, Made, joined_made, listed, packet_lost, packet_of, item_lost, item_copied, entering_item, outcome_made, outcomes_at, hop_made_at, hop_made, sent_onward, passes_through, packet_taken, inject_made}
use Rattle.domain_model.proofs.EachLaws.{each_weaker}
use Rattle.laws_ledger.proofs.SumLaws.{sum-map, sum-flat, sum-same, sum-both, sum-where}
use Rattle.laws_ledger.proofs.OutcomeLaws.{others, IsEnded, IsOutcome, hop_are}
use Rattle.laws_ledger.proofs.CopyLaws.{one_sent, IsCopySent, IsCopyLost, copied_is, IsOnwardSent, IsOnwardLost, onward_is}

-- ascending BFR-ids, of 16 bits
abbrev pub AreIdsInOrder : List ℕ → Type 0
AreIdsInOrder ks = IsWithin 0 65535 ks

-- all such ids are listed
listed_from : (low : ℕ) (ks : List ℕ) → IsWithin low 65535 ks → listed ks ≡ ks
listed_from low [] h = refl
listed_from low (k ∷ ks) h = rw (le-leb k 65535 h.1) (ap (λ (l : List ℕ). k ∷ l) (listed_from k ks h.2))

pub record IsMeasure (size : List ℕ → ℕ) : Type 0 where
  pub none : size [] ≡ 0
  pub parts : (own : Option ℕ) (choose : ℕ → Option ℕ) (ids : List ℕ) (ttl : ℕ) → AreIdsInOrder ids → sum_by (λ o. size (ids_of o)) (hop own choose ids ttl) ≡ size ids
  pub packets : (sd : ℕ) (bsl : Bsl) (ks : List ℕ) → AreIdsInOrder (id_set ks) → sum_by (λ (p : IngressPacket). size p.ids) (packets_for sd bsl ks) ≡ size (id_set ks)

module _ (t : ℕ → Bool) (size : List ℕ → ℕ) where
  -- what is counted of ids in an injection with that number
  abbrev pub share : ℕ → List ℕ → ℕ
  share n ks = if t n then size ks else 0

  abbrev pub in_item : Item → ℕ
  in_item (ControlItem p) = 0
  in_item (PacketItem x) = share x.number x.ids

  abbrev pub in_got : GotLine → ℕ
  in_got g = share g.injection (g.id ∷ [])

  abbrev pub share_of : Option ℕ → List ℕ → ℕ
  share_of None ks = 0
  share_of (Some n) ks = share n ks

  abbrev pub in_drop : DropLine → ℕ
  in_drop d = share_of d.injection d.ids

  abbrev pub in_sent : List Sending → ℕ
  in_sent sendings = sum_by (λ s. in_item s.item) sendings

  -- in all that is made
  abbrev pub in_made : Made → ℕ
  in_made m = in_sent m.sent + (sum_by in_got m.got + sum_by in_drop m.drops)

  joined-count : (ms : List Made) → in_made (joined_made ms) ≡ sum_by in_made ms
  joined-count ms =
      let a = sum-flat (λ (s : Sending). in_item s.item) (λ (m : Made). m.sent) ms in
      let b = sum-flat in_got (λ (m : Made). m.got) ms in
      let c = sum-flat in_drop (λ (m : Made). m.drops) ms in
      let d = sum-both (λ (m : Made). sum_by in_got m.got) (λ (m : Made). sum_by in_drop m.drops) ms in
      let e = sum-both (λ (m : Made). in_sent m.sent) (λ (m : Made). sum_by in_got m.got + sum_by in_drop m.drops) ms in
      omega (arith, a, b, c, d, e)

  lost-count : (a : ℕ) (x : DataItem) (why : Cause) (ks : List ℕ) → AreIdsInOrder ks → in_made (packet_lost a x why ks) ≡ share x.number ks
  lost-count a x why ks h = let e = ap (share x.number) (listed_from 0 ks h) in omega (arith, e)

  sent-count : (confs : List RouterConf) (a link : ℕ) (x : DataItem) → in_made (one_sent confs a link x) ≡ share x.number x.ids
  sent-count confs a link x = omega arith

  pub item_lost-count : (a : ℕ) (why : Cause) (x : DataItem) → AreIdsInOrder x.ids → in_made (item_lost a why (PacketItem x)) ≡ share x.number x.ids
  item_lost-count a why x h = lost-count a x why x.ids h

  module _ (measure : IsMeasure size) (confs : List RouterConf) (a : ℕ) (r : RouterConf) (g : List ViewNode) (u : ℕ) (x : DataItem) (order : AreIdsInOrder x.ids) where
    abbrev choose : ℕ → Option ℕ
    choose = choice_of r g u (packet_of x)

    abbrev own : Option ℕ
    own = own_id r x.triple.sd

    rest_order : AreIdsInOrder (others own x.ids)
    rest_order = within-filter 0 65535 (λ k. not (is_this own k)) x.ids order

    copied-count : (y : ℕ) (ks : List ℕ) (ttl : ℕ) → AreIdsInOrder ks → in_made (item_copied confs a r g u x y ks ttl) ≡ share x.number ks
    copied-count y ks ttl h = by (copied_is confs a r g u x y ks ttl)
      where
        by : IsCopySent confs a r g u x y ks ttl (item_copied confs a r g u x y ks ttl) ⊎ IsCopyLost a r g u x y ks (item_copied confs a r g u x y ks ttl) → in_made (item_copied confs a r g u x y ks ttl) ≡ share x.number ks
        by (inl s) = ap in_made s.is ∙ sent-count confs a s.way.link (record x { bift = s.way.bift; ids = ks; ttl = ttl; outer = s.way.outer })
        by (inr l) = ap in_made l.is ∙ lost-count a x cause.NoRow ks h

    ended_order : (ttl : ℕ) (ks : List ℕ) → IsEnded own choose x.ids ttl ks → AreIdsInOrder ks
    ended_order ttl ks (inl h) = subst AreIdsInOrder (sym h.1) order
    ended_order ttl ks (inr h) = subst AreIdsInOrder (sym h.1) (within-filter 0 65535 (λ k. is_some (choose k)) (others own x.ids) rest_order)

    outcome-count : (ttl : ℕ) (o : Outcome) → IsOutcome own choose x.ids ttl o → in_made (outcome_made confs a r g u x o) ≡ share x.number (ids_of o)
    outcome-count ttl (Local id) h = omega arith
    outcome-count ttl (Copy y ks left) h = copied-count y ks left (subst AreIdsInOrder (sym h.those) (within-filter 0 65535 (λ k. is_this (choose k) y) (others own x.ids) rest_order))
    outcome-count ttl (Expired ks) h = lost-count a x cause.Ttl ks (ended_order ttl ks h)
    outcome-count ttl (NoRow ks) h = lost-count a x cause.NoRow ks (subst AreIdsInOrder (sym h) (within-filter 0 65535 (λ k. not (is_some (choose k)) && not (is_this own k)) x.ids order))

    pub hop-count : (ttl : ℕ) → in_made (hop_made_at confs a r g u x ttl) ≡ share x.number x.ids
    unfolding hop_made_at outcomes_at
    hop-count ttl =
        let os = hop own choose x.ids ttl in
        joined-count (map (outcome_made confs a r g u x) os)
        ∙ sum-map in_made (outcome_made confs a r g u x) os
        ∙ sum-same (λ o. in_made (outcome_made confs a r g u x o)) (λ o. share x.number (ids_of o)) os (each_weaker (IsOutcome own choose x.ids ttl) (λ o. in_made (outcome_made confs a r g u x o) ≡ share x.number (ids_of o)) (outcome-count ttl) os (hop_are own choose x.ids ttl))
        ∙ sum-where (t x.number) (λ o. size (ids_of o)) os
        ∙ ap (λ (n : ℕ). if t x.number then n else 0) (measure.parts own choose x.ids ttl order)

    onward-count : (o : Outer) → in_made (sent_onward confs a r g u x o) ≡ share x.number x.ids
    onward-count o = by (onward_is confs a r g u x o)
      where
        by : IsOnwardSent confs a r g u x o (sent_onward confs a r g u x o) ⊎ IsOnwardLost a r g u x o (sent_onward confs a r g u x o) → in_made (sent_onward confs a r g u x o) ≡ share x.number x.ids
        by (inl s) = ap in_made s.is ∙ omega arith
        by (inr l) = ap in_made l.is ∙ lost-count a x cause.Route x.ids order

  module _ (measure : IsMeasure size) (confs : List RouterConf) (a : ℕ) (c : Control) (x : DataItem) (order : AreIdsInOrder x.ids) where
    abbrev Counts : Made → Type 0
    Counts m = in_made m ≡ share x.number x.ids

    here-count : (ttl : ℕ) → Counts (hop_made confs a c x ttl)
    here-count ttl = hop-count measure confs a c.conf (control_view c) (node_place (control_view c) c.conf.system) x order ttl

    through-count : (o : Outer) → Counts (passes_through confs a c x o)
    through-count o =
        let g = control_view c in
        let u = node_place g c.conf.system in
        cond_both (nat_le o.ttl 1) (packet_lost a x cause.Outer x.ids) (sent_onward confs a c.conf g u x o) Counts
        (λ ended. lost-count a x cause.Outer x.ids order) (λ more. onward-count measure confs a c.conf g u x order o)

    pub taken-count : (outer : Option Outer) → Counts (packet_taken confs a c x outer)
    taken-count None = here-count x.ttl
    taken-count (Some o) = cond_both (bytes_eq o.dst.0 c.conf.prefix.0) (hop_made confs a c x x.ttl) (passes_through confs a c x o) Counts (λ here. here-count x.ttl) (λ on. through-count o)

  -- the packets of an injection
  pub inject-count : IsMeasure size → (confs : List RouterConf) (a : ℕ) (c : Control) (number sd : ℕ) (bsl : Bsl) (ks : List ℕ) (ttl entropy : ℕ) (payload : List ℕ) → AreIdsInOrder (id_set ks) → AllByRecursion (λ (p : IngressPacket). AreIdsInOrder p.ids) (packets_for sd bsl ks)
      → in_made (inject_made confs a c number sd bsl ks ttl entropy payload) ≡ share number (id_set ks)
  unfolding inject_made
  inject-count measure confs a c number sd bsl ks ttl entropy payload whole orders =
      let packets = packets_for sd bsl ks in
      let item : IngressPacket → DataItem = λ p. entering_item c.conf number ttl entropy payload p in
      let enter : IngressPacket → Made = λ p. hop_made confs a c (item p) (ttl + 1) in
      joined-count (map enter packets)
      ∙ sum-map in_made enter packets
      ∙ sum-same (λ p. in_made (enter p)) (λ p. share number p.ids) packets (each_weaker (λ (p : IngressPacket). AreIdsInOrder p.ids) (λ p. in_made (enter p) ≡ share number p.ids) (λ p order. here-count measure confs a c (item p) order (ttl + 1)) packets orders)
      ∙ sum-where (t number) (λ p. size p.ids) packets
      ∙ ap (λ (n : ℕ). if t number then n else 0) (measure.packets sd bsl ks whole)
