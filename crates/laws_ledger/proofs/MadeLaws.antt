-- What a hop sends, delivers and drops, one by one; and what becomes of a copy that comes to a router.
use Rattle.std.proofs.Common.{◌≡◌, ◌⊎◌, inl, inr, ℕ, ◌<◌, ◌≤◌, ◌&&◌, nat_le, not, Bool, true, false, if◌then◌else◌, List, map, filter, is_some, Option, Some, None, refl, sym, subst}
use Rattle.std.specs.List.{AllByRecursion}
use Rattle.std.specs.Str.{bytes_eq}
use Rattle.std.proofs.lemmas.Bool.{leb-true, leb-false}
use Rattle.wire_base.specs.declared.cause.Cause.{Cause}
use Rattle.wire_base.specs.declared.cause.Cause.TheVariants as cause
use Rattle.wire_base.specs.declared.conf.RouterConf.{RouterConf}
use Rattle.wire_base.specs.declared.view.ViewNode.{ViewNode}
use Rattle.wire_base.specs.model.Control.{Control}
use Rattle.wire_base.specs.model.Hop.{Outcome, Local, Copy, Expired, NoRow, has, is_this, hop}
use Rattle.wire_base.specs.model.Item.{PacketItem, DataItem, Outer}
use Rattle.wire_base.specs.model.OnFrame.{choice_of, node_place}
use Rattle.wire_base.specs.model.Place.{own_id}
use Rattle.wire_base.specs.model.View.{control_view}
use Rattle.domain_model.specs.declared.lines.GotLine.{GotLine}
use Rattle.domain_model.specs.declared.lines.DropLine.{DropLine}
use Rattle.domain_model.specs.Moves.{Sending, Made, over_end, listed, packet_lost, packet_of, item_copied, outcome_made, outcomes_at, hop_made_at, hop_made, sent_onward, passes_through, packet_taken}
use Rattle.domain_model.proofs.EachLaws.{each_weaker, each_mapped, each_flat}
use Rattle.laws_ledger.proofs.OutcomeLaws.{IsGroup, IsEnded, IsOutcome, hop_are}
use Rattle.laws_ledger.proofs.CopyLaws.{HasWay, IsCopySent, IsCopyLost, copied_is}

module _ (confs : List RouterConf) (a : ℕ) (r : RouterConf) (g : List ViewNode) (u : ℕ) (x : DataItem) (ttl : ℕ) where
  abbrev pub picks : ℕ → Option ℕ
  picks = choice_of r g u (packet_of x)

  abbrev pub own : Option ℕ
  own = own_id r x.triple.sd

  -- a copy to a node y, for the ids for which it is chosen
  pub record IsHopSent (s : Sending) : Type 0 where
    pub node : ℕ
    pub ids : List ℕ
    pub left : ℕ
    pub group : IsGroup own picks x.ids ttl node ids left
    pub way : HasWay r g u x.triple node
    pub is : s ≡ over_end confs a way.link (PacketItem (record x { bift = way.bift; ids = ids; ttl = left; outer = way.outer }))

  -- a delivery, for the router's own id
  pub record IsHopGot (l : GotLine) : Type 0 where
    pub id : ℕ
    pub owns : own ≡ Some id
    pub named : has x.ids id ≡ true
    pub is : l ≡ record { router = a; injection = x.number; id = id; payload = x.payload }

  pub record IsGroupLost (ks : List ℕ) : Type 0 where
    pub node : ℕ
    pub left : ℕ
    pub group : IsGroup own picks x.ids ttl node ks left
    pub none : HasWay r g u x.triple node → ⊥

  -- a drop: the TTL ended, no node is chosen, or no way leads to the node
  pub record IsHopDrop (l : DropLine) : Type 0 where
    pub why : Cause
    pub ids : List ℕ
    pub is : l ≡ record { router = a; injection = Some x.number; cause = why; ids = listed ids }
    pub reason : IsEnded own picks x.ids ttl ids ⊎ ((ids ≡ filter (λ k. not (is_some (picks k)) && not (is_this own k)) x.ids) ⊎ IsGroupLost ids)

  pub record IsHopMade (m : Made) : Type 0 where
    pub sent : AllByRecursion IsHopSent m.sent
    pub got : AllByRecursion IsHopGot m.got
    pub drops : AllByRecursion IsHopDrop m.drops

  copy_made : (y : ℕ) (ks : List ℕ) (left : ℕ) → IsGroup own picks x.ids ttl y ks left → IsHopMade (item_copied confs a r g u x y ks left)
  copy_made y ks left group = by (copied_is confs a r g u x y ks left)
    where
      by : IsCopySent confs a r g u x y ks left (item_copied confs a r g u x y ks left) ⊎ IsCopyLost a r g u x y ks (item_copied confs a r g u x y ks left) → IsHopMade (item_copied confs a r g u x y ks left)
      by (inl s) = subst IsHopMade (sym s.is) (record { sent = (record { node = y; ids = ks; left = left; group = group; way = s.way; is = refl }, tt); got = tt; drops = tt })
      by (inr l) =
          subst IsHopMade (sym l.is)
          (record { sent = tt; got = tt; drops = (record { why = cause.NoRow; ids = ks; is = refl; reason = inr (inr (record { node = y; left = left; group = group; none = l.none })) }, tt) })

  outcome_made_is : (o : Outcome) → IsOutcome own picks x.ids ttl o → IsHopMade (outcome_made confs a r g u x o)
  outcome_made_is (Local id) h = record { sent = tt; got = (record { id = id; owns = h.0; named = h.1; is = refl }, tt); drops = tt }
  outcome_made_is (Copy y ks left) h = copy_made y ks left h
  outcome_made_is (Expired ks) h = record { sent = tt; got = tt; drops = (record { why = cause.Ttl; ids = ks; is = refl; reason = inl h }, tt) }
  outcome_made_is (NoRow ks) h = record { sent = tt; got = tt; drops = (record { why = cause.NoRow; ids = ks; is = refl; reason = inr (inl h) }, tt) }

  pub hop_made_is : IsHopMade (hop_made_at confs a r g u x ttl)
  unfolding hop_made_at outcomes_at
  hop_made_is =
      let os = hop own picks x.ids ttl in
      let each = each_mapped IsHopMade (outcome_made confs a r g u x) os (each_weaker (IsOutcome own picks x.ids ttl) (λ o. IsHopMade (outcome_made confs a r g u x o)) outcome_made_is os (hop_are own picks x.ids ttl)) in
      let ms = map (outcome_made confs a r g u x) os in
      record {
        sent = each_flat IsHopSent (λ (m : Made). m.sent) ms (each_weaker IsHopMade (λ m. AllByRecursion IsHopSent m.sent) (λ m h. h.sent) ms each);
        got = each_flat IsHopGot (λ (m : Made). m.got) ms (each_weaker IsHopMade (λ m. AllByRecursion IsHopGot m.got) (λ m h. h.got) ms each);
        drops = each_flat IsHopDrop (λ (m : Made). m.drops) ms (each_weaker IsHopMade (λ m. AllByRecursion IsHopDrop m.drops) (λ m h. h.drops) ms each);
      }

-- ---- a copy that comes to a router

-- no tunnel, or one that ends here
abbrev pub EndsHere : Control → Option Outer → Type 0
EndsHere c None = Unit {0}
EndsHere c (Some o) = bytes_eq o.dst.0 c.conf.prefix.0 ≡ true

-- It is hopped; or its tunnel goes on; or the tunnel's time to live has ended.
pub data Fate (confs : List RouterConf) (a : ℕ) (c : Control) (x : DataItem) (m : Made) : Type 0 where
  Hops : EndsHere c x.outer → m ≡ hop_made confs a c x x.ttl → Fate confs a c x m
  GoesOn : (o : Outer) → x.outer ≡ Some o → bytes_eq o.dst.0 c.conf.prefix.0 ≡ false → 1 < o.ttl → m ≡ sent_onward confs a c.conf (control_view c) (node_place (control_view c) c.conf.system) x o → Fate confs a c x m
  Ends : (o : Outer) → x.outer ≡ Some o → bytes_eq o.dst.0 c.conf.prefix.0 ≡ false → o.ttl ≤ 1 → m ≡ packet_lost a x cause.Outer x.ids → Fate confs a c x m

pub fate_of : (confs : List RouterConf) (a : ℕ) (c : Control) (x : DataItem) → Fate confs a c x (packet_taken confs a c x x.outer)
fate_of confs a c x = by x.outer refl
  where
    far : (o : Outer) → x.outer ≡ Some o → bytes_eq o.dst.0 c.conf.prefix.0 ≡ false → (b : Bool) → nat_le o.ttl 1 ≡ b
        → Fate confs a c x (if b then packet_lost a x cause.Outer x.ids else sent_onward confs a c.conf (control_view c) (node_place (control_view c) c.conf.system) x o)
    far o e on true h = Ends o e on (leb-true o.ttl 1 h) refl
    far o e on false h = GoesOn o e on (leb-false o.ttl 1 h) refl

    at : (o : Outer) → x.outer ≡ Some o → (b : Bool) → bytes_eq o.dst.0 c.conf.prefix.0 ≡ b → Fate confs a c x (if b then hop_made confs a c x x.ttl else passes_through confs a c x o)
    at o e true h = Hops (subst (EndsHere c) (sym e) h) refl
    at o e false h = far o e h (nat_le o.ttl 1) refl

    by : (o : Option Outer) → x.outer ≡ o → Fate confs a c x (packet_taken confs a c x o)
    by None e = Hops (subst (EndsHere c) (sym e) tt) refl
    by (Some o) e = at o e (bytes_eq o.dst.0 c.conf.prefix.0) refl
