-- The hop of a packet on octets is the hop of its item, and so it is where its tunnel goes on: the same copies, deliveries
-- and drops.
use Rattle.std.proofs.Common.{◌≡◌, ℕ, zero, suc, ◌+◌, ◌-◌, ◌*◌, ◌&&◌, not, nat_le, Bool, true, false, if◌then◌else◌, List, [], ◌∷◌, ◌++◌, map, filter, is_some, slice_get, Option, Some, None, option_map, option_and_then, refl, sym, ap, subst, ◌∙◌, arith}
use Rattle.std.specs.List.{AllByRecursion, flat_map, filter_map}
use Rattle.std.proofs.lemmas.List.{map-append}
use Rattle.std.proofs.lemmas.List.Concat.{flat_map-cons}
use Rattle.wire_base.specs.declared.addresses.Ipv4.{Ipv4}
use Rattle.wire_base.specs.declared.cause.Cause.{Cause}
use Rattle.wire_base.specs.declared.cause.Cause.TheVariants as cause
use Rattle.wire_base.specs.declared.conf.End.{End}
use Rattle.wire_base.specs.declared.conf.RouterConf.{RouterConf}
use Rattle.wire_base.specs.declared.view.ViewNode.{ViewNode}
use Rattle.wire_base.specs.model.Choice.{is_direct}
use Rattle.wire_base.specs.model.Control.{Control}
use Rattle.wire_base.specs.model.Hop.{Outcome, Local, Copy, Expired, NoRow, has, distinct, is_this, unless_empty, forward, local, hop}
use Rattle.wire_base.specs.model.Item.{PacketItem, DataItem, Outer, ingress_header, bier_frame, ip_frame, item_tunnel, frame_of}
use Rattle.wire_base.specs.model.OnFrame.{Effects, one_sent, one_drop, dropped, joined, node_place, link_to, next_link, bift_at, prefix_of, ids_in, positions_in, copy_of, sent_on, direct_copy, outer_ttl, tunnel_for, tunnel_copy, copy_sent, or_drop, copied, outcome_done, choice_of, hop_at, node_with, or_no_route, forwarded, in_transit}
use Rattle.wire_base.specs.model.Place.{bits_of, own_id}
use Rattle.wire_base.specs.model.Tunnel.{tunnel, tunnel_on}
use Rattle.wire_base.specs.model.View.{control_view}
use Rattle.wire_base.proofs.SetLaws.{within-filter}
use Rattle.laws_item.specs.Fits.{OuterFits}
use Rattle.laws_item.proofs.PacketFrames.{ids_back, onward}
use Rattle.domain_model.specs.Moves as moves
use Rattle.domain_model.specs.Moves.{Sending, Made, none_made, joined_made, over_end, packet_lost, packet_of, copy_over, copied_directly, copied_in_tunnel, copied_to, or_lost, item_copied, outcome_made, outcomes_at, hop_made_at, sent_onward, passes_through}
use Rattle.domain_model.specs.Truth.{AreOfSet}
use Rattle.frames_in_flight.specs.Framed.{sent_of, got_line, drop_line}
use Rattle.domain_model.proofs.EachLaws.{each_from, each_weaker, each_joined, each_mapped, each_flat}
use Rattle.domain_model.proofs.HopTruth.{GoesDown}
use Rattle.domain_core.proofs.FramedBack.{IsAt, over_at}

-- ---- the parts of a packet

-- what is forwarded or dropped has a part of the packet's ids
abbrev IsPart : (List ℕ → Type 0) → Outcome → Type 0
IsPart P (Local id) = Unit {0}
IsPart P (Copy y ks ttl) = P ks
IsPart P (Expired ks) = P ks
IsPart P (NoRow ks) = P ks

module _ (choose : ℕ → Option ℕ) (P : List ℕ → Type 0) (down : GoesDown P) where
  expired_part : (ks : List ℕ) → P ks → AllByRecursion (IsPart P) (unless_empty Expired ks)
  expired_part [] h = tt
  expired_part (k ∷ ks) h = (h, tt)

  no_row_part : (ks : List ℕ) → P ks → AllByRecursion (IsPart P) (unless_empty NoRow ks)
  no_row_part [] h = tt
  no_row_part (k ∷ ks) h = (h, tt)

  forward_part : (ttl : ℕ) (ks : List ℕ) → P ks → AllByRecursion (IsPart P) (forward choose ks ttl)
  forward_part zero ks h = expired_part (filter (λ k. is_some (choose k)) ks) (down (λ k. is_some (choose k)) ks h)
  forward_part (suc ttl) ks h =
      each_mapped (IsPart P) (λ y. Copy y (filter (λ k. is_this (choose k) y) ks) (suc ttl)) (distinct (filter_map choose ks))
      (each_from (λ y. P (filter (λ k. is_this (choose k) y) ks)) (λ y. down (λ k. is_this (choose k) y) ks h) (distinct (filter_map choose ks)))

  local_part : (own : Option ℕ) (ks : List ℕ) → AllByRecursion (IsPart P) (local own ks)
  local_part None ks = tt
  local_part (Some o) ks = by (has ks o)
    where
      by : (b : Bool) → AllByRecursion (IsPart P) (if b then Local o ∷ [] else [])
      by true = (tt, tt)
      by false = tt

  hop_part : (own : Option ℕ) (ks : List ℕ) (ttl : ℕ) → P ks → AllByRecursion (IsPart P) (hop own choose ks ttl)
  unfolding hop
  hop_part own ks zero h = expired_part ks h
  hop_part own ks (suc ttl) h =
      let on = filter (λ k. not (is_this own k)) ks in
      let lost = filter (λ k. not (is_some (choose k)) && not (is_this own k)) ks in
      each_joined (IsPart P) (local own ks ++ forward choose on ttl) (unless_empty NoRow lost)
      (each_joined (IsPart P) (local own ks) (forward choose on ttl) (local_part own ks) (forward_part ttl on (down (λ k. not (is_this own k)) ks h)))
      (no_row_part lost (down (λ k. not (is_some (choose k)) && not (is_this own k)) ks h))

-- ---- octets and items side by side

-- a copy of an injection that goes over an end of the router
pub record IsCopyOver (confs : List RouterConf) (a : ℕ) (r : RouterConf) (number : ℕ) (s : Sending) : Type 0 where
  pub end : End
  pub there : slice_get r.ends s.link ≡ Some end
  pub copy : DataItem
  pub is : s ≡ over_end confs a s.link (PacketItem copy)
  pub number_is : copy.number ≡ number

-- the same is sent, delivered and dropped, where a packet with those ids was taken
pub record IsSame (confs : List RouterConf) (a : ℕ) (r : RouterConf) (number : ℕ) (whole : List ℕ) (e : Effects) (m : Made) : Type 0 where
  pub sent : e.sent ≡ map (sent_of confs) m.sent
  pub copies : AllByRecursion (IsCopyOver confs a r number) m.sent
  pub got : m.got ≡ map (got_line a (Some number)) e.got
  pub drops : m.drops ≡ map (drop_line a (Some number) whole) e.drops

flat_both : {X E M A B : Type 0} (h : B → A) (p : E → List A) (q : M → List B) (f : X → E) (g : X → M) (xs : List X) → AllByRecursion (λ x. p (f x) ≡ map h (q (g x))) xs → flat_map p (map f xs) ≡ map h (flat_map q (map g xs))
flat_both h p q f g [] all = refl
flat_both {X} {E} {M} {A} {B} h p q f g (x ∷ xs) all =
    flat_map-cons p (f x) (map f xs)
    ∙ ap (λ (l : List A). l ++ flat_map p (map f xs)) all.0
    ∙ ap (λ (l : List A). map h (q (g x)) ++ l) (flat_both h p q f g xs all.1)
    ∙ sym (map-append h (q (g x)) (flat_map q (map g xs)))
    ∙ ap (map h) (sym (flat_map-cons q (g x) (map g xs)))

pub joined_same : (confs : List RouterConf) (a : ℕ) (r : RouterConf) (number : ℕ) (whole : List ℕ) {X : Type 0} (f : X → Effects) (g : X → Made) (xs : List X) → AllByRecursion (λ x. IsSame confs a r number whole (f x) (g x)) xs → IsSame confs a r number whole (joined (map f xs)) (joined_made (map g xs))
joined_same confs a r number whole {X} f g xs all = record {
  sent = flat_both (sent_of confs) (λ (e : Effects). e.sent) (λ (m : Made). m.sent) f g xs (each_weaker (λ x. IsSame confs a r number whole (f x) (g x)) (λ x. (f x).sent ≡ map (sent_of confs) (g x).sent) (λ x k. k.sent) xs all);
  copies = each_flat (IsCopyOver confs a r number) (λ (m : Made). m.sent) (map g xs)
      (each_mapped (λ m. AllByRecursion (IsCopyOver confs a r number) m.sent) g xs (each_weaker (λ x. IsSame confs a r number whole (f x) (g x)) (λ x. AllByRecursion (IsCopyOver confs a r number) (g x).sent) (λ x k. k.copies) xs all));
  got = flat_both (got_line a (Some number)) (λ (m : Made). m.got) (λ (e : Effects). e.got) g f xs (each_weaker (λ x. IsSame confs a r number whole (f x) (g x)) (λ x. (g x).got ≡ map (got_line a (Some number)) (f x).got) (λ x k. k.got) xs all);
  drops = flat_both (drop_line a (Some number) whole) (λ (m : Made). m.drops) (λ (e : Effects). e.drops) g f xs (each_weaker (λ x. IsSame confs a r number whole (f x) (g x)) (λ x. (g x).drops ≡ map (drop_line a (Some number) whole) (f x).drops) (λ x k. k.drops) xs all);
}

-- both, or neither
abbrev BothOr : (Effects → Made → Type 0) → Option Effects → Option Made → Type 0
BothOr P None None = Unit {0}
BothOr P None (Some m) = ⊥
BothOr P (Some e) None = ⊥
BothOr P (Some e) (Some m) = P e m

both_if : (P : Effects → Made → Type 0) (b : Bool) (e f : Option Effects) (m n : Option Made) → BothOr P e m → BothOr P f n → BothOr P (if b then e else f) (if b then m else n)
both_if P true e f m n h k = h
both_if P false e f m n h k = k

-- ---- a hop

module _ (confs : List RouterConf) (a : ℕ) (r : RouterConf) (at : IsAt confs a r) (g : List ViewNode) (u : ℕ) (x : DataItem) (whole : List ℕ) where
  abbrev Same : Effects → Made → Type 0
  Same e m = IsSame confs a r x.number whole e m

  over_same : (o : Option ℕ) (y : DataItem) (frame : End → List ℕ) → y.number ≡ x.number → ((e : End) → frame e ≡ frame_of r.level e (PacketItem y)) → BothOr Same (sent_on r o frame) (copy_over confs a r o y)
  over_same None y frame n f = tt
  over_same (Some link) y frame n f = by (slice_get r.ends link) refl
    where
      by : (q : Option End) → slice_get r.ends link ≡ q → BothOr Same (option_map (λ e. one_sent link (frame e)) q) (option_map (λ e. record none_made { sent = over_end confs a link (PacketItem y) ∷ [] }) q)
      by None there = tt
      by (Some e) there = record {
        sent = ap (λ (octets : List ℕ). (one_sent link octets).sent) (f e ∙ sym (over_at confs a r link e (PacketItem y) at there));
        copies = (record { end = e; there = there; copy = y; is = refl; number_is = n }, tt);
        got = refl;
        drops = refl;
      }

  direct_same : (bift : ℕ) (ks : List ℕ) (ttl y : ℕ) → BothOr Same (direct_copy r g (packet_of x) y (copy_of (packet_of x) bift ks ttl)) (copied_directly confs a r g (record x { bift = bift; ids = ks; ttl = ttl }) y)
  unfolding frame_of ingress_header
  direct_same bift ks ttl y =
      over_same (link_to r g y) (record x { bift = bift; ids = ks; ttl = ttl; outer = None }) (λ e. bier_frame e.peer_mac e.own_mac x.kind (copy_of (packet_of x) bift ks ttl)) refl (λ e. refl)

  tunnel_same : (bift : ℕ) (ks : List ℕ) (ttl y : ℕ) → BothOr Same (tunnel_copy r g u (packet_of x) y (copy_of (packet_of x) bift ks ttl)) (copied_in_tunnel confs a r g u (record x { bift = bift; ids = ks; ttl = ttl }) y)
  unfolding frame_of ingress_header
  tunnel_same bift ks ttl y = by (prefix_of g x.triple.sd y)
    where
      octets : List ℕ
      octets = copy_of (packet_of x) bift ks ttl

      by : (o : Option Ipv4) → BothOr Same (option_and_then (λ dst. sent_on r (next_link r g u y) (λ e. ip_frame e.peer_mac e.own_mac (tunnel (tunnel_for r (packet_of x) octets dst)))) o)
          (option_and_then (λ dst. copy_over confs a r (next_link r g u y) (record x { bift = bift; ids = ks; ttl = ttl; outer = Some (record { src = r.prefix; dst = dst; ttl = outer_ttl }) })) o)
      by None = tt
      by (Some dst) =
          over_same (next_link r g u y) (record x { bift = bift; ids = ks; ttl = ttl; outer = Some (record { src = r.prefix; dst = dst; ttl = outer_ttl }) })
          (λ e. ip_frame e.peer_mac e.own_mac (tunnel (tunnel_for r (packet_of x) octets dst))) refl (λ e. refl)

  copy_same : (bift : ℕ) (ks : List ℕ) (ttl y : ℕ) → BothOr Same (copy_sent r g u (packet_of x) y (copy_of (packet_of x) bift ks ttl)) (copied_to confs a r g u (record x { bift = bift; ids = ks; ttl = ttl }) y)
  copy_same bift ks ttl y =
      both_if Same (is_direct g u y) (direct_copy r g (packet_of x) y (copy_of (packet_of x) bift ks ttl)) (tunnel_copy r g u (packet_of x) y (copy_of (packet_of x) bift ks ttl))
      (copied_directly confs a r g (record x { bift = bift; ids = ks; ttl = ttl }) y) (copied_in_tunnel confs a r g u (record x { bift = bift; ids = ks; ttl = ttl }) y) (direct_same bift ks ttl y) (tunnel_same bift ks ttl y)

  -- what is dropped has the same ids
  lost_same : (why : Cause) (ks : List ℕ) → AreOfSet x.triple ks → Same (one_drop why (Some (positions_in (packet_of x) ks))) (packet_lost a x why ks)
  lost_same why ks of_set = record {
    sent = refl;
    copies = tt;
    got = refl;
    drops = ap (λ (ids : List ℕ). (packet_lost a x why ids).drops) (sym (ids_back x.triple (x.triple.si * bits_of x.triple.bsl) ks (omega arith) of_set));
  }

  or_same : (ks : List ℕ) (e : Option Effects) (m : Option Made) → AreOfSet x.triple ks → BothOr Same e m → Same (or_drop (packet_of x) ks e) (or_lost a x ks m)
  or_same ks None None of_set h = lost_same cause.NoRow ks of_set
  or_same ks None (Some m) of_set h = absurd h
  or_same ks (Some e) None of_set h = absurd h
  or_same ks (Some e) (Some m) of_set h = h

  copied_same : (y : ℕ) (ks : List ℕ) (ttl : ℕ) → AreOfSet x.triple ks → Same (copied r g u (packet_of x) y ks ttl) (item_copied confs a r g u x y ks ttl)
  copied_same y ks ttl of_set = by (bift_at r g x.triple y)
    where
      by : (o : Option ℕ) → Same (or_drop (packet_of x) ks (option_and_then (λ bift. copy_sent r g u (packet_of x) y (copy_of (packet_of x) bift ks ttl)) o)) (or_lost a x ks (option_and_then (λ bift. copied_to confs a r g u (record x { bift = bift; ids = ks; ttl = ttl }) y) o))
      by None = lost_same cause.NoRow ks of_set
      by (Some bift) = or_same ks (copy_sent r g u (packet_of x) y (copy_of (packet_of x) bift ks ttl)) (copied_to confs a r g u (record x { bift = bift; ids = ks; ttl = ttl }) y) of_set (copy_same bift ks ttl y)

  outcome_same : (o : Outcome) → IsPart (AreOfSet x.triple) o → Same (outcome_done r g u (packet_of x) o) (outcome_made confs a r g u x o)
  outcome_same (Local id) h = record { sent = refl; copies = tt; got = refl; drops = refl }
  outcome_same (Copy y ks ttl) h = copied_same y ks ttl h
  outcome_same (Expired ks) h = lost_same cause.Ttl ks h
  outcome_same (NoRow ks) h = lost_same cause.NoRow ks h

  ids_same : AreOfSet x.triple x.ids → ids_in (packet_of x) ≡ x.ids
  unfolding ingress_header
  ids_same of_set = ids_back x.triple (x.triple.si * bits_of x.triple.bsl) x.ids (omega arith) of_set

  pub hop_same : (ttl : ℕ) → AreOfSet x.triple x.ids → Same (hop_at r g u (packet_of x) ttl) (hop_made_at confs a r g u x ttl)
  unfolding hop_at hop_made_at outcomes_at
  hop_same ttl of_set =
      let choose = choice_of r g u (packet_of x) in
      let outcomes = hop (own_id r x.triple.sd) choose x.ids ttl in
      let parts = hop_part choose (AreOfSet x.triple) (λ p ks h. within-filter (x.triple.si * bits_of x.triple.bsl) (x.triple.si * bits_of x.triple.bsl + bits_of x.triple.bsl) p ks h) (own_id r x.triple.sd) x.ids ttl of_set in
      subst (λ (ids : List ℕ). Same (joined (map (outcome_done r g u (packet_of x)) (hop (own_id r x.triple.sd) choose ids ttl))) (joined_made (map (outcome_made confs a r g u x) outcomes))) (sym (ids_same of_set))
      (joined_same confs a r x.number whole (outcome_done r g u (packet_of x)) (outcome_made confs a r g u x) outcomes
      (each_weaker (IsPart (AreOfSet x.triple)) (λ o. Same (outcome_done r g u (packet_of x) o) (outcome_made confs a r g u x o)) outcome_same outcomes parts))

-- ---- a copy that arrives in a tunnel which goes on

module _ (confs : List RouterConf) (a : ℕ) (r : RouterConf) (at : IsAt confs a r) (g : List ViewNode) (u : ℕ) (x : DataItem) where
  abbrev Taken : Effects → Made → Type 0
  Taken e m = IsSame confs a r x.number x.ids e m

  -- what is dropped as a whole has the ids that came
  whole_same : (why : Cause) → Taken (dropped why) (packet_lost a x why x.ids)
  whole_same why = record { sent = refl; copies = tt; got = refl; drops = refl }

  route_same : (e : Option Effects) (m : Option Made) → BothOr Taken e m → Taken (or_no_route e) (moves.or_no_route a x m)
  route_same None None h = whole_same cause.Route
  route_same None (Some m) h = absurd h
  route_same (Some e) None h = absurd h
  route_same (Some e) (Some m) h = h

  -- what is sent is what came, with a lower TTL of the tunnel
  onward_same : (o : Outer) → OuterFits x (Some o) → Taken (forwarded r g u (tunnel (item_tunnel x o)) (item_tunnel x o)) (sent_onward confs a r g u x o)
  unfolding frame_of
  onward_same o fits =
      let way = option_and_then (next_link r g u) (node_with g o.dst) in
      route_same (sent_on r way (λ e. ip_frame e.peer_mac e.own_mac (tunnel_on (tunnel (item_tunnel x o)) (o.ttl - 1)))) (copy_over confs a r way (record x { outer = Some (record o { ttl = o.ttl - 1 }) }))
      (over_same confs a r at g u x x.ids way (record x { outer = Some (record o { ttl = o.ttl - 1 }) }) (λ e. ip_frame e.peer_mac e.own_mac (tunnel_on (tunnel (item_tunnel x o)) (o.ttl - 1))) refl
      (λ e. ap (ip_frame e.peer_mac e.own_mac) (onward x o (o.ttl - 1) fits)))

pub transit_same : (confs : List RouterConf) (a : ℕ) (c : Control) → IsAt confs a c.conf → (x : DataItem) (o : Outer) → OuterFits x (Some o)
    → IsSame confs a c.conf x.number x.ids (in_transit c (tunnel (item_tunnel x o)) (item_tunnel x o)) (passes_through confs a c x o)
transit_same confs a c at x o fits = by (nat_le o.ttl 1)
  where
    g : List ViewNode
    g = control_view c

    u : ℕ
    u = node_place g c.conf.system

    by : (b : Bool) → IsSame confs a c.conf x.number x.ids (if b then dropped cause.Outer else forwarded c.conf g u (tunnel (item_tunnel x o)) (item_tunnel x o)) (if b then packet_lost a x cause.Outer x.ids else sent_onward confs a c.conf g u x o)
    by true = whole_same confs a c.conf at g u x cause.Outer
    by false = onward_same confs a c.conf at g u x o fits
