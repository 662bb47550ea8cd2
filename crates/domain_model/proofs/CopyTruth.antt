-- Each copy of a packet that a router sends carries the BIFT-id that its target gives the packet's triple.
use Rattle.std.proofs.Common.{◌≡◌, ℕ, ◌+◌, ◌-◌, ◌*◌, ◌<◌, ◌≤◌, ◌^◌, ◌==◌, nat_le, Bool, true, false, List, [], ◌∷◌, length, map, filter, slice_get, Option, Some, None, IfSome, option_map, option_and_then, refl, sym, ap, subst, ◌∙◌, arith}
use Rattle.std.specs.List.{AllByRecursion}
use Rattle.std.specs.Str.{bytes_eq}
use Rattle.std.proofs.lemmas.Bool.{cond_both, leb-true, leb-false}
use Rattle.std.proofs.lemmas.Option.{same_Some}
use Rattle.wire_base.specs.declared.limits.TheConstants.{MOST_PAYLOAD}
use Rattle.wire_base.specs.declared.addresses.Ipv4.{Ipv4}
use Rattle.wire_base.specs.declared.cause.Cause.{Cause}
use Rattle.wire_base.specs.declared.cause.Cause.TheVariants as cause
use Rattle.wire_base.specs.declared.conf.End.{End}
use Rattle.wire_base.specs.declared.conf.Kind.{Kind}
use Rattle.wire_base.specs.declared.conf.Kind.TheVariants.{Mpls, Configured}
use Rattle.wire_base.specs.declared.conf.LabelRange.{LabelRange}
use Rattle.wire_base.specs.declared.conf.OwnSub.{OwnSub}
use Rattle.wire_base.specs.declared.conf.RouterConf.{RouterConf}
use Rattle.wire_base.specs.declared.conf.SubKind.{SubKind}
use Rattle.wire_base.specs.declared.conf.TableRow.{TableRow}
use Rattle.wire_base.specs.declared.triple.Triple.{Triple}
use Rattle.wire_base.specs.declared.view.ViewNode.{ViewNode}
use Rattle.wire_base.specs.declared.view.ViewSub.{ViewSub}
use Rattle.wire_base.specs.model.Choice.{is_direct, end_toward}
use Rattle.wire_base.specs.model.Configuration.{DomainConf, IsConsistent, IsSound, IsOwnSub, IsLabelRange, IsTableRow}
use Rattle.wire_base.specs.model.Control.{Control}
use Rattle.wire_base.specs.model.Graph.{place_in, node_bift}
use Rattle.wire_base.specs.model.Hop.{Outcome, Local, Copy, Expired, NoRow, hop}
use Rattle.wire_base.specs.model.Item.{PacketItem, DataItem, Outer, target_of, outer_target, router_with}
use Rattle.wire_base.specs.model.OnFrame.{node_place, link_to, next_link, prefix_of, outer_ttl, choice_of, node_with}
use Rattle.wire_base.specs.model.OwnLsp.{info_of}
use Rattle.wire_base.specs.model.Place.{code_of, bits_of, kind_of, sub_in, label_in, row_in, bift_by, bift_of, own_id, own_bift, means, same_triple, IsMeaning}
use Rattle.wire_base.specs.model.View.{sub_of, control_view}
use Rattle.wire_base.proofs.MeaningLemmas.{means_found}
use Rattle.wire_base.proofs.SetLaws.{within-filter}
use Rattle.wire_base.proofs.SoundLemmas.{sound_subs}
use Rattle.domain_model.specs.declared.lines.DropLine.{DropLine}
use Rattle.domain_model.specs.World.{peer_place}
use Rattle.domain_model.specs.Moves.{Sending, Made, none_made, joined_made, over_end, packet_lost, packet_of, copy_over, copied_directly, copied_in_tunnel, copied_to, or_lost, item_copied, outcome_made, outcomes_at, hop_made_at, hop_made, or_no_route, sent_onward, passes_through, packet_taken}
use Rattle.domain_model.specs.Truth.{IsAmong, MeansAt, router_at, AreOfSet, OuterFits, IsTrueCopy, IsTrueItem, IsTrueControl, IsWorldCause, AreWorldDrops}
use Rattle.domain_model.proofs.EachLaws.{each_weaker, each_mapped, each_flat, each_got, each_kept}
use Rattle.domain_model.proofs.DomainLaws.{sound_of, alike}
use Rattle.domain_model.proofs.HopTruth.{IsOutcomeOf, hop_true}
use Rattle.domain_model.proofs.LinkLaws.{end_found, peer_at, prefix_place}
use Rattle.domain_model.proofs.ViewTruth.{places_of, IsRouterNode, view_true, nodes_true, node_gives, bift_means}

-- ---- BIFT-ids have 20 bits

label_small : (rs : List LabelRange) (t : Triple) (b : ℕ) → AllByRecursion IsLabelRange rs → label_in rs t ≡ Some b → b < 2 ^ 20
label_small [] t b all e = cc
label_small (x ∷ xs) t b all e = by (code_of x.bsl == code_of t.bsl) refl (nat_le t.si x.max_si) refl (λ k. label_small xs t b all.1 k)
  where
    by : (a : Bool) → (code_of x.bsl == code_of t.bsl) ≡ a → (c : Bool) → nat_le t.si x.max_si ≡ c → (label_in xs t ≡ Some b → b < 2 ^ 20) → b < 2 ^ 20
    by true a true c more = let k : Some (x.label + t.si) ≡ Some b = rw (a, c) at e in let s = same_Some (x.label + t.si) b k in let le = leb-true t.si x.max_si c in omega (arith, all.0.last, s, le)
    by true a false c more = let k : None ≡ Some b = rw (a, c) at e in cc
    by false a c d more = more (rw a at e)

row_small : (rows : List TableRow) (t : Triple) (b : ℕ) → AllByRecursion IsTableRow rows → row_in rows t ≡ Some b → b < 2 ^ 20
row_small [] t b all e = cc
row_small (row ∷ rows) t b all e = by (same_triple row.triple t) refl (λ k. row_small rows t b all.1 k)
  where
    by : (a : Bool) → same_triple row.triple t ≡ a → (row_in rows t ≡ Some b → b < 2 ^ 20) → b < 2 ^ 20
    by true a more = let k : Some row.bift ≡ Some b = rw a at e in let s = same_Some row.bift b k in omega (arith, all.0.last, s)
    by false a more = more (rw a at e)

by_small : (o : Option Kind) (rows : List TableRow) (rs : List LabelRange) (t : Triple) (b : ℕ) → AllByRecursion IsTableRow rows → AllByRecursion IsLabelRange rs → bift_by o rows rs t ≡ Some b → b < 2 ^ 20
by_small None rows rs t b all some e = cc
by_small (Some Mpls) rows rs t b all some e = label_small rs t b some e
by_small (Some Configured) rows rs t b all some e = row_small rows t b all e

pub sub_fits : (subs : List OwnSub) (sd : ℕ) (s : OwnSub) → AllByRecursion IsOwnSub subs → sub_in subs sd ≡ Some s → IsOwnSub s
sub_fits [] sd s all e = cc
sub_fits (x ∷ xs) sd s all e = by (x.sd == sd) refl (λ k. sub_fits xs sd s all.1 k)
  where
    by : (a : Bool) → (x.sd == sd) ≡ a → (sub_in xs sd ≡ Some s → IsOwnSub s) → IsOwnSub s
    by true a more = let k : Some x ≡ Some s = rw a at e in subst IsOwnSub (same_Some x s k) all.0
    by false a more = more (rw a at e)

bift_small : (q : RouterConf) (t : Triple) (b : ℕ) → IsSound q → own_bift q t ≡ Some b → b < 2 ^ 20
bift_small q t b sound e = by (sub_in q.subs t.sd) refl e
  where
    by : (o : Option OwnSub) → sub_in q.subs t.sd ≡ o → bift_of q.kinds q.table (option_map (λ s. s.ranges) o) t ≡ Some b → b < 2 ^ 20
    by None f e = cc
    by (Some s) f e = by_small (kind_of q.kinds t.sd) q.table s.ranges t b sound.rows (sub_fits q.subs t.sd s (sound_subs q sound).each f).each e

-- ---- what a packet keeps from hop to hop

pub record IsPacket (kinds : List SubKind) (injections : ℕ) (x : DataItem) : Type 0 where
  pub told : 1 ≤ x.number
  pub made : x.number ≤ injections
  pub entropy : x.entropy < 2 ^ 20
  pub bfir : x.bfir < 2 ^ 16
  pub payload : length x.payload ≤ MOST_PAYLOAD
  pub sd : x.triple.sd < 2 ^ 8
  pub si : x.triple.si < 2 ^ 8
  pub kind : kind_of kinds x.triple.sd ≡ Some x.kind

-- its ids: of its set, and BFR-ids
pub record AreIds (t : Triple) (ks : List ℕ) : Type 0 where
  pub of_set : AreOfSet t ks
  pub bfr_ids : AllByRecursion (λ k. k < 2 ^ 16) ks

ids_down : (t : Triple) (p : ℕ → Bool) (ks : List ℕ) → AreIds t ks → AreIds t (filter p ks)
ids_down t p ks h = record {
  of_set = within-filter (t.si * bits_of t.bsl) (t.si * bits_of t.bsl + bits_of t.bsl) p ks h.of_set;
  bfr_ids = each_kept (λ k. k < 2 ^ 16) p ks h.bfr_ids;
}

-- ---- what a router sends, and what it drops

-- where ends lead: to the same places in two lists of configurations
abbrev pub SamePlaces : List RouterConf → List RouterConf → Type 0
SamePlaces old confs = (a link : ℕ) → peer_place old a link ≡ peer_place confs a link

-- The interfaces are those of the domain as it started, `old`; what is sent is true of the configurations of now, `confs`.
pub record IsTrueSending (old confs : List RouterConf) (injections : ℕ) (s : Sending) : Type 0 where
  pub item : IsTrueItem confs injections (peer_place old s.from s.link) s.item

pub record IsTrueMade (old confs : List RouterConf) (injections : ℕ) (m : Made) : Type 0 where
  pub sent : AllByRecursion (IsTrueSending old confs injections) m.sent
  pub drops : AreWorldDrops m.drops

pub lost_true : (old confs : List RouterConf) (injections a : ℕ) (x : DataItem) (why : Cause) (ks : List ℕ) → IsWorldCause why → IsTrueMade old confs injections (packet_lost a x why ks)
lost_true old confs injections a x why ks h = record { sent = tt; drops = (h, tt) }

pub joined_true : (old confs : List RouterConf) (injections : ℕ) (ms : List Made) → AllByRecursion (IsTrueMade old confs injections) ms → IsTrueMade old confs injections (joined_made ms)
joined_true old confs injections ms all = record {
  sent = each_flat (IsTrueSending old confs injections) (λ (m : Made). m.sent) ms (each_weaker (IsTrueMade old confs injections) (λ m. AllByRecursion (IsTrueSending old confs injections) m.sent) (λ m t. t.sent) ms all);
  drops = each_flat (λ (l : DropLine). IsWorldCause l.cause) (λ (m : Made). m.drops) ms (each_weaker (IsTrueMade old confs injections) (λ m. AreWorldDrops m.drops) (λ m t. t.drops) ms all);
}

-- a copy that is true wherever the end leads
abbrev OrNone : (Made → Type 0) → Option Made → Type 0
OrNone P None = Unit {0}
OrNone P (Some m) = P m

over_true : (old confs : List RouterConf) (injections a : ℕ) (r : RouterConf) (o : Option ℕ) (x : DataItem)
    → ((link : ℕ) (e : End) → o ≡ Some link → slice_get r.ends link ≡ Some e → IsTrueCopy confs injections (peer_place old a link) x)
    → OrNone (IsTrueMade old confs injections) (copy_over old a r o x)
over_true old confs injections a r None x h = tt
over_true old confs injections a r (Some link) x h = by (slice_get r.ends link) refl
  where
    by : (e : Option End) → slice_get r.ends link ≡ e → OrNone (IsTrueMade old confs injections) (option_map (λ e. record none_made { sent = over_end old a link (PacketItem x) ∷ [] }) e)
    by None q = tt
    by (Some e) q = record { sent = (record { item = h link e refl q }, tt); drops = tt }

lost_or : (old confs : List RouterConf) (injections a : ℕ) (x : DataItem) (ks : List ℕ) (o : Option Made) → OrNone (IsTrueMade old confs injections) o → IsTrueMade old confs injections (or_lost a x ks o)
lost_or old confs injections a x ks None h = lost_true old confs injections a x cause.NoRow ks tt
lost_or old confs injections a x ks (Some m) h = h

-- ---- a copy to a node

means_kind : (q : RouterConf) (kind : Kind) (b : ℕ) (t : Triple) → IsSound q → means q kind b ≡ Some t → kind_of q.kinds t.sd ≡ Some kind
means_kind q kind b t sound e = at (means q kind b) e (means_found q kind b sound)
  where
    at : (o : Option Triple) → o ≡ Some t → IfSome o (λ u. IsMeaning q kind b u) → kind_of q.kinds t.sd ≡ Some kind
    at None e m = cc
    at (Some u) e m = subst (λ (v : Triple). kind_of q.kinds v.sd ≡ Some kind) (same_Some u t e) m.kind_is

zero_plus : (n : ℕ) → 0 + n ≡ n
zero_plus n = omega arith

module _ (old : List RouterConf) (d : DomainConf) (valid : IsConsistent d) (places : SamePlaces old d.routers) (injections a : ℕ) (r : RouterConf) (at : slice_get d.routers a ≡ Some r) (g : List ViewNode) (nodes : AllByRecursion (IsRouterNode d.routers) g) (u : ℕ) where
  among : IsAmong d.routers r
  among = record { place = a; there = at }

  abbrev Good : Made → Type 0
  Good m = IsTrueMade old d.routers injections m

  -- what is known of a copy before the end is known that it goes over
  record IsReady (x : DataItem) (q : RouterConf) : Type 0 where
    packet : IsPacket r.kinds injections x
    ids : AreIds x.triple x.ids
    some : x.ids ≡ [] → ⊥
    lives : 1 ≤ x.ttl
    ttl : x.ttl < 2 ^ 8
    bift : x.bift < 2 ^ 20
    means_there : means q x.kind x.bift ≡ Some x.triple

  ready_copy : (x : DataItem) (q : RouterConf) (o : Option Outer) (b : ℕ) → IsReady x q → OuterFits d.routers o → router_at d.routers (outer_target d.routers b o) ≡ Some q → IsTrueCopy d.routers injections b (record x { outer = o })
  ready_copy x q o b k outer target = record {
    told = k.packet.told;
    made = k.packet.made;
    some = k.some;
    ids = k.ids.of_set;
    bfr_ids = k.ids.bfr_ids;
    lives = k.lives;
    ttl = k.ttl;
    entropy = k.packet.entropy;
    bfir = k.packet.bfir;
    payload = k.packet.payload;
    sd = k.packet.sd;
    si = k.packet.si;
    bift = k.bift;
    outer = outer;
    means = subst (λ (t : Option RouterConf). MeansAt t (record x { outer = o })) (sym target) k.means_there;
  }

  -- the end toward a node leads to its router
  end_leads : (y link : ℕ) (e : End) (n : ViewNode) (q : RouterConf) (j : ℕ) → slice_get g y ≡ Some n → n.system ≡ q.system → slice_get d.routers j ≡ Some q → link_to r g y ≡ Some link → slice_get r.ends link ≡ Some e → peer_place old a link ≡ j
  end_leads y link e n q j node system place toward there =
      let found : end_toward r.ends n.system ≡ Some link = rw node at toward in
      let f = end_found r.ends n.system link found in
      let same : f.at ≡ e = same_Some f.at e (sym f.there ∙ there) in
      places a link ∙ peer_at d.routers valid.systems a link j r q e at there place (ap (λ (z : End). z.peer) (sym same) ∙ f.peer ∙ system)

  directly : (x : DataItem) (y : ℕ) (n : ViewNode) (q : RouterConf) (j : ℕ) → IsReady x q → slice_get g y ≡ Some n → n.system ≡ q.system → slice_get d.routers j ≡ Some q → OrNone Good (copied_directly old a r g x y)
  directly x y n q j k node system place =
      over_true old d.routers injections a r (link_to r g y) (record x { outer = None }) (λ link e toward there.
      ready_copy x q None (peer_place old a link) k tt (ap (slice_get d.routers) (end_leads y link e n q j node system place toward there) ∙ place))

  -- the prefix of a node is its router's
  prefix_told : (q : RouterConf) (subs : List OwnSub) (sd : ℕ) (p : Ipv4) → option_map (λ s. s.prefix) (place_in (map (λ s. sub_of q.prefix.0 (info_of q.kinds s)) subs) sd) ≡ Some p → p ≡ q.prefix
  prefix_told q [] sd p e = cc
  prefix_told q (s ∷ subs) sd p e = by (s.sd == sd) refl (λ k. prefix_told q subs sd p k)
    where
      by : (b : Bool) → (s.sd == sd) ≡ b → (option_map (λ z. z.prefix) (place_in (map (λ z. sub_of q.prefix.0 (info_of q.kinds z)) subs) sd) ≡ Some p → p ≡ q.prefix) → p ≡ q.prefix
      by true f more = let k : Some q.prefix ≡ Some p = rw f at e in sym (same_Some q.prefix p k)
      by false f more = more (rw f at e)

  in_tunnel : (x : DataItem) (y : ℕ) (n : ViewNode) (k : IsRouterNode d.routers n) → IsReady x k.now → slice_get g y ≡ Some n → OrNone Good (copied_in_tunnel old a r g u x y)
  in_tunnel x y n k ready node = by (prefix_of g x.triple.sd y) refl
    where
      by : (o : Option Ipv4) → prefix_of g x.triple.sd y ≡ o → OrNone Good (option_and_then (λ dst. copy_over old a r (next_link r g u y) (record x { outer = Some (record { src = r.prefix; dst = dst; ttl = outer_ttl }) })) o)
      by None q = tt
      by (Some dst) q =
          let told : option_map (λ (s : ViewSub). s.prefix) (place_in n.subs x.triple.sd) ≡ Some dst = rw node at q in
          let mapped : option_map (λ (s : ViewSub). s.prefix) (place_in (places_of k.router) x.triple.sd) ≡ Some dst = ap (λ (l : List ViewSub). option_map (λ (s : ViewSub). s.prefix) (place_in l x.triple.sd)) (sym k.subs) ∙ told in
          let is : dst ≡ k.now.prefix = prefix_told k.router k.router.subs x.triple.sd dst mapped ∙ ap (λ (z : RouterConf). z.prefix) k.earlier.one in
          let o : Outer = record { src = r.prefix; dst = dst; ttl = outer_ttl } in
          let fits : OuterFits d.routers (Some o) = record { src = record { router = r; among = among; is = refl }; dst = record { router = k.now; among = k.among; is = is }; lives = omega arith; ttl = omega arith } in
          let target : router_with 0 d.routers dst ≡ Some k.among.place = ap (router_with 0 d.routers) is ∙ prefix_place 0 d.routers valid.prefixes k.among.place k.now k.among.there ∙ ap (λ (m : ℕ). Some m) (zero_plus k.among.place) in
          over_true old d.routers injections a r (next_link r g u y) (record x { outer = Some o }) (λ link e toward there.
          ready_copy x k.now (Some o) (peer_place old a link) ready fits (ap (router_at d.routers) target ∙ k.among.there))

  to_node : (x : DataItem) (y : ℕ) (n : ViewNode) (k : IsRouterNode d.routers n) → IsReady x k.now → slice_get g y ≡ Some n → OrNone Good (copied_to old a r g u x y)
  to_node x y n k ready node =
      cond_both (is_direct g u y) (copied_directly old a r g x y) (copied_in_tunnel old a r g u x y) (OrNone Good)
      (λ yes. directly x y n k.now k.among.place ready node (k.system ∙ ap (λ (z : RouterConf). z.system) k.earlier.one) k.among.there)
      (λ far. in_tunnel x y n k ready node)

  -- the copy has the BIFT-id that the node gives
  copied : (x : DataItem) (y : ℕ) (ks : List ℕ) (ttl : ℕ) → IsPacket r.kinds injections x → AreIds x.triple ks → (ks ≡ [] → ⊥) → 1 ≤ ttl → ttl < 2 ^ 8 → Good (item_copied old a r g u x y ks ttl)
  copied x y ks ttl packet ids some lives small = by (slice_get g y) refl
    where
      with_bift : (n : ViewNode) (k : IsRouterNode d.routers n) → slice_get g y ≡ Some n → (o : Option ℕ) → node_bift r.kinds r.table x.triple n ≡ o → OrNone Good (option_and_then (λ bift. copied_to old a r g u (record x { bift = bift; ids = ks; ttl = ttl }) y) o)
      with_bift n k node None q = tt
      with_bift n k node (Some bift) q =
          let there = bift_means d valid r x.triple x.kind bift n among k packet.kind q in
          let low : bift < 2 ^ 20 = bift_small k.router x.triple bift k.earlier.sound (sym (node_gives d valid r x.triple n among k) ∙ q) in
          let ready : IsReady (record x { bift = bift; ids = ks; ttl = ttl }) k.now = record {
            packet = record { told = packet.told; made = packet.made; entropy = packet.entropy; bfir = packet.bfir; payload = packet.payload; sd = packet.sd; si = packet.si; kind = packet.kind };
            ids = ids;
            some = some;
            lives = lives;
            ttl = small;
            bift = low;
            means_there = there;
          } in
          to_node (record x { bift = bift; ids = ks; ttl = ttl }) y n k ready node

      by : (o : Option ViewNode) → slice_get g y ≡ o → Good (or_lost a x ks (option_and_then (λ bift. copied_to old a r g u (record x { bift = bift; ids = ks; ttl = ttl }) y) (option_and_then (node_bift r.kinds r.table x.triple) o)))
      by None q = lost_or old d.routers injections a x ks None tt
      by (Some n) q =
          let k = each_got (IsRouterNode d.routers) g y n nodes q in
          lost_or old d.routers injections a x ks (option_and_then (λ bift. copied_to old a r g u (record x { bift = bift; ids = ks; ttl = ttl }) y) (node_bift r.kinds r.table x.triple n))
          (with_bift n k q (node_bift r.kinds r.table x.triple n) refl)

  -- ---- a hop

  outcome_true : (x : DataItem) (ttl : ℕ) → IsPacket r.kinds injections x → ttl ≤ 2 ^ 8 → (o : Outcome) → IsOutcomeOf (choice_of r g u (packet_of x)) (AreIds x.triple) ttl o → Good (outcome_made old a r g u x o)
  outcome_true x ttl packet small (Local id) h = record { sent = tt; drops = tt }
  outcome_true x ttl packet small (Copy y ks left) h = copied x y ks left packet h.part h.some h.lives (omega (arith, h.less, small))
  outcome_true x ttl packet small (Expired ks) h = lost_true old d.routers injections a x cause.Ttl ks tt
  outcome_true x ttl packet small (NoRow ks) h = lost_true old d.routers injections a x cause.NoRow ks tt

  pub hop_at_true : (x : DataItem) (ttl : ℕ) → IsPacket r.kinds injections x → AreIds x.triple x.ids → ttl ≤ 2 ^ 8 → IsTrueMade old d.routers injections (hop_made_at old a r g u x ttl)
  unfolding hop_made_at outcomes_at
  hop_at_true x ttl packet ids small =
      let choose = choice_of r g u (packet_of x) in
      let outcomes = hop (own_id r x.triple.sd) choose x.ids ttl in
      joined_true old d.routers injections (map (outcome_made old a r g u x) outcomes)
      (each_mapped (IsTrueMade old d.routers injections) (outcome_made old a r g u x) outcomes
      (each_weaker (IsOutcomeOf choose (AreIds x.triple) ttl) (λ o. IsTrueMade old d.routers injections (outcome_made old a r g u x o)) (λ o h. outcome_true x ttl packet small o h) outcomes
      (hop_true choose (AreIds x.triple) (ids_down x.triple) (own_id r x.triple.sd) x.ids ttl ids)))

-- ---- a copy that arrives

-- a tunnel changes nothing of what a number means
means_outer : (o : Option RouterConf) (x : DataItem) (z : Option Outer) → MeansAt o x → MeansAt o (record x { outer = z })
means_outer None x z h = h
means_outer (Some q) x z h = h

module _ (old : List RouterConf) (d : DomainConf) (valid : IsConsistent d) (places : SamePlaces old d.routers) (injections a : ℕ) (c : Control) (at : slice_get d.routers a ≡ Some c.conf) (t : IsTrueControl d.routers c) where
  router_kind : (x : DataItem) (o : Option ℕ) → MeansAt (router_at d.routers o) x → kind_of c.conf.kinds x.triple.sd ≡ Some x.kind
  router_kind x None h = absurd h
  router_kind x (Some b) h = by (slice_get d.routers b) refl h
    where
      by : (q : Option RouterConf) → slice_get d.routers b ≡ q → MeansAt q x → kind_of c.conf.kinds x.triple.sd ≡ Some x.kind
      by None e h = absurd h
      by (Some q) e h =
          let q_among : IsAmong d.routers q = record { place = b; there = e } in
          ap (λ (ks : List SubKind). kind_of ks x.triple.sd) (alike d valid q c.conf q_among t.among).kinds ∙ means_kind q x.kind x.bift x.triple (sound_of d valid q q_among) h

  packet_kept : (x : DataItem) → IsTrueCopy d.routers injections a x → IsPacket c.conf.kinds injections x
  packet_kept x k = record { told = k.told; made = k.made; entropy = k.entropy; bfir = k.bfir; payload = k.payload; sd = k.sd; si = k.si; kind = router_kind x (target_of d.routers a x) k.means }

  pub hop_true_here : (x : DataItem) (ttl : ℕ) → IsPacket c.conf.kinds injections x → AreIds x.triple x.ids → ttl ≤ 2 ^ 8 → IsTrueMade old d.routers injections (hop_made old a c x ttl)
  hop_true_here x ttl packet ids small =
      hop_at_true old d valid places injections a c.conf at (control_view c) (nodes_true d valid (control_view c) (view_true d valid c t)) (node_place (control_view c) c.conf.system) x ttl packet ids small

  hopped : (x : DataItem) → IsTrueCopy d.routers injections a x → IsTrueMade old d.routers injections (hop_made old a c x x.ttl)
  hopped x k = hop_true_here x x.ttl (packet_kept x k) (record { of_set = k.ids; bfr_ids = k.bfr_ids }) (omega (arith, k.ttl))

  -- in a tunnel that goes on nothing but its TTL changes
  onward_copy : (x : DataItem) (o : Outer) (b : ℕ) → x.outer ≡ Some o → 1 < o.ttl → IsTrueCopy d.routers injections a x → IsTrueCopy d.routers injections b (record x { outer = Some (record o { ttl = o.ttl - 1 }) })
  onward_copy x o b is more k =
      let fits : OuterFits d.routers (Some o) = subst (OuterFits d.routers) is k.outer in
      record {
        told = k.told;
        made = k.made;
        some = k.some;
        ids = k.ids;
        bfr_ids = k.bfr_ids;
        lives = k.lives;
        ttl = k.ttl;
        entropy = k.entropy;
        bfir = k.bfir;
        payload = k.payload;
        sd = k.sd;
        si = k.si;
        bift = k.bift;
        outer = record { src = fits.src; dst = fits.dst; lives = omega (arith, more); ttl = omega (arith, fits.ttl) };
        means = means_outer (router_at d.routers (router_with 0 d.routers o.dst)) x (Some (record o { ttl = o.ttl - 1 })) (subst (λ (z : Option Outer). MeansAt (router_at d.routers (outer_target d.routers a z)) x) is k.means);
      }

  route_or : (x : DataItem) (m : Option Made) → OrNone (IsTrueMade old d.routers injections) m → IsTrueMade old d.routers injections (or_no_route a x m)
  route_or x None h = lost_true old d.routers injections a x cause.Route x.ids tt
  route_or x (Some m) h = h

  through : (x : DataItem) (o : Outer) → x.outer ≡ Some o → IsTrueCopy d.routers injections a x → IsTrueMade old d.routers injections (passes_through old a c x o)
  through x o is k =
      let g = control_view c in
      let u = node_place g c.conf.system in
      let way = option_and_then (next_link c.conf g u) (node_with g o.dst) in
      cond_both (nat_le o.ttl 1) (packet_lost a x cause.Outer x.ids) (sent_onward old a c.conf g u x o) (IsTrueMade old d.routers injections)
      (λ ended. lost_true old d.routers injections a x cause.Outer x.ids tt)
      (λ more.
      route_or x (copy_over old a c.conf way (record x { outer = Some (record o { ttl = o.ttl - 1 }) }))
      (over_true old d.routers injections a c.conf way (record x { outer = Some (record o { ttl = o.ttl - 1 }) }) (λ link e p q. onward_copy x o (peer_place old a link) is (leb-false o.ttl 1 more) k)))

pub taken_true : (old : List RouterConf) (d : DomainConf) → IsConsistent d → SamePlaces old d.routers → (injections a : ℕ) (c : Control) → slice_get d.routers a ≡ Some c.conf → IsTrueControl d.routers c → (x : DataItem) → IsTrueCopy d.routers injections a x → IsTrueMade old d.routers injections (packet_taken old a c x x.outer)
taken_true old d valid places injections a c at t x k = by x.outer refl k
  where
    by : (o : Option Outer) → x.outer ≡ o → IsTrueCopy d.routers injections a x → IsTrueMade old d.routers injections (packet_taken old a c x o)
    by None is k = hopped old d valid places injections a c at t x k
    by (Some o) is k =
        cond_both (bytes_eq o.dst.0 c.conf.prefix.0) (hop_made old a c x x.ttl) (passes_through old a c x o) (IsTrueMade old d.routers injections) (λ here. hopped old d valid places injections a c at t x k) (λ on. through old d valid places injections a c at t x o is k)
