-- What LSDBs, PDUs in flight and copies of packets say stays true when one router is given other labels, or leaves or joins a
-- sub-domain: what it advertised is what one of its earlier configurations says, and its labels keep their meanings.
use Rattle.std.proofs.Common.{◌≡◌, ◌⊎◌, inl, inr, ℕ, zero, suc, ◌+◌, List, [], ◌∷◌, map, slice_get, slice_set, if◌then◌else◌, Option, Some, None, refl, sym, ap, subst, ◌∙◌}
use Rattle.std.specs.List.{AllByRecursion}
use Rattle.std.specs.Str.{bytes_eq}
use Rattle.std.proofs.lemmas.Option.{same_Some}
use Rattle.wire_base.specs.declared.addresses.Ipv4.{Ipv4}
use Rattle.wire_base.specs.declared.addresses.LspId.{LspId}
use Rattle.wire_base.specs.declared.addresses.SystemId.{SystemId}
use Rattle.wire_base.specs.declared.conf.Kind.{Kind}
use Rattle.wire_base.specs.declared.conf.RouterConf.{RouterConf}
use Rattle.wire_base.specs.declared.entry.Entry.{Entry}
use Rattle.wire_base.specs.declared.triple.Summary.{Summary}
use Rattle.wire_base.specs.declared.triple.Triple.{Triple}
use Rattle.wire_base.specs.model.Configuration.{IsSound}
use Rattle.wire_base.specs.model.Control.{Control, fragment_0}
use Rattle.wire_base.specs.model.Item.{Item, ControlItem, PacketItem, DataItem, Outer, outer_target, router_with}
use Rattle.wire_base.specs.model.Pdu.{Head, Pdu, LspPdu, CsnpPdu, PsnpPdu, HelloPdu, OtherPdu}
use Rattle.wire_base.specs.model.Place.{means}
use Rattle.laws_router.specs.State.{IsRouter}
use Rattle.laws_router.proofs.MeaningLaws.{means_kept, earlier_kept}
use Rattle.laws_router.specs.Becoming.{AreOfOne, IsEarlier, IsLater}
use Rattle.domain_model.specs.Truth.{IsAmong, IsNamed, IsOwnLsp, IsDeadLsp, IsTrueLsp, head_of, IsTrueEntry, IsUnsent, IsTrueControl, IsTrueRow, IsTrueList, IsSource, IsTruePdu, MeansAt, router_at, IsPrefixOf, OuterFits, IsTrueCopy, IsTrueItem}
use Rattle.domain_model.proofs.EachLaws.{each_weaker, each_both, each_set}
use Rattle.domain_model.proofs.FloodTruth.{IsTrueState}

-- ---- lists

pub set_there : {X : Type 0} (xs : List X) (i : ℕ) (x y : X) → slice_get xs i ≡ Some x → slice_get (slice_set xs i y) i ≡ Some y
set_there [] i x y e = absurd cc
set_there (z ∷ zs) zero x y e = refl
set_there (z ∷ zs) (suc i) x y e = set_there zs i x y e

pub map_of_set : {X Y : Type 0} (f : X → Y) (xs : List X) (i : ℕ) (x : X) → map f (slice_set xs i x) ≡ slice_set (map f xs) i (f x)
map_of_set f [] i x = refl
map_of_set f (y ∷ ys) zero x = refl
map_of_set {X} {Y} f (y ∷ ys) (suc i) x = ap (λ (l : List Y). f y ∷ l) (map_of_set f ys i x)

-- each router is among those of its list
pub controls_among : (cs : List Control) → AllByRecursion (λ c. IsAmong (map (λ x. x.conf) cs) c.conf) cs
controls_among [] = tt
controls_among (c ∷ cs) = (
  record { place = 0; there = refl },
  each_weaker (λ x. IsAmong (map (λ y. y.conf) cs) x.conf) (λ x. IsAmong (map (λ y. y.conf) (c ∷ cs)) x.conf) (λ x h. record { place = suc h.place; there = h.there }) cs (controls_among cs),
)

-- ---- the routers after the change

-- A router, as it is configured after the change. What its earlier configurations were, and what its BIFT-ids mean, stays.
record IsNext (q next : RouterConf) : Type 0 where
  one : AreOfOne next q
  earlier : (was : RouterConf) → IsEarlier was q → IsEarlier was next
  kept : (kind : Kind) (b : ℕ) (t : Triple) → means q kind b ≡ Some t → means next kind b ≡ Some t

next_self : (q : RouterConf) → IsNext q q
next_self q = record { one = refl; earlier = λ was e. e; kept = λ kind b t m. m }

next_later : (q next : RouterConf) → IsSound q → IsLater q next → IsNext q next
next_later q next sound later = record {
  one = later.one;
  earlier = λ was e. earlier_kept was q next e later;
  kept = λ kind b t m. means_kept q next kind b t sound later m;
}

record HasNext (nexts : List RouterConf) (i : ℕ) (q : RouterConf) : Type 0 where
  router : RouterConf
  there : slice_get nexts i ≡ Some router
  is : IsNext q router

next_at : (confs : List RouterConf) (a : ℕ) (r next : RouterConf) → slice_get confs a ≡ Some r → IsNext r next → (i : ℕ) (q : RouterConf) → slice_get confs i ≡ Some q → HasNext (slice_set confs a next) i q
next_at [] a r next e k i q f = absurd cc
next_at (x ∷ xs) zero r next e k zero q f = record { router = next; there = refl; is = subst (λ (z : RouterConf). IsNext z next) (sym (same_Some x r e) ∙ same_Some x q f) k }
next_at (x ∷ xs) zero r next e k (suc i) q f = record { router = q; there = f; is = next_self q }
next_at (x ∷ xs) (suc a) r next e k zero q f = record { router = x; there = refl; is = subst (λ (z : RouterConf). IsNext z x) (same_Some x q f) (next_self x) }
next_at (x ∷ xs) (suc a) r next e k (suc i) q f = let n = next_at xs a r next e k i q f in record { router = n.router; there = n.there; is = n.is }

-- each prefix is at its place
with_prefix : (n : ℕ) (confs : List RouterConf) (a : ℕ) (r next : RouterConf) (p : Ipv4) → slice_get confs a ≡ Some r → next.prefix ≡ r.prefix → router_with n (slice_set confs a next) p ≡ router_with n confs p
with_prefix n [] a r next p e same = absurd cc
with_prefix n (x ∷ xs) zero r next p e same = ap (λ (z : Ipv4). if bytes_eq z.0 p.0 then Some n else router_with (n + 1) xs p) (same ∙ ap (λ (z : RouterConf). z.prefix) (sym (same_Some x r e)))
with_prefix n (x ∷ xs) (suc a) r next p e same = ap (λ (o : Option ℕ). if bytes_eq x.prefix.0 p.0 then Some n else o) (with_prefix (n + 1) xs a r next p e same)

-- ---- what stays true

module _ (confs : List RouterConf) (a : ℕ) (r next : RouterConf) (at : slice_get confs a ≡ Some r) (sound : IsSound r) (later : IsLater r next) where
  abbrev nexts : List RouterConf
  nexts = slice_set confs a next

  next_of : (q : RouterConf) (h : IsAmong confs q) → HasNext nexts h.place q
  next_of q h = next_at confs a r next at (next_later r next sound later) h.place q h.there

  among_next : (q : RouterConf) (h : IsAmong confs q) → IsAmong nexts (next_of q h).router
  among_next q h = record { place = h.place; there = (next_of q h).there }

  system_next : (q : RouterConf) (h : IsAmong confs q) → q.system ≡ (next_of q h).router.system
  system_next q h = sym (ap (λ (z : RouterConf). z.system) (next_of q h).is.one)

  named_next : (id : LspId) → IsNamed confs id → IsNamed nexts id
  named_next id n = record { router = (next_of n.router n.among).router; among = among_next n.router n.among; is = n.is ∙ ap fragment_0 (system_next n.router n.among) }

  own_next : (h : Head) (tlvs : List ℕ) → IsOwnLsp confs h tlvs → IsOwnLsp nexts h tlvs
  own_next h tlvs own = record {
    now = (next_of own.now own.among).router;
    among = among_next own.now own.among;
    router = own.router;
    earlier = (next_of own.now own.among).is.earlier own.router own.earlier;
    is = own.is;
    up = own.up;
    ends = own.ends;
    content = own.content;
    flags = own.flags;
    sum = own.sum;
    live = own.live;
    fresh = own.fresh;
    some = own.some;
  }

  lsp_next : (h : Head) (tlvs : List ℕ) → IsTrueLsp confs h tlvs → IsTrueLsp nexts h tlvs
  lsp_next h tlvs t = record { named = named_next h.id t.named; seq = t.seq; says = by t.says }
    where
      by : IsOwnLsp confs h tlvs ⊎ IsDeadLsp h tlvs → IsOwnLsp nexts h tlvs ⊎ IsDeadLsp h tlvs
      by (inl own) = inl (own_next h tlvs own)
      by (inr dead) = inr dead

  entries_next : (es : List Entry) → AllByRecursion (IsTrueEntry confs) es → AllByRecursion (IsTrueEntry nexts) es
  entries_next es all = each_weaker (IsTrueEntry confs) (IsTrueEntry nexts) (λ e t. lsp_next (head_of e) e.content t) es all

  pub state_next : (c : Control) → IsTrueState confs c.flood c.entries → IsTrueState nexts c.flood c.entries
  state_next c s = record { entries_true = entries_next c.entries s.entries_true; in_order = s.in_order; unsent = s.unsent }

  -- ---- PDUs

  rows_next : (rows : List Summary) → AllByRecursion (IsTrueRow confs) rows → AllByRecursion (IsTrueRow nexts) rows
  rows_next rows all = each_weaker (IsTrueRow confs) (IsTrueRow nexts) (λ s t. record { named = named_next s.id t.named; life = t.life; seq = t.seq; sum = t.sum }) rows all

  list_next : (tlvs : List ℕ) → IsTrueList confs tlvs → IsTrueList nexts tlvs
  list_next tlvs t = record { rows = t.rows; spelled = t.spelled; few = t.few; each = rows_next t.rows t.each }

  source_next : (system : SystemId) → IsSource confs system → IsSource nexts system
  source_next system s = record { router = (next_of s.router s.among).router; among = among_next s.router s.among; is = s.is ∙ system_next s.router s.among }

  pdu_next : (p : Pdu) → IsTruePdu confs p → IsTruePdu nexts p
  pdu_next (LspPdu h tlvs) t = record { says = lsp_next h tlvs t.says; some = t.some }
  pdu_next (CsnpPdu system start last tlvs) t = record { source = source_next system t.source; start_fits = t.start_fits; last_fits = t.last_fits; lists = list_next tlvs t.lists }
  pdu_next (PsnpPdu system tlvs) t = record { source = source_next system t.source; lists = list_next tlvs t.lists }
  pdu_next HelloPdu t = t
  pdu_next (OtherPdu number) t = t

  -- ---- copies of packets

  prefix_next : (p : Ipv4) → IsPrefixOf confs p → IsPrefixOf nexts p
  prefix_next p h = record {
    router = (next_of h.router h.among).router;
    among = among_next h.router h.among;
    is = h.is ∙ sym (ap (λ (z : RouterConf). z.prefix) (next_of h.router h.among).is.one);
  }

  outer_next : (o : Option Outer) → OuterFits confs o → OuterFits nexts o
  outer_next None h = h
  outer_next (Some o) h = record { src = prefix_next o.src h.src; dst = prefix_next o.dst h.dst; lives = h.lives; ttl = h.ttl }

  target_next : (b : ℕ) (o : Option Outer) → outer_target nexts b o ≡ outer_target confs b o
  target_next b None = refl
  target_next b (Some o) = with_prefix 0 confs a r next o.dst at (ap (λ (z : RouterConf). z.prefix) later.one)

  means_next : (x : DataItem) (o : Option ℕ) → MeansAt (router_at confs o) x → MeansAt (router_at nexts o) x
  means_next x None h = h
  means_next x (Some place) h = by (slice_get confs place) refl h
    where
      by : (q : Option RouterConf) → slice_get confs place ≡ q → MeansAt q x → MeansAt (slice_get nexts place) x
      by None e h = absurd h
      by (Some q) e h =
          let n = next_of q (record { place = place; there = e }) in
          subst (λ (z : Option RouterConf). MeansAt z x) (sym n.there) (n.is.kept x.kind x.bift x.triple h)

  copy_next : (injections b : ℕ) (x : DataItem) → IsTrueCopy confs injections b x → IsTrueCopy nexts injections b x
  copy_next injections b x t = record {
    told = t.told;
    made = t.made;
    some = t.some;
    ids = t.ids;
    bfr_ids = t.bfr_ids;
    lives = t.lives;
    ttl = t.ttl;
    entropy = t.entropy;
    bfir = t.bfir;
    payload = t.payload;
    sd = t.sd;
    si = t.si;
    bift = t.bift;
    outer = outer_next x.outer t.outer;
    means = subst (λ (o : Option ℕ). MeansAt (router_at nexts o) x) (sym (target_next b x.outer)) (means_next x (outer_target confs b x.outer) t.means);
  }

  pub item_next : (injections b : ℕ) (x : Item) → IsTrueItem confs injections b x → IsTrueItem nexts injections b x
  item_next injections b (ControlItem p) t = pdu_next p t
  item_next injections b (PacketItem x) t = copy_next injections b x t

  -- ---- the routers

  abbrev IsTrueRest : List RouterConf → Control → Type 0
  IsTrueRest rs c = IsRouter c × AllByRecursion (IsTrueEntry rs) c.entries × IsUnsent c.flood c.entries

  -- all routers, one of which has changed
  pub controls_next : (cs : List Control) (e : Control) → map (λ c. c.conf) (slice_set cs a e) ≡ nexts → AllByRecursion (IsTrueControl confs) cs → IsRouter e → IsTrueState nexts e.flood e.entries → AllByRecursion (IsTrueControl nexts) (slice_set cs a e)
  controls_next cs e same all kept s =
      let rest : AllByRecursion (IsTrueRest nexts) cs = each_weaker (IsTrueControl confs) (IsTrueRest nexts) (λ c t. (t.kept, entries_next c.entries t.entries, t.unsent)) cs all in
      let among : AllByRecursion (λ c. IsAmong nexts c.conf) (slice_set cs a e) = subst (λ (rs : List RouterConf). AllByRecursion (λ c. IsAmong rs c.conf) (slice_set cs a e)) same (controls_among (slice_set cs a e)) in
      each_weaker (λ c. IsAmong nexts c.conf × IsTrueRest nexts c) (IsTrueControl nexts) (λ c h. record { among = h.0; kept = h.1.0; entries = h.1.1; unsent = h.1.2 }) (slice_set cs a e)
      (each_both (λ c. IsAmong nexts c.conf) (IsTrueRest nexts) (slice_set cs a e) among (each_set (IsTrueRest nexts) cs a e rest (kept, s.entries_true, s.unsent)))
