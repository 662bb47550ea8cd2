-- What holds of all entries of each array of a domain file.
use Rattle.std.proofs.Common.{◌≡◌, ℕ, ◌+◌, ◌<◌, ◌≤◌, Bool, true, false, ◌&&◌, ◌||◌, eqb, leb, List, [], ◌∷◌, ◌++◌, length, Result, Ok, refl, sym, subst, ◌∙◌, arith, length-append}
use mathlib.Core.Bool.{false≢true}
use Rattle.std.proofs.lemmas.Bool.{eqb-true, eq-eqb, or_parts, or_from}
use Rattle.std.specs.List.{AllByRecursion, list_any}
use Rattle.std.specs.Prelude.{codes, is_none}
use Rattle.std.specs.Str.{bytes_eq}
use Rattle.toml.specs.Data.{Data}
use Rattle.wire_base.specs.declared.conf.SubKind.{SubKind}
use Rattle.wire_base.specs.declared.conf.TableRow.{TableRow}
use Rattle.wire_base.specs.declared.conf.LabelRange.{LabelRange}
use Rattle.wire_base.specs.model.Configuration.{IsOctets, IsPrefix, IsStation, IsLabelRange, IsTableRow, is_name, same_kind, same_row, same_bift, same_length, share_label}
use Rattle.wire_base.specs.model.Lists.{AreApart}
use Rattle.wire_base.specs.model.Place.{kind_of, is_mpls, is_configured, code_of}
use Rattle.domain_conf.specs.declared.fault.ConfFault.{ConfFault}
use Rattle.domain_conf.specs.declared.routers.RouterEntry.{RouterEntry}
use Rattle.domain_conf.specs.declared.bier.BierEntry.{BierEntry}
use Rattle.domain_conf.specs.declared.labels.LabelsEntry.{LabelsEntry}
use Rattle.domain_conf.specs.declared.links.LinkEntry.{LinkEntry}
use Rattle.domain_conf.specs.Fields.{entry_path}
use Rattle.domain_conf.specs.Arrays.{entries_from}
use Rattle.domain_conf.specs.Subdomains.{subdomain_at}
use Rattle.domain_conf.specs.Rows.{row_at}
use Rattle.domain_conf.specs.Routers.{has_name, has_system, has_prefix, router_at}
use Rattle.domain_conf.specs.Bier.{is_member, bier_at}
use Rattle.domain_conf.specs.LabelRanges.{same_labels, takes_label, labels_at}
use Rattle.domain_conf.specs.Links.{same_routers, has_peer_mac, link_at}
use Rattle.domain_conf.proofs.ValidLists.{bind_ok, ok_is, all_snoc, apart_snoc, entries_keep}
use Rattle.domain_conf.proofs.ValidEntries.{subdomain_passed, row_passed, router_passed, bier_passed, labels_passed}
use Rattle.domain_conf.proofs.ValidLinks.{link_passed}

-- ---- tests that say the same both ways

-- two tests that follow from each other say the same
same_test : (b c : Bool) → (b ≡ true → c ≡ true) → (c ≡ true → b ≡ true) → b ≡ c
same_test true true f g = refl
same_test true false f g = absurd (false≢true (f refl))
same_test false true f g = absurd (false≢true (g refl))
same_test false false f g = refl

pub eqb_turned : (a b : ℕ) → eqb a b ≡ eqb b a
eqb_turned a b = same_test (eqb a b) (eqb b a) (λ h. eq-eqb b a (sym (eqb-true a b h))) (λ h. eq-eqb a b (sym (eqb-true b a h)))

and_alike : (a b c d : Bool) → a ≡ c → b ≡ d → (a && b) ≡ (c && d)
and_alike a b c d e f = rw (e, f) refl

or_alike : (a b c d : Bool) → a ≡ c → b ≡ d → (a || b) ≡ (c || d)
or_alike a b c d e f = rw (e, f) refl

pub bytes_turned : (xs ys : List ℕ) → bytes_eq xs ys ≡ bytes_eq ys xs
bytes_turned [] [] = refl
bytes_turned [] (y ∷ ys) = refl
bytes_turned (x ∷ xs) [] = refl
bytes_turned (x ∷ xs) (y ∷ ys) = and_alike (eqb x y) (bytes_eq xs ys) (eqb y x) (bytes_eq ys xs) (eqb_turned x y) (bytes_turned xs ys)

kind_turned : (k l : SubKind) → same_kind k l ≡ same_kind l k
kind_turned k l = eqb_turned k.sd l.sd

row_turned : (r q : TableRow) → same_row r q ≡ same_row q r
row_turned r q =
    and_alike (eqb r.triple.sd q.triple.sd) (eqb (code_of r.triple.bsl) (code_of q.triple.bsl) && eqb r.triple.si q.triple.si) (eqb q.triple.sd r.triple.sd) (eqb (code_of q.triple.bsl) (code_of r.triple.bsl) && eqb q.triple.si r.triple.si)
    (eqb_turned r.triple.sd q.triple.sd)
    (and_alike (eqb (code_of r.triple.bsl) (code_of q.triple.bsl)) (eqb r.triple.si q.triple.si) (eqb (code_of q.triple.bsl) (code_of r.triple.bsl)) (eqb q.triple.si r.triple.si) (eqb_turned (code_of r.triple.bsl) (code_of q.triple.bsl)) (eqb_turned r.triple.si q.triple.si))

bift_turned : (r q : TableRow) → same_bift r q ≡ same_bift q r
bift_turned r q = eqb_turned r.bift q.bift

-- two routers of one name, one system, one prefix
abbrev pub of_name : RouterEntry → RouterEntry → Bool
of_name r q = has_name r.name q

abbrev pub of_system : RouterEntry → RouterEntry → Bool
of_system r q = has_system r.system.0 q

abbrev pub of_prefix : RouterEntry → RouterEntry → Bool
of_prefix r q = has_prefix r.prefix.0 q

-- one router in one sub-domain
abbrev pub of_sub : BierEntry → BierEntry → Bool
of_sub b c = is_member b.router b.sd c

sub_turned : (b c : BierEntry) → of_sub b c ≡ of_sub c b
sub_turned b c = and_alike (eqb c.router b.router) (eqb c.sd b.sd) (eqb b.router c.router) (eqb b.sd c.sd) (eqb_turned c.router b.router) (eqb_turned c.sd b.sd)

labels_turned : (l m : LabelsEntry) → same_labels l m ≡ same_labels m l
labels_turned l m =
    and_alike (eqb m.router l.router) (eqb m.sd l.sd && same_length l.range m.range) (eqb l.router m.router) (eqb l.sd m.sd && same_length m.range l.range)
    (eqb_turned m.router l.router)
    (and_alike (eqb m.sd l.sd) (same_length l.range m.range) (eqb l.sd m.sd) (same_length m.range l.range) (eqb_turned m.sd l.sd) (eqb_turned (code_of l.range.bsl) (code_of m.range.bsl)))

and_turned : (a b : Bool) → (a && b) ≡ (b && a)
and_turned true true = refl
and_turned true false = refl
and_turned false true = refl
and_turned false false = refl

pub share_turned : (x y : LabelRange) → share_label x y ≡ share_label y x
share_turned x y = and_turned (leb x.label (y.label + y.max_si)) (leb y.label (x.label + x.max_si))

pub label_turned : (l m : LabelsEntry) → takes_label l m ≡ takes_label m l
label_turned l m = and_alike (eqb m.router l.router) (share_label l.range m.range) (eqb l.router m.router) (share_label m.range l.range) (eqb_turned m.router l.router) (share_turned l.range m.range)

pair_turned : (l m : LinkEntry) → same_routers l m ≡ same_routers m l
pair_turned l m =
    or_alike (eqb l.a m.a && eqb l.b m.b) (eqb l.a m.b && eqb l.b m.a) (eqb m.a l.a && eqb m.b l.b) (eqb m.a l.b && eqb m.b l.a)
    (and_alike (eqb l.a m.a) (eqb l.b m.b) (eqb m.a l.a) (eqb m.b l.b) (eqb_turned l.a m.a) (eqb_turned l.b m.b))
    (and_turned (eqb l.a m.b) (eqb l.b m.a) ∙ and_alike (eqb l.b m.a) (eqb l.a m.b) (eqb m.a l.b) (eqb m.b l.a) (eqb_turned l.b m.a) (eqb_turned l.a m.b))

-- a router with two peers of one Ethernet address, by two links
abbrev pub share_peer_mac : LinkEntry → LinkEntry → Bool
share_peer_mac l m = has_peer_mac l.b l.mac_a m || has_peer_mac l.a l.mac_b m

mac_turned : (l m : LinkEntry) → share_peer_mac l m ≡ share_peer_mac m l
mac_turned l m = by (eqb_turned m.a l.b) (eqb_turned m.b l.b) (eqb_turned m.a l.a) (eqb_turned m.b l.a) (bytes_turned m.mac_b.0 l.mac_a.0) (bytes_turned m.mac_a.0 l.mac_a.0) (bytes_turned m.mac_b.0 l.mac_b.0) (bytes_turned m.mac_a.0 l.mac_b.0)
  where
    four : (a b c d : Bool) → ((a || b) || (c || d)) ≡ ((d || b) || (c || a))
    four true true c d = by_d d
      where
        by_d : (d : Bool) → true ≡ ((d || true) || (c || true))
        by_d true = refl
        by_d false = refl
    four true false c d = by_cd c d
      where
        by_cd : (c d : Bool) → true ≡ ((d || false) || (c || true))
        by_cd true true = refl
        by_cd true false = refl
        by_cd false true = refl
        by_cd false false = refl
    four false true c d = by_cd c d
      where
        by_cd : (c d : Bool) → true ≡ ((d || true) || (c || false))
        by_cd true true = refl
        by_cd true false = refl
        by_cd false true = refl
        by_cd false false = refl
    four false false true true = refl
    four false false true false = refl
    four false false false true = refl
    four false false false false = refl

    by : eqb m.a l.b ≡ eqb l.b m.a → eqb m.b l.b ≡ eqb l.b m.b → eqb m.a l.a ≡ eqb l.a m.a → eqb m.b l.a ≡ eqb l.a m.b → bytes_eq m.mac_b.0 l.mac_a.0 ≡ bytes_eq l.mac_a.0 m.mac_b.0 → bytes_eq m.mac_a.0 l.mac_a.0 ≡ bytes_eq l.mac_a.0 m.mac_a.0 → bytes_eq m.mac_b.0 l.mac_b.0 ≡ bytes_eq l.mac_b.0 m.mac_b.0 → bytes_eq m.mac_a.0 l.mac_b.0 ≡ bytes_eq l.mac_b.0 m.mac_a.0
        → share_peer_mac l m ≡ share_peer_mac m l
    by ab bb aa ba pb pa qb qa = rw (ab, bb, aa, ba, pb, pa, qb, qa) (four (eqb l.b m.a && bytes_eq l.mac_a.0 m.mac_b.0) (eqb l.b m.b && bytes_eq l.mac_a.0 m.mac_a.0) (eqb l.a m.a && bytes_eq l.mac_b.0 m.mac_b.0) (eqb l.a m.b && bytes_eq l.mac_b.0 m.mac_a.0))

-- ---- the arrays

pub record AreSubdomains (kinds : List SubKind) : Type 0 where
  pub each : AllByRecursion (λ k. k.sd ≤ 255) kinds
  pub once : AreApart same_kind kinds

pub subdomains_ok : (ds : List Data) (kinds : List SubKind) → entries_from subdomain_at [] 0 ds ≡ Ok kinds → AreSubdomains kinds
unfolding subdomain_at
subdomains_ok ds kinds e = entries_keep subdomain_at AreSubdomains step [] 0 ds kinds (record { each = tt; once = tt }) e
  where
    step : (earlier : List SubKind) (i : ℕ) (d : Data) (k : SubKind) → AreSubdomains earlier → subdomain_at earlier i d ≡ Ok k → AreSubdomains (earlier ++ k ∷ [])
    step earlier i d k q e =
        let p = subdomain_passed (entry_path (codes "subdomain") i) earlier d k e in
        record { each = all_snoc (λ k. k.sd ≤ 255) earlier k q.each p.sd; once = apart_snoc same_kind kind_turned earlier k q.once p.new }

pub record AreRows (kinds : List SubKind) (rows : List TableRow) : Type 0 where
  pub each : AllByRecursion IsTableRow rows
  pub kind : AllByRecursion (λ row. is_configured (kind_of kinds row.triple.sd) ≡ true) rows
  pub triples : AreApart same_row rows
  pub bifts : AreApart same_bift rows

pub rows_ok : (kinds : List SubKind) (ds : List Data) (rows : List TableRow) → entries_from (row_at kinds) [] 0 ds ≡ Ok rows → AreRows kinds rows
unfolding row_at
rows_ok kinds ds rows e = entries_keep (row_at kinds) (AreRows kinds) step [] 0 ds rows (record { each = tt; kind = tt; triples = tt; bifts = tt }) e
  where
    step : (earlier : List TableRow) (i : ℕ) (d : Data) (row : TableRow) → AreRows kinds earlier → row_at kinds earlier i d ≡ Ok row → AreRows kinds (earlier ++ row ∷ [])
    step earlier i d row q e =
        let p = row_passed (entry_path (codes "row") i) kinds earlier d row e in
        record {
          each = all_snoc IsTableRow earlier row q.each p.fits;
          kind = all_snoc (λ row. is_configured (kind_of kinds row.triple.sd) ≡ true) earlier row q.kind p.kind;
          triples = apart_snoc same_row row_turned earlier row q.triples p.triple;
          bifts = apart_snoc same_bift bift_turned earlier row q.bifts p.bift;
        }

pub record IsRouterEntry (r : RouterEntry) : Type 0 where
  pub name : is_name r.name ≡ true
  pub system : IsOctets 6 r.system.0
  pub prefix : IsPrefix r.prefix.0

pub record AreRouters (routers : List RouterEntry) : Type 0 where
  pub each : AllByRecursion IsRouterEntry routers
  pub names : AreApart of_name routers
  pub systems : AreApart of_system routers
  pub prefixes : AreApart of_prefix routers

pub routers_ok : (ds : List Data) (routers : List RouterEntry) → entries_from router_at [] 0 ds ≡ Ok routers → AreRouters routers
unfolding router_at
routers_ok ds routers e = entries_keep router_at AreRouters step [] 0 ds routers (record { each = tt; names = tt; systems = tt; prefixes = tt }) e
  where
    step : (earlier : List RouterEntry) (i : ℕ) (d : Data) (r : RouterEntry) → AreRouters earlier → router_at earlier i d ≡ Ok r → AreRouters (earlier ++ r ∷ [])
    step earlier i d r q e =
        let p = router_passed (entry_path (codes "router") i) earlier d r e in
        record {
          each = all_snoc IsRouterEntry earlier r q.each (record { name = p.name; system = p.system; prefix = p.prefix });
          names = apart_snoc of_name (λ a b. bytes_turned b.name a.name) earlier r q.names p.new_name;
          systems = apart_snoc of_system (λ a b. bytes_turned b.system.0 a.system.0) earlier r q.systems p.new_system;
          prefixes = apart_snoc of_prefix (λ a b. bytes_turned b.prefix.0 a.prefix.0) earlier r q.prefixes p.new_prefix;
        }

pub record IsBierEntry (kinds : List SubKind) (b : BierEntry) : Type 0 where
  pub sd : b.sd ≤ 255
  pub kind : is_none (kind_of kinds b.sd) ≡ false
  pub id : b.id ≤ 65535

pub record AreBiers (kinds : List SubKind) (biers : List BierEntry) : Type 0 where
  pub each : AllByRecursion (IsBierEntry kinds) biers
  pub once : AreApart of_sub biers

pub biers_ok : (kinds : List SubKind) (routers : List RouterEntry) (ds : List Data) (biers : List BierEntry) → entries_from (bier_at kinds routers) [] 0 ds ≡ Ok biers → AreBiers kinds biers
unfolding bier_at
biers_ok kinds routers ds biers e = entries_keep (bier_at kinds routers) (AreBiers kinds) step [] 0 ds biers (record { each = tt; once = tt }) e
  where
    step : (earlier : List BierEntry) (i : ℕ) (d : Data) (b : BierEntry) → AreBiers kinds earlier → bier_at kinds routers earlier i d ≡ Ok b → AreBiers kinds (earlier ++ b ∷ [])
    step earlier i d b q e =
        let p = bier_passed (entry_path (codes "bier") i) kinds routers earlier d b e in
        record {
          each = all_snoc (IsBierEntry kinds) earlier b q.each (record { sd = p.sd; kind = p.kind; id = p.id });
          once = apart_snoc of_sub sub_turned earlier b q.once p.new;
        }

pub record IsLabelsEntry (kinds : List SubKind) (l : LabelsEntry) : Type 0 where
  pub range : IsLabelRange l.range
  pub kind : is_mpls (kind_of kinds l.sd) ≡ true

pub record AreLabels (kinds : List SubKind) (labels : List LabelsEntry) : Type 0 where
  pub each : AllByRecursion (IsLabelsEntry kinds) labels
  pub lengths : AreApart same_labels labels
  pub free : AreApart takes_label labels

pub labels_ok : (kinds : List SubKind) (routers : List RouterEntry) (biers : List BierEntry) (ds : List Data) (labels : List LabelsEntry) → entries_from (labels_at kinds routers biers) [] 0 ds ≡ Ok labels → AreLabels kinds labels
unfolding labels_at
labels_ok kinds routers biers ds labels e = entries_keep (labels_at kinds routers biers) (AreLabels kinds) step [] 0 ds labels (record { each = tt; lengths = tt; free = tt }) e
  where
    step : (earlier : List LabelsEntry) (i : ℕ) (d : Data) (l : LabelsEntry) → AreLabels kinds earlier → labels_at kinds routers biers earlier i d ≡ Ok l → AreLabels kinds (earlier ++ l ∷ [])
    step earlier i d l q e =
        let p = labels_passed (entry_path (codes "labels") i) kinds routers biers earlier d l e in
        record {
          each = all_snoc (IsLabelsEntry kinds) earlier l q.each (record { range = p.range; kind = p.kind });
          lengths = apart_snoc same_labels labels_turned earlier l q.lengths p.new;
          free = apart_snoc takes_label label_turned earlier l q.free p.free;
        }

pub record IsLinkEntry (count : ℕ) (l : LinkEntry) : Type 0 where
  pub a : l.a < count
  pub b : l.b < count
  pub differ : eqb l.a l.b ≡ false
  pub some_ab : 1 ≤ l.metric_ab
  pub last_ab : l.metric_ab ≤ 16777214
  pub some_ba : 1 ≤ l.metric_ba
  pub last_ba : l.metric_ba ≤ 16777214
  pub mac_a : IsStation l.mac_a.0
  pub mac_b : IsStation l.mac_b.0

pub record AreLinks (count : ℕ) (links : List LinkEntry) : Type 0 where
  pub each : AllByRecursion (IsLinkEntry count) links
  pub once : AreApart same_routers links
  pub macs : AreApart share_peer_mac links

any_or : {X : Type 0} (p q : X → Bool) (xs : List X) → list_any p xs ≡ false → list_any q xs ≡ false → list_any (λ x. p x || q x) xs ≡ false
any_or p q [] h k = refl
any_or p q (x ∷ xs) h k =
    let a = or_parts (p x) (list_any p xs) h in
    let b = or_parts (q x) (list_any q xs) k in
    or_from (p x || q x) (list_any (λ x. p x || q x) xs) (or_from (p x) (q x) a.0 b.0) (any_or p q xs a.1 b.1)

pub links_ok : (routers : List RouterEntry) (ds : List Data) (links : List LinkEntry) → length routers ≤ 65536 → entries_from (link_at routers) [] 0 ds ≡ Ok links → AreLinks (length routers) links
unfolding link_at
links_ok routers ds links few e = entries_keep (link_at routers) (AreLinks (length routers)) step [] 0 ds links (record { each = tt; once = tt; macs = tt }) e
  where
    step : (earlier : List LinkEntry) (i : ℕ) (d : Data) (l : LinkEntry) → AreLinks (length routers) earlier → link_at routers earlier i d ≡ Ok l → AreLinks (length routers) (earlier ++ l ∷ [])
    step earlier i d l q e =
        let p = link_passed (entry_path (codes "link") i) routers earlier d l few e in
        record {
          each = all_snoc (IsLinkEntry (length routers)) earlier l q.each (record { a = p.a; b = p.b; differ = p.differ; some_ab = p.some_ab; last_ab = p.last_ab; some_ba = p.some_ba; last_ba = p.last_ba; mac_a = p.mac_a; mac_b = p.mac_b });
          once = apart_snoc same_routers pair_turned earlier l q.once p.new;
          macs = apart_snoc share_peer_mac mac_turned earlier l q.macs (any_or (has_peer_mac l.b l.mac_a) (has_peer_mac l.a l.mac_b) earlier p.new_a p.new_b);
        }

-- there are as many as tables
pub entries_length : {X : Type 0} (read : List X → ℕ → Data → Result X ConfFault) (earlier : List X) (i : ℕ) (ds : List Data) (all : List X) → entries_from read earlier i ds ≡ Ok all → length all ≡ length earlier + length ds
unfolding entries_from
entries_length read earlier i [] all e = let same = ok_is earlier all e in subst (λ (xs : List _). length xs ≡ length earlier + 0) same (omega arith)
entries_length read earlier i (d ∷ ds) all e =
    let p = bind_ok (read earlier i d) _ all e in
    let h = entries_length read (earlier ++ p.0 ∷ []) (i + 1) ds all p.2 in
    let n : length (earlier ++ p.0 ∷ []) ≡ length earlier + 1 = length-append earlier (p.0 ∷ []) in
    omega (arith, h, n)
