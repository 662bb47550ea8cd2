-- What holds of the entries that each array of a domain file gives.
use Rattle.std.proofs.Common.{◌≡◌, ℕ, ◌+◌, ◌≤◌, true, false, not, ◌||◌, ltb, List, [], ◌∷◌, Ok, subst, arith}
use Rattle.std.proofs.lemmas.Bool.{or_parts, and_parts, ltb-false, not-false}
use Rattle.std.specs.List.{list_any}
use Rattle.std.specs.Prelude.{codes, is_none}
use Rattle.toml.specs.Data.{Data, get, as_str}
use Rattle.wire_base.specs.declared.limits.TheConstants.{LAST_LABEL}
use Rattle.wire_base.specs.declared.conf.SubKind.{SubKind}
use Rattle.wire_base.specs.declared.conf.TableRow.{TableRow}
use Rattle.wire_base.specs.declared.conf.LabelRange.{LabelRange}
use Rattle.wire_base.specs.model.Configuration.{IsOctets, IsPrefix, IsLabelRange, IsTableRow, is_name, same_kind, same_row, same_bift}
use Rattle.wire_base.specs.model.Place.{kind_of, is_mpls, is_configured}
use Rattle.domain_conf.specs.declared.fault.ConfFault.{ConfFault}
use Rattle.domain_conf.specs.declared.fault.ConfFault.TheVariants as fault
use Rattle.domain_conf.specs.declared.routers.RouterEntry.{RouterEntry}
use Rattle.domain_conf.specs.declared.bier.BierEntry.{BierEntry}
use Rattle.domain_conf.specs.declared.labels.LabelsEntry.{LabelsEntry}
use Rattle.domain_conf.specs.Fields.{known_keys, number, text, flag, bsl as bsl_key}
use Rattle.domain_conf.specs.Forms.{name_in, system_in, prefix_in}
use Rattle.domain_conf.specs.Subdomains.{kind_at, subdomain_in, known_sd}
use Rattle.domain_conf.specs.Rows.{row_in}
use Rattle.domain_conf.specs.Routers.{has_name, has_system, has_prefix, router_in, known_router}
use Rattle.domain_conf.specs.Bier.{is_member, bier_in}
use Rattle.domain_conf.specs.LabelRanges.{takes_labels, same_labels, takes_label, labels_in}
use Rattle.domain_conf.proofs.ValidLists.{bind_ok, passed, ok_is}
use Rattle.domain_conf.proofs.ValidForms.{number_ok, field_ok, name_ok, system_ok, prefix_ok}

-- ---- references

-- the sub-domain is one of the file's
pub sd_ok : (kinds : List SubKind) (at : List ℕ → List ℕ) (d : Data) (sd : ℕ) → known_sd kinds at d ≡ Ok sd → (sd ≤ 255) × (is_none (kind_of kinds sd) ≡ false)
sd_ok kinds at d sd e =
    let p = bind_ok (number 0 255 at (codes "sd") d) _ sd e in
    let q = passed (is_none (kind_of kinds p.0)) (fault.Reference (at (codes "sd"))) _ sd p.2 in
    let n = number_ok 0 255 at (codes "sd") d p.0 p.1 in
    subst (λ (k : ℕ). (k ≤ 255) × (is_none (kind_of kinds k) ≡ false)) (ok_is p.0 sd q.1) (n.1, q.0)

-- ---- sub-domains

pub record SubdomainPassed (earlier : List SubKind) (k : SubKind) : Type 0 where
  pub sd : k.sd ≤ 255
  pub new : list_any (same_kind k) earlier ≡ false

pub subdomain_passed : (at : List ℕ → List ℕ) (earlier : List SubKind) (d : Data) (k : SubKind) → subdomain_in at earlier d ≡ Ok k → SubdomainPassed earlier k
subdomain_passed at earlier d k e =
    let p = bind_ok (known_keys at (codes "sd" ∷ codes "kind" ∷ []) d) _ k e in
    let q = bind_ok (number 0 255 at (codes "sd") d) _ k p.2 in
    let r = bind_ok (kind_at at d) _ k q.2 in
    let n = number_ok 0 255 at (codes "sd") d q.0 q.1 in
    let made : SubKind = record { sd = q.0; kind = r.0 } in
    let s = passed (list_any (same_kind made) earlier) (fault.Duplicate (at (codes "sd"))) _ k r.2 in
    subst (SubdomainPassed earlier) (ok_is made k s.1) (record { sd = n.1; new = s.0 })

-- ---- rows

pub record RowPassed (kinds : List SubKind) (earlier : List TableRow) (row : TableRow) : Type 0 where
  pub fits : IsTableRow row
  pub kind : is_configured (kind_of kinds row.triple.sd) ≡ true
  pub triple : list_any (same_row row) earlier ≡ false
  pub bift : list_any (same_bift row) earlier ≡ false

pub row_passed : (at : List ℕ → List ℕ) (kinds : List SubKind) (earlier : List TableRow) (d : Data) (row : TableRow) → row_in at kinds earlier d ≡ Ok row → RowPassed kinds earlier row
row_passed at kinds earlier d row e =
    let p = bind_ok (known_keys at (codes "sd" ∷ codes "bsl" ∷ codes "si" ∷ codes "bift" ∷ []) d) _ row e in
    let a = bind_ok (known_sd kinds at d) _ row p.2 in
    let b = bind_ok (bsl_key at d) _ row a.2 in
    let c = bind_ok (number 0 255 at (codes "si") d) _ row b.2 in
    let f = bind_ok (number 1 LAST_LABEL at (codes "bift") d) _ row c.2 in
    let made : TableRow = record { triple = record { sd = a.0; bsl = b.0; si = c.0 }; bift = f.0 } in
    let x = passed (not (is_configured (kind_of kinds a.0))) (fault.Reference (at (codes "sd"))) _ row f.2 in
    let y = passed (list_any (same_row made) earlier) (fault.Duplicate (at (codes "si"))) _ row x.1 in
    let z = passed (list_any (same_bift made) earlier) (fault.Duplicate (at (codes "bift"))) _ row y.1 in
    let sd = sd_ok kinds at d a.0 a.1 in
    let si = number_ok 0 255 at (codes "si") d c.0 c.1 in
    let bift = number_ok 1 LAST_LABEL at (codes "bift") d f.0 f.1 in
    subst (RowPassed kinds earlier) (ok_is made row z.1) (record {
      fits = record { sd = omega (arith, sd.0); si = omega (arith, si.1); some = bift.0; last = bift.1 };
      kind = not-false (is_configured (kind_of kinds a.0)) x.0;
      triple = y.0;
      bift = z.0;
    })

-- ---- routers

pub record RouterPassed (earlier : List RouterEntry) (r : RouterEntry) : Type 0 where
  pub name : is_name r.name ≡ true
  pub system : IsOctets 6 r.system.0
  pub prefix : IsPrefix r.prefix.0
  pub new_name : list_any (has_name r.name) earlier ≡ false
  pub new_system : list_any (has_system r.system.0) earlier ≡ false
  pub new_prefix : list_any (has_prefix r.prefix.0) earlier ≡ false

pub router_passed : (at : List ℕ → List ℕ) (earlier : List RouterEntry) (d : Data) (r : RouterEntry) → router_in at earlier d ≡ Ok r → RouterPassed earlier r
router_passed at earlier d r e =
    let p = bind_ok (known_keys at (codes "name" ∷ codes "system" ∷ codes "prefix" ∷ codes "overload" ∷ []) d) _ r e in
    let a = bind_ok (text name_in at (codes "name") d) _ r p.2 in
    let b = bind_ok (text system_in at (codes "system") d) _ r a.2 in
    let c = bind_ok (text prefix_in at (codes "prefix") d) _ r b.2 in
    let f = bind_ok (flag at (codes "overload") d) _ r c.2 in
    let made : RouterEntry = record { name = a.0; system = b.0; prefix = c.0; overload = f.0 } in
    let x = passed (list_any (has_name a.0) earlier) (fault.Duplicate (at (codes "name"))) _ r f.2 in
    let y = passed (list_any (has_system b.0.0) earlier) (fault.Duplicate (at (codes "system"))) _ r x.1 in
    let z = passed (list_any (has_prefix c.0.0) earlier) (fault.Duplicate (at (codes "prefix"))) _ r y.1 in
    let name = field_ok as_str name_in (at (codes "name")) (get (codes "name") d) a.0 a.1 in
    let system = field_ok as_str system_in (at (codes "system")) (get (codes "system") d) b.0 b.1 in
    let prefix = field_ok as_str prefix_in (at (codes "prefix")) (get (codes "prefix") d) c.0 c.1 in
    subst (RouterPassed earlier) (ok_is made r z.1) (record {
      name = name_ok name.0 a.0 name.1;
      system = system_ok system.0 b.0 system.1;
      prefix = prefix_ok prefix.0 c.0 prefix.1;
      new_name = x.0;
      new_system = y.0;
      new_prefix = z.0;
    })

-- ---- places in sub-domains

pub record BierPassed (kinds : List SubKind) (earlier : List BierEntry) (b : BierEntry) : Type 0 where
  pub sd : b.sd ≤ 255
  pub kind : is_none (kind_of kinds b.sd) ≡ false
  pub id : b.id ≤ 65535
  pub new : list_any (is_member b.router b.sd) earlier ≡ false

pub bier_passed : (at : List ℕ → List ℕ) (kinds : List SubKind) (routers : List RouterEntry) (earlier : List BierEntry) (d : Data) (b : BierEntry) → bier_in at kinds routers earlier d ≡ Ok b → BierPassed kinds earlier b
bier_passed at kinds routers earlier d b e =
    let p = bind_ok (known_keys at (codes "router" ∷ codes "sd" ∷ codes "id" ∷ []) d) _ b e in
    let r = bind_ok (known_router routers at (codes "router") d) _ b p.2 in
    let s = bind_ok (known_sd kinds at d) _ b r.2 in
    let i = bind_ok (number 0 65535 at (codes "id") d) _ b s.2 in
    let made : BierEntry = record { router = r.0; sd = s.0; id = i.0 } in
    let x = passed (list_any (is_member r.0 s.0) earlier) (fault.Duplicate (at (codes "sd"))) _ b i.2 in
    let sd = sd_ok kinds at d s.0 s.1 in
    let id = number_ok 0 65535 at (codes "id") d i.0 i.1 in
    subst (BierPassed kinds earlier) (ok_is made b x.1) (record { sd = sd.0; kind = sd.1; id = id.1; new = x.0 })

-- ---- label ranges

pub record LabelsPassed (kinds : List SubKind) (earlier : List LabelsEntry) (l : LabelsEntry) : Type 0 where
  pub range : IsLabelRange l.range
  pub kind : is_mpls (kind_of kinds l.sd) ≡ true
  pub new : list_any (same_labels l) earlier ≡ false
  pub free : list_any (takes_label l) earlier ≡ false

pub labels_passed : (at : List ℕ → List ℕ) (kinds : List SubKind) (routers : List RouterEntry) (biers : List BierEntry) (earlier : List LabelsEntry) (d : Data) (l : LabelsEntry)
    → labels_in at kinds routers biers earlier d ≡ Ok l → LabelsPassed kinds earlier l
labels_passed at kinds routers biers earlier d l e =
    let p = bind_ok (known_keys at (codes "router" ∷ codes "sd" ∷ codes "bsl" ∷ codes "max_si" ∷ codes "label" ∷ []) d) _ l e in
    let r = bind_ok (known_router routers at (codes "router") d) _ l p.2 in
    let s = bind_ok (known_sd kinds at d) _ l r.2 in
    let b = bind_ok (bsl_key at d) _ l s.2 in
    let m = bind_ok (number 0 255 at (codes "max_si") d) _ l b.2 in
    let n = bind_ok (number 16 LAST_LABEL at (codes "label") d) _ l m.2 in
    let range : LabelRange = record { bsl = b.0; max_si = m.0; label = n.0 } in
    let made : LabelsEntry = record { router = r.0; sd = s.0; range = range } in
    let x = passed (not (takes_labels kinds biers r.0 s.0)) (fault.Reference (at (codes "sd"))) _ l n.2 in
    let y = passed (list_any (same_labels made) earlier) (fault.Duplicate (at (codes "bsl"))) _ l x.1 in
    let z = passed (ltb LAST_LABEL (n.0 + m.0) || list_any (takes_label made) earlier) (fault.Labels (at (codes "label"))) _ l y.1 in
    let w = or_parts (ltb LAST_LABEL (n.0 + m.0)) (list_any (takes_label made) earlier) z.0 in
    let max_si = number_ok 0 255 at (codes "max_si") d m.0 m.1 in
    let label = number_ok 16 LAST_LABEL at (codes "label") d n.0 n.1 in
    let may = and_parts (list_any (is_member r.0 s.0) biers) (is_mpls (kind_of kinds s.0)) (not-false (takes_labels kinds biers r.0 s.0) x.0) in
    subst (LabelsPassed kinds earlier) (ok_is made l z.1) (record {
      range = record { max_si = omega (arith, max_si.1); first = label.0; last = ltb-false LAST_LABEL (n.0 + m.0) w.0 };
      kind = may.1;
      new = y.0;
      free = w.1;
    })
