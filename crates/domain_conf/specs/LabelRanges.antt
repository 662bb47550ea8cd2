-- The entries of `labels`: the label ranges of routers in sub-domains with MPLS encapsulation.
use Rattle.std.specs.Prelude.{ℕ, ◌+◌, Bool, not, ◌==◌, ◌&&◌, ◌||◌, nat_lt, List, [], ◌∷◌, Result, Ok, Err, codes}
use Rattle.std.specs.List.{list_any}
use Rattle.toml.specs.Data.{Data}
use Rattle.wire_base.specs.declared.limits.TheConstants.{LAST_LABEL}
use Rattle.wire_base.specs.declared.conf.LabelRange.{LabelRange}
use Rattle.wire_base.specs.declared.conf.SubKind.{SubKind}
use Rattle.wire_base.specs.model.Configuration.{same_length, share_label}
use Rattle.wire_base.specs.model.Fields.{◌>>=◌}
use Rattle.wire_base.specs.model.Place.{kind_of, is_mpls}
use Rattle.domain_conf.specs.declared.fault.ConfFault.{ConfFault}
use Rattle.domain_conf.specs.declared.fault.ConfFault.TheVariants as fault
use Rattle.domain_conf.specs.declared.routers.RouterEntry.{RouterEntry}
use Rattle.domain_conf.specs.declared.bier.BierEntry.{BierEntry}
use Rattle.domain_conf.specs.declared.labels.LabelsEntry.{LabelsEntry}
use Rattle.domain_conf.specs.Reading.{refuse_if}
use Rattle.domain_conf.specs.Fields.{entry_path, known_keys, number, bsl as bsl_key}
use Rattle.domain_conf.specs.Subdomains.{known_sd}
use Rattle.domain_conf.specs.Routers.{known_router}
use Rattle.domain_conf.specs.Bier.{is_member}

-- whether a router may have labels in a sub-domain: it is in it, and the encapsulation is MPLS
abbrev pub takes_labels : List SubKind → List BierEntry → ℕ → ℕ → Bool
takes_labels kinds biers router sd = list_any (is_member router sd) biers && is_mpls (kind_of kinds sd)

-- whether another entry has that router, sub-domain and BitStringLength
abbrev pub same_labels : LabelsEntry → LabelsEntry → Bool
same_labels l m = (m.router == l.router) && ((m.sd == l.sd) && same_length l.range m.range)

-- whether another entry of the router, in any sub-domain, has one of those labels
abbrev pub takes_label : LabelsEntry → LabelsEntry → Bool
takes_label l m = (m.router == l.router) && share_label l.range m.range

-- A range does not exceed the last label of 20 bits (RFC 3032, 2.1), and does not overlap another range of its router.
abbrev pub new_labels : (List ℕ → List ℕ) → List SubKind → List BierEntry → List LabelsEntry → LabelsEntry → Result LabelsEntry ConfFault
new_labels at kinds biers earlier l = do
  _ ← refuse_if (not (takes_labels kinds biers l.router l.sd)) (fault.Reference (at (codes "sd")))
  _ ← refuse_if (list_any (same_labels l) earlier) (fault.Duplicate (at (codes "bsl")))
  _ ← refuse_if (nat_lt LAST_LABEL (l.range.label + l.range.max_si) || list_any (takes_label l) earlier) (fault.Labels (at (codes "label")))
  Ok l

abbrev pub labels_in : (List ℕ → List ℕ) → List SubKind → List RouterEntry → List BierEntry → List LabelsEntry → Data → Result LabelsEntry ConfFault
labels_in at kinds routers biers earlier d = do
  _ ← known_keys at (codes "router" ∷ codes "sd" ∷ codes "bsl" ∷ codes "max_si" ∷ codes "label" ∷ []) d
  router ← known_router routers at (codes "router") d
  sd ← known_sd kinds at d
  bsl ← bsl_key at d
  max_si ← number 0 255 at (codes "max_si") d
  label ← number 16 LAST_LABEL at (codes "label") d
  new_labels at kinds biers earlier (record { router = router; sd = sd; range = record { bsl = bsl; max_si = max_si; label = label } })

unfoldable pub labels_at : List SubKind → List RouterEntry → List BierEntry → List LabelsEntry → ℕ → Data → Result LabelsEntry ConfFault
labels_at kinds routers biers earlier i d = labels_in (entry_path (codes "labels") i) kinds routers biers earlier d
