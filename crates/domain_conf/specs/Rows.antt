-- The entries of `row`: the BIFT-id table of the sub-domains with non-MPLS encapsulation.
use Rattle.std.specs.Prelude.{ℕ, not, List, [], ◌∷◌, Result, Ok, Err, codes}
use Rattle.std.specs.List.{list_any}
use Rattle.toml.specs.Data.{Data}
use Rattle.wire_base.specs.declared.limits.TheConstants.{LAST_LABEL}
use Rattle.wire_base.specs.declared.conf.SubKind.{SubKind}
use Rattle.wire_base.specs.declared.conf.TableRow.{TableRow}
use Rattle.wire_base.specs.model.Configuration.{same_row, same_bift}
use Rattle.wire_base.specs.model.Fields.{◌>>=◌}
use Rattle.wire_base.specs.model.Place.{kind_of, is_configured}
use Rattle.domain_conf.specs.declared.fault.ConfFault.{ConfFault}
use Rattle.domain_conf.specs.declared.fault.ConfFault.TheVariants as fault
use Rattle.domain_conf.specs.Reading.{refuse_if}
use Rattle.domain_conf.specs.Fields.{entry_path, known_keys, number, bsl as bsl_key}
use Rattle.domain_conf.specs.Subdomains.{known_sd}

-- a row's sub-domain has non-MPLS encapsulation, and no two rows have the same triple or the same BIFT-id
abbrev pub new_row : (List ℕ → List ℕ) → List SubKind → List TableRow → TableRow → Result TableRow ConfFault
new_row at kinds earlier row = do
  _ ← refuse_if (not (is_configured (kind_of kinds row.triple.sd))) (fault.Reference (at (codes "sd")))
  _ ← refuse_if (list_any (same_row row) earlier) (fault.Duplicate (at (codes "si")))
  _ ← refuse_if (list_any (same_bift row) earlier) (fault.Duplicate (at (codes "bift")))
  Ok row

abbrev pub row_in : (List ℕ → List ℕ) → List SubKind → List TableRow → Data → Result TableRow ConfFault
row_in at kinds earlier d = do
  _ ← known_keys at (codes "sd" ∷ codes "bsl" ∷ codes "si" ∷ codes "bift" ∷ []) d
  sd ← known_sd kinds at d
  bsl ← bsl_key at d
  si ← number 0 255 at (codes "si") d
  bift ← number 1 LAST_LABEL at (codes "bift") d
  new_row at kinds earlier (record { triple = record { sd = sd; bsl = bsl; si = si }; bift = bift })

unfoldable pub row_at : List SubKind → List TableRow → ℕ → Data → Result TableRow ConfFault
row_at kinds earlier i d = row_in (entry_path (codes "row") i) kinds earlier d
