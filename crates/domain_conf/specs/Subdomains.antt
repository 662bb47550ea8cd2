-- The entries of `subdomain`: the encapsulation of each sub-domain, which determines its BIFT-ids.
use Rattle.std.specs.Prelude.{ℕ, List, [], ◌∷◌, is_none, Option, Result, Ok, Err, codes}
use Rattle.std.specs.List.{list_any}
use Rattle.toml.specs.Data.{Data}
use Rattle.wire_base.specs.declared.conf.Kind.{Kind}
use Rattle.wire_base.specs.declared.conf.SubKind.{SubKind}
use Rattle.wire_base.specs.model.Configuration.{same_kind}
use Rattle.wire_base.specs.model.Fields.{◌>>=◌}
use Rattle.wire_base.specs.model.Place.{kind_of}
use Rattle.domain_conf.specs.declared.fault.ConfFault.{ConfFault}
use Rattle.domain_conf.specs.declared.fault.ConfFault.TheVariants as fault
use Rattle.domain_conf.specs.Reading.{refuse_if}
use Rattle.domain_conf.specs.Fields.{entry_path, known_keys, number, text}
use Rattle.domain_conf.specs.Forms.{kind_named}

abbrev pub kind_at : (List ℕ → List ℕ) → Data → Result Kind ConfFault
kind_at at d = text kind_named at (codes "kind") d

-- a sub-domain occurs once
abbrev pub new_subdomain : (List ℕ → List ℕ) → List SubKind → SubKind → Result SubKind ConfFault
new_subdomain at earlier k = do
  _ ← refuse_if (list_any (same_kind k) earlier) (fault.Duplicate (at (codes "sd")))
  Ok k

abbrev pub subdomain_in : (List ℕ → List ℕ) → List SubKind → Data → Result SubKind ConfFault
subdomain_in at earlier d = do
  _ ← known_keys at (codes "sd" ∷ codes "kind" ∷ []) d
  sd ← number 0 255 at (codes "sd") d
  kind ← kind_at at d
  new_subdomain at earlier (record { sd = sd; kind = kind })

unfoldable pub subdomain_at : List SubKind → ℕ → Data → Result SubKind ConfFault
subdomain_at earlier i d = subdomain_in (entry_path (codes "subdomain") i) earlier d

-- the number at the key `sd` of another entry, which must be that of a sub-domain in the file
abbrev pub known_sd : List SubKind → (List ℕ → List ℕ) → Data → Result ℕ ConfFault
known_sd kinds at d = do
  sd ← number 0 255 at (codes "sd") d
  _ ← refuse_if (is_none (kind_of kinds sd)) (fault.Reference (at (codes "sd")))
  Ok sd
