-- The entries of `bier`: which routers are in which sub-domains.
use Rattle.std.specs.Prelude.{ℕ, Bool, ◌==◌, ◌&&◌, List, [], ◌∷◌, Result, Ok, Err, codes}
use Rattle.std.specs.List.{list_any}
use Rattle.toml.specs.Data.{Data}
use Rattle.wire_base.specs.declared.conf.SubKind.{SubKind}
use Rattle.wire_base.specs.model.Fields.{◌>>=◌}
use Rattle.domain_conf.specs.declared.fault.ConfFault.{ConfFault}
use Rattle.domain_conf.specs.declared.fault.ConfFault.TheVariants as fault
use Rattle.domain_conf.specs.declared.routers.RouterEntry.{RouterEntry}
use Rattle.domain_conf.specs.declared.bier.BierEntry.{BierEntry}
use Rattle.domain_conf.specs.Reading.{refuse_if}
use Rattle.domain_conf.specs.Fields.{entry_path, known_keys, number}
use Rattle.domain_conf.specs.Subdomains.{known_sd}
use Rattle.domain_conf.specs.Routers.{known_router}

-- whether an entry puts that router into that sub-domain
abbrev pub is_member : ℕ → ℕ → BierEntry → Bool
is_member router sd b = (b.router == router) && (b.sd == sd)

-- a router is in a sub-domain at most once
abbrev pub new_bier : (List ℕ → List ℕ) → List BierEntry → BierEntry → Result BierEntry ConfFault
new_bier at earlier b = do
  _ ← refuse_if (list_any (is_member b.router b.sd) earlier) (fault.Duplicate (at (codes "sd")))
  Ok b

abbrev pub bier_in : (List ℕ → List ℕ) → List SubKind → List RouterEntry → List BierEntry → Data → Result BierEntry ConfFault
bier_in at kinds routers earlier d = do
  _ ← known_keys at (codes "router" ∷ codes "sd" ∷ codes "id" ∷ []) d
  router ← known_router routers at (codes "router") d
  sd ← known_sd kinds at d
  id ← number 0 65535 at (codes "id") d
  new_bier at earlier (record { router = router; sd = sd; id = id })

unfoldable pub bier_at : List SubKind → List RouterEntry → List BierEntry → ℕ → Data → Result BierEntry ConfFault
bier_at kinds routers earlier i d = bier_in (entry_path (codes "bier") i) kinds routers earlier d
