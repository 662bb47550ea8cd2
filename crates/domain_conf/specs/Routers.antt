-- The entries of `router`.
use Rattle.std.specs.Prelude.{◌≡◌, ℕ, Bool, List, [], ◌∷◌, Option, option_and_then, Result, Ok, Err, codes}
use Rattle.std.specs.List.{list_any, position_from}
use Rattle.std.specs.Str.{bytes_eq}
use Rattle.toml.specs.Data.{Data, get, as_str}
use Rattle.wire_base.specs.declared.addresses.SystemId.{SystemId}
use Rattle.wire_base.specs.declared.addresses.Ipv4.{Ipv4}
use Rattle.wire_base.specs.model.Fields.{◌>>=◌}
use Rattle.domain_conf.specs.declared.fault.ConfFault.{ConfFault}
use Rattle.domain_conf.specs.declared.fault.ConfFault.TheVariants as fault
use Rattle.domain_conf.specs.declared.routers.RouterEntry.{RouterEntry}
use Rattle.domain_conf.specs.Reading.{or_fault, refuse_if}
use Rattle.domain_conf.specs.Fields.{entry_path, known_keys, text, flag}
use Rattle.domain_conf.specs.Forms.{name_in, system_in, prefix_in}

abbrev pub has_name : List ℕ → RouterEntry → Bool
has_name name r = bytes_eq r.name name

abbrev pub has_system : List ℕ → RouterEntry → Bool
has_system system r = bytes_eq r.system.0 system

abbrev pub has_prefix : List ℕ → RouterEntry → Bool
has_prefix prefix r = bytes_eq r.prefix.0 prefix

-- names, system IDs and prefixes of routers differ
abbrev pub new_router : (List ℕ → List ℕ) → List RouterEntry → RouterEntry → Result RouterEntry ConfFault
new_router at earlier r = do
  _ ← refuse_if (list_any (has_name r.name) earlier) (fault.Duplicate (at (codes "name")))
  _ ← refuse_if (list_any (has_system r.system.0) earlier) (fault.Duplicate (at (codes "system")))
  _ ← refuse_if (list_any (has_prefix r.prefix.0) earlier) (fault.Duplicate (at (codes "prefix")))
  Ok r

abbrev pub name_at : (List ℕ → List ℕ) → Data → Result (List ℕ) ConfFault
name_at at d = text name_in at (codes "name") d

abbrev pub system_at : (List ℕ → List ℕ) → Data → Result SystemId ConfFault
system_at at d = text system_in at (codes "system") d

abbrev pub prefix_at : (List ℕ → List ℕ) → Data → Result Ipv4 ConfFault
prefix_at at d = text prefix_in at (codes "prefix") d

abbrev pub router_in : (List ℕ → List ℕ) → List RouterEntry → Data → Result RouterEntry ConfFault
router_in at earlier d = do
  _ ← known_keys at (codes "name" ∷ codes "system" ∷ codes "prefix" ∷ codes "overload" ∷ []) d
  name ← name_at at d
  system ← system_at at d
  prefix ← prefix_at at d
  overload ← flag at (codes "overload") d
  new_router at earlier (record { name = name; system = system; prefix = prefix; overload = overload })

unfoldable pub router_at : List RouterEntry → ℕ → Data → Result RouterEntry ConfFault
router_at earlier i d = router_in (entry_path (codes "router") i) earlier d

-- the index of the router with that name
unfoldable pub place_of : List RouterEntry → List ℕ → Option ℕ
place_of routers name = position_from (has_name name) 0 routers

-- the index of the router that another entry names at a key; an unknown name is the error Reference
unfoldable pub known_router : List RouterEntry → (List ℕ → List ℕ) → List ℕ → Data → Result ℕ ConfFault
known_router routers at key d = do
  name ← or_fault (fault.Field (at key)) (option_and_then as_str (get key d))
  or_fault (fault.Reference (at key)) (place_of routers name)
