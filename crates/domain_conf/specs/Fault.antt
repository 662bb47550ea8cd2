-- The number, the name and the path that a report has for a broken rule.
use Rattle.std.specs.Prelude.{ℕ, List, [], ◌∷◌, codes}
use Rattle.domain_conf.specs.declared.fault.ConfFault.{ConfFault}
use Rattle.domain_conf.specs.declared.fault.ConfFault.TheVariants.{Toml, Field, Duplicate, Range, Labels, Reference, Limit, Memory}

-- the rules are numbered from 1
abbrev pub number_of : ConfFault → ℕ
number_of Toml = 1
number_of (Field path) = 2
number_of (Duplicate path) = 3
number_of (Range path) = 4
number_of (Labels path) = 5
number_of (Reference path) = 6
number_of (Limit path) = 7
number_of Memory = 0

abbrev pub name_of : ConfFault → List ℕ
name_of Toml = codes "Toml"
name_of (Field path) = codes "Field"
name_of (Duplicate path) = codes "Duplicate"
name_of (Range path) = codes "Range"
name_of (Labels path) = codes "Labels"
name_of (Reference path) = codes "Reference"
name_of (Limit path) = codes "Limit"
name_of Memory = codes "Memory"

-- the location that an error names, `-` for the whole file
abbrev pub path_of : ConfFault → List ℕ
path_of Toml = 45 ∷ []
path_of (Field path) = path
path_of (Duplicate path) = path
path_of (Range path) = path
path_of (Labels path) = path
path_of (Reference path) = path
path_of (Limit path) = path
path_of Memory = 45 ∷ []
