-- Arrays of tables, and how their entries are read.
use Rattle.std.specs.Prelude.{ℕ, ◌+◌, nat_lt, List, [], ◌∷◌, ◌++◌, length, Option, Some, None, option_map, option_and_then, Result, Ok, Err, if◌then◌else◌}
use Rattle.toml.specs.Data.{Data, table, Items, no_items, item, Members, get_member, as_array}
use Rattle.wire_base.specs.model.Fields.{◌>>=◌}
use Rattle.domain_conf.specs.declared.fault.ConfFault.{ConfFault}
use Rattle.domain_conf.specs.declared.fault.ConfFault.TheVariants as fault
use Rattle.domain_conf.specs.Reading.{or_fault, refuse_if}

abbrev pub if_table : Data → Option Data
if_table (table ms) = Some (table ms)
if_table _ = None

-- the items of an array, if all of them are tables
abbrev pub tables_in : Items → Option (List Data)
tables_in no_items = Some []
tables_in (item d ds) = option_and_then (λ t. option_map (λ ts. t ∷ ts) (tables_in ds)) (if_table d)

-- the tables of a value, if it is an array of tables
abbrev pub tables_of : Data → Option (List Data)
tables_of d = option_and_then tables_in (as_array d)

-- at most that many entries
abbrev pub if_few : List ℕ → ℕ → List Data → Result (List Data) ConfFault
if_few name most ds = if nat_lt most (length ds) then Err (fault.Limit name) else Ok ds

abbrev pub array_in : List ℕ → ℕ → Data → Result (List Data) ConfFault
array_in name most d = or_fault (fault.Field name) (tables_of d) >>= if_few name most

-- the entries of an array of that name, which may be missing
unfoldable pub array_at : List ℕ → ℕ → Option Data → Result (List Data) ConfFault
array_at name most None = Ok []
array_at name most (Some d) = array_in name most d

-- The entries of an array, in order. Each is read from the entries before it, its index and its table.
module _ {X : Type 0} (read : List X → ℕ → Data → Result X ConfFault) where
  unfoldable pub entries_from : List X → ℕ → List Data → Result (List X) ConfFault
  entries_from earlier i [] = Ok earlier
  entries_from earlier i (d ∷ ds) = read earlier i d >>= (λ x. entries_from (earlier ++ x ∷ []) (i + 1) ds)
