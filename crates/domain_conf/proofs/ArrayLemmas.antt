-- Arrays of tables.
use Rattle.std.proofs.Common.{◌≡◌, true, false, List, [], ◌∷◌, map, Option, Some, None, is_some, option_map, option_and_then, refl, sym, ap}
use Rattle.std.proofs.lemmas.Bool.{false≢true}
use Rattle.toml.specs.Data.{Data, string, integer, float, boolean, datetime, array, table}
use Rattle.toml.specs.View.{view, items_of, items_view}
use Rattle.toml.specs.declared.value.Value.{Value}
use Rattle.domain_conf.specs.Arrays.{if_table, tables_in}

with_table : (d : Data) (o : Option (List Data)) (ds : List Data) → (is_some o ≡ true → o ≡ Some ds) → is_some (option_and_then (λ t. option_map (λ ts. t ∷ ts) o) (if_table d)) ≡ true
    → option_and_then (λ t. option_map (λ ts. t ∷ ts) o) (if_table d) ≡ Some (d ∷ ds)
with_table (table ms) None ds h some = absurd (false≢true some)
with_table (table ms) (Some ts) ds h some = ap (option_map (λ ts. table ms ∷ ts)) (h refl)
with_table (string s) o ds h some = absurd (false≢true some)
with_table (integer z) o ds h some = absurd (false≢true some)
with_table (float x) o ds h some = absurd (false≢true some)
with_table (boolean b) o ds h some = absurd (false≢true some)
with_table (datetime t) o ds h some = absurd (false≢true some)
with_table (array xs) o ds h some = absurd (false≢true some)

tables_here : (ds : List Data) → is_some (tables_in (items_of ds)) ≡ true → tables_in (items_of ds) ≡ Some ds
tables_here [] some = refl
tables_here (d ∷ ds) some = with_table d (tables_in (items_of ds)) ds (tables_here ds) some

-- where all values are tables, they are the tables
pub tables_are : (vs : List Value) → is_some (tables_in (items_view vs)) ≡ true → Some (map view vs) ≡ tables_in (items_view vs)
tables_are vs some = sym (tables_here (map view vs) some)
