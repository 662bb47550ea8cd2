-- Configured rows as a forwarding table: each name is a neighbor with a number.
use Rattle.std.specs.Prelude.{ℕ, suc, ◌≡◌, ◌≤◌, ◌/◌, ◌%◌, Bool, true, List, [], ◌∷◌, ◌++◌, slice_index_or, Option, Some, None, option_map, unwrap_or, if◌then◌else◌}
use Rattle.std.specs.List.{list_any, flat_map}
use Rattle.std.specs.Str.{bytes_eq}
use Rattle.wire_base.specs.declared.view.First.{First}
use Rattle.wire_base.specs.model.Hop as model
use Rattle.wire_base.specs.model.Place.{bits_of}
use Rattle.bift_table.specs.Bift.{router_at}
use Rattle.bift_table.specs.Any.{bsl_of, positions_of}
use Rattle.replay_text.specs.declared.hop.HopRow.{HopRow}
use Rattle.command_hop.specs.declared.ways.Ways.{Ways}
use Rattle.command_hop.specs.Forward.{Outcome, Local, Copy, Dropped, outcome_text, name_of}

-- ---- numbers of names

abbrev pub has_name : List (List ℕ) → List ℕ → Bool
has_name names name = list_any (λ other. bytes_eq other name) names

abbrev pub with_name : List (List ℕ) → List ℕ → List (List ℕ)
with_name names name = if has_name names name then names else names ++ name ∷ []

-- the number of a name: the index of its first occurrence
abbrev pub number_in : List (List ℕ) → List ℕ → ℕ
number_in [] name = 0
number_in (other ∷ names) name = if bytes_eq other name then 0 else suc (number_in names name)

-- the neighbor with a number, encoded in its system ID and its interface
abbrev pub neighbour : ℕ → First
neighbour n = record { system = record { 0 = 0 ∷ 0 ∷ 0 ∷ 0 ∷ n / 256 ∷ n % 256 ∷ [] }; direct = Some n }

abbrev pub number_of : First → ℕ
number_of first = unwrap_or first.direct 0

-- where a bit position leads whose row has that name, or which has no row
abbrev pub leading : List (List ℕ) → Option (List ℕ) → Option First
leading names row = option_map (λ name. neighbour (number_in names name)) row

abbrev pub leads : List (List ℕ) → Option (List ℕ) → List First
leads names None = []
leads names (Some name) = neighbour (number_in names name) ∷ []

-- its name, if it has a row, is among the names
abbrev pub IsKnown : List (List ℕ) → Option (List ℕ) → Type 0
IsKnown names None = Unit {0}
IsKnown names (Some name) = has_name names name ≡ true

-- the list of a bit position in the rows of a table
pub record IsListed (rows : List HopRow) (names : List (List ℕ)) (p : ℕ) (list : List First) : Type 0 where
  pub list_is : list ≡ leads names (name_of rows p)
  pub known : IsKnown names (name_of rows p)

-- ---- tables

-- a bit position leads where its row states
pub record IsLinked (rows : List HopRow) (names : List (List ℕ)) (table : List (Option First)) (p : ℕ) : Type 0 where
  pub router : router_at table p ≡ leading names (name_of rows p)
  pub known : IsKnown names (name_of rows p)

-- each router of a table is a neighbor with a number
abbrev pub AreNumbered : List (Option First) → Type 0
AreNumbered table = (p : ℕ) (first : First) → router_at table p ≡ Some first → first ≡ neighbour (number_of first)

-- the number of the neighbor to which a bit position leads
abbrev pub chosen : List (Option First) → ℕ → Option ℕ
chosen table p = option_map number_of (router_at table p)

-- A table and names that represent rows.
pub record AreWays (rows : List HopRow) (ways : Ways) : Type 0 where
  pub linked : (p : ℕ) → 1 ≤ p → p ≤ bits_of (bsl_of ways.table) → IsLinked rows ways.names (positions_of ways.table) p
  pub numbered : AreNumbered (positions_of ways.table)

-- ---- outcomes

abbrev pub name_at : List (List ℕ) → ℕ → List ℕ
name_at names n = slice_index_or names n []

-- an outcome of forwarding by the table, with neighbors shown by name
abbrev pub seen : List (List ℕ) → model.Outcome → Outcome
seen names (model.Local p) = Local p
seen names (model.Copy to ids ttl) = Copy (name_at names to) ids
seen names (model.Expired ids) = Dropped ids
seen names (model.NoRow ids) = Dropped ids

-- the lines of outcomes
abbrev pub texts : ℕ → List (List ℕ) → List model.Outcome → List ℕ
texts n names outcomes = flat_map (λ (o : model.Outcome). outcome_text n (seen names o)) outcomes
