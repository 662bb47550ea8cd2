-- The forwarding of a packet by one router with configured rows: the outcome of its ids, and the lines that report it.
use Rattle.std.specs.Prelude.{ℕ, Bool, false, not, List, [], ◌∷◌, ◌++◌, ◌==◌, map, filter, is_none, Option, Some, None, option_map, codes, if◌then◌else◌}
use Rattle.std.specs.List.{find, list_any, flat_map}
use Rattle.std.specs.Option.{option_map_or}
use Rattle.std.specs.Str.{bytes_eq}
use Rattle.std.specs.Fmt.{decimal}
use Rattle.replay_text.specs.declared.hop.HopRow.{HopRow}
use Rattle.replay_text.specs.Ids.{ids_text}

-- ---- where each id is sent

-- the name in the row of an id, if there is one
abbrev pub name_of : List HopRow → ℕ → Option (List ℕ)
name_of rows id = option_map (λ (row : HopRow). row.name) (find (λ (row : HopRow). row.id == id) rows)

-- an id of a packet, and the name in its row, if it has one
pub record Way : Type 0 where
  pub id : ℕ
  pub name : Option (List ℕ)

abbrev pub way_of : List HopRow → ℕ → Way
way_of rows id = record { id = id; name = name_of rows id }

abbrev pub ways : List HopRow → List ℕ → List Way
ways rows ids = map (way_of rows) ids

-- whether an id is sent to that name
abbrev pub leads_to : List ℕ → Way → Bool
leads_to name way = option_map_or (λ found. bytes_eq found name) way.name false

-- the ids whose rows have that name
abbrev pub group_of : List ℕ → List Way → List ℕ
group_of name along = map (λ (way : Way). way.id) (filter (leads_to name) along)

-- ---- the outcomes of the ids

pub data Outcome : Type 0 where
  Local : (id : ℕ) → Outcome
  Copy : (name ids : List ℕ) → Outcome
  Dropped : (ids : List ℕ) → Outcome

-- the own id is delivered, if it is in the packet
abbrev pub delivered : ℕ → List ℕ → List Outcome
delivered own ids = if list_any (λ id. id == own) ids then Local own ∷ [] else []

-- the other ids
abbrev pub others : ℕ → List ℕ → List ℕ
others own ids = filter (λ id. not (id == own)) ids

-- One copy is sent to a name, at the position of the least of its ids.
abbrev pub copy_of : List ℕ → ℕ → List ℕ → List Outcome
copy_of name id [] = []
copy_of name id (least ∷ group) = if least == id then Copy name (least ∷ group) ∷ [] else []

abbrev pub copy_to : List Way → ℕ → Option (List ℕ) → List Outcome
copy_to along id None = []
copy_to along id (Some name) = copy_of name id (group_of name along)

abbrev pub copy_at : List Way → Way → List Outcome
copy_at along way = copy_to along way.id way.name

unfoldable pub copies : List Way → List Outcome
copies along = flat_map (copy_at along) along

-- the ids without a row are dropped
abbrev pub unrouted : List Way → List ℕ
unrouted along = map (λ (way : Way). way.id) (filter (λ (way : Way). is_none way.name) along)

abbrev pub dropped_of : List ℕ → List Outcome
dropped_of [] = []
dropped_of (id ∷ ids) = Dropped (id ∷ ids) ∷ []

unfoldable pub dropped : List Way → List Outcome
dropped along = dropped_of (unrouted along)

-- the outcomes of a packet
unfoldable pub outcomes : ℕ → List HopRow → List ℕ → List Outcome
outcomes own rows ids = delivered own ids ++ (copies (ways rows (others own ids)) ++ dropped (ways rows (others own ids)))

-- ---- the lines

-- the line of an outcome, with the number of the packet's line
abbrev pub outcome_text : ℕ → Outcome → List ℕ
outcome_text n (Local id) = decimal n ++ codes " local " ++ decimal id ++ 10 ∷ []
outcome_text n (Copy name ids) = decimal n ++ codes " copy " ++ name ++ 32 ∷ [] ++ ids_text ids ++ 10 ∷ []
outcome_text n (Dropped ids) = decimal n ++ codes " drop none " ++ ids_text ids ++ 10 ∷ []

abbrev pub outcomes_text : ℕ → List Outcome → List ℕ
outcomes_text n list = flat_map (outcome_text n) list
