-- Masks over links: the truth values that a 64-bit number represents, and rows of flags stored as such numbers.
use Rattle.std.specs.Prelude.{◌≡◌, ◌<◌, ◌≤◌, ◌%◌, ℕ, zero, suc, ◌==◌, Bool, true, false, List, [], ◌∷◌, length, map, slice_set, if◌then◌else◌}
use Rattle.std.specs.Int.{bit_at}
use Rattle.std.specs.Ordering.{match_ordering}
use Rattle.wire_base.specs.declared.addresses.SystemId.{SystemId}
use Rattle.wire_base.specs.declared.addresses.LspId.{LspId}
use Rattle.wire_base.specs.model.Control.{id_order, same_id, AreAscending, FlagRow, Flood, no_flags}
use Rattle.wire_base.specs.model.Flooding.{clear_both, clear_ssn}
use Rattle.lsp_store.specs.Places.{place_in, stands_at}
use Rattle.isis_flood.specs.declared.masks.Turn.{Turn}
use Rattle.isis_flood.specs.declared.masks.Turn.TheVariants.{On, Off}
use Rattle.isis_flood.specs.declared.table.Bits.{Bits}
use Rattle.isis_flood.specs.Flags.{has_srm, has_ssn}

-- the values of a test at n numbers from i on
abbrev pub spread : (ℕ → Bool) → ℕ → ℕ → List Bool
spread test i zero = []
spread test i (suc n) = test i ∷ spread test (suc i) n

abbrev pub at_bit : ℕ → ℕ → Bool
at_bit mask i = bit_at mask i == 1

-- the first n bits, the least significant first
unfoldable pub links_in : ℕ → ℕ → List Bool
links_in n mask = spread (at_bit mask) 0 n

-- a row of flags over n links
abbrev pub row_of : ℕ → Bits → FlagRow
row_of n b = record { id = b.id; srm = links_in n b.srm; ssn = links_in n b.ssn }

abbrev pub rows_of : ℕ → List Bits → List FlagRow
rows_of n rows = map (row_of n) rows

abbrev pub row_ids : List Bits → List LspId
row_ids rows = map (λ b. b.id) rows

-- the row of an LSP ID, which has no flags where it is not there
abbrev pub row_in : ℕ → List FlagRow → LspId → FlagRow
row_in n [] id = no_flags n id
row_in n (row ∷ rows) id = match_ordering (id_order id row.id) (no_flags n id) row (row_in n rows id)

abbrev pub flood_of : SystemId → ℕ → ℕ → ℕ → List Bits → Flood
flood_of own n up due rows = record { own = own; up = links_in n up; due = links_in n due; rows = rows_of n rows }

-- the rows of three lists of one length
abbrev pub joined_rows : List LspId → List ℕ → List ℕ → List Bits
joined_rows [] srm ssn = []
joined_rows (id ∷ ids) [] ssn = []
joined_rows (id ∷ ids) (a ∷ srm) [] = []
joined_rows (id ∷ ids) (a ∷ srm) (b ∷ ssn) = record { id = id; srm = a; ssn = b } ∷ joined_rows ids srm ssn

-- three lists have one length
pub record AreEven (ids : List LspId) (srm ssn : List ℕ) : Type 0 where
  pub sent : length srm ≡ length ids
  pub asked : length ssn ≡ length ids

-- How contracts model a table of rows: the rows, for how many more memory is allocated, and whether one octet of each
-- mask is stored.
pub record Held : Type 0 where
  pub rows : List Bits
  pub spare : ℕ
  pub narrow : Bool

-- what is stored of a mask: if that is an octet, the links below 8
abbrev pub held_mask : Bool → ℕ → ℕ
held_mask true mask = mask % 256
held_mask false mask = mask

abbrev pub held_row : Bool → Bits → Bits
held_row narrow b = record { id = b.id; srm = held_mask narrow b.srm; ssn = held_mask narrow b.ssn }

-- the router's links are few enough for what is stored of a mask
pub record AreFew (links : ℕ) (narrow : Bool) : Type 0 where
  pub most : links ≤ 64
  pub where_narrow : narrow ≡ true → links ≤ 8

-- How contracts model the state of flooding: the state, and for how many more rows memory is allocated.
pub record Flooding : Type 0 where
  pub flood : Flood
  pub spare : ℕ

-- ---- a table of rows in the order of their LSP IDs

abbrev pub no_bits : LspId → Bits
no_bits id = record { id = id; srm = 0; ssn = 0 }

-- the row of an LSP ID
abbrev pub bits_in : List Bits → LspId → Bits
bits_in [] id = no_bits id
bits_in (b ∷ rows) id = match_ordering (id_order id b.id) (no_bits id) b (bits_in rows id)

-- the list with the row inserted in order, or in place of the one with its LSP ID
abbrev pub put_bits : Bits → List Bits → List Bits
put_bits b [] = b ∷ []
put_bits b (x ∷ xs) = match_ordering (id_order b.id x.id) (b ∷ x ∷ xs) (b ∷ xs) (x ∷ put_bits b xs)

-- without the row of an LSP ID
abbrev pub without_bits : LspId → List Bits → List Bits
without_bits id [] = []
without_bits id (b ∷ rows) = if same_id b.id id then rows else b ∷ without_bits id rows

-- an index is that of an LSP ID, and whether it is there
pub record IsPlace (rows : List Bits) (id : LspId) (there : Bool) (p : ℕ) : Type 0 where
  pub place : p ≡ place_in (row_ids rows) id
  pub stands : stands_at (row_ids rows) p id ≡ there

-- the invariant of a table of rows: of each kind, no row has a flag for a link outside of the kind's mask
pub record IsTable (sending asking : ℕ) (rows : List Bits) : Type 0 where
  pub ascends : AreAscending (row_ids rows)
  pub unsent : (i : ℕ) → i < 64 → at_bit sending i ≡ false → has_srm (rows_of 64 rows) i ≡ false
  pub unasked : (i : ℕ) → i < 64 → at_bit asking i ≡ false → has_ssn (rows_of 64 rows) i ≡ false

-- a row without its SSN flag for a link, or without any flag there
abbrev pub clears : Bool → ℕ → FlagRow → FlagRow
clears true link row = clear_both link row
clears false link row = clear_ssn link row

-- the flags of a row's LSP ID, with that of a link changed
abbrev pub turned_flag : ℕ → Turn → List Bool → List Bool
turned_flag link On flags = slice_set flags link true
turned_flag link Off flags = slice_set flags link false

abbrev pub turned : ℕ → Turn → Turn → FlagRow → FlagRow
turned link srm ssn row = record row { srm = turned_flag link srm row.srm; ssn = turned_flag link ssn row.ssn }

abbrev pub turned_srm : ℕ → Turn → FlagRow → FlagRow
turned_srm link srm row = record row { srm = turned_flag link srm row.srm }
