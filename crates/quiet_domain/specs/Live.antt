-- Whether two LSDBs have the same live LSPs, whatever their Remaining Lifetimes (ISO/IEC 10589, 7.3.15 and 7.3.16).
use Rattle.std.specs.Prelude.{◌≡◌, ◌==◌, ◌&&◌, nat_lt, not, find, Bool, true, false, List, Option, Some, None, if◌then◌else◌}
use Rattle.std.specs.Str.{bytes_eq}
use Rattle.wire_base.specs.declared.addresses.LspId.{LspId}
use Rattle.wire_base.specs.declared.entry.Entry.{Entry}
use Rattle.wire_base.specs.model.Control.{entry_in, ids_of, is_below}

abbrev pub is_live : Entry → Bool
is_live e = nat_lt 0 e.life

-- two live LSPs that are the same, except for their lifetimes and checksums
abbrev pub has_same : Entry → Entry → Bool
has_same a b = (a.seq == b.seq) && ((a.flags == b.flags) && bytes_eq a.content b.content)

-- neither is live, or both are and are the same
abbrev pub alike_by : Bool → Bool → Bool → Bool
alike_by false false same = true
alike_by false true same = false
alike_by true false same = false
alike_by true true same = same

abbrev pub are_alike : Entry → Entry → Bool
are_alike a b = alike_by (is_live a) (is_live b) (has_same a b)

-- an entry that is missing counts as one that is not live
abbrev pub is_same : Option Entry → Option Entry → Bool
is_same None None = true
is_same None (Some b) = alike_by false (is_live b) false
is_same (Some a) None = alike_by (is_live a) false false
is_same (Some a) (Some b) = are_alike a b

-- whether two LSDBs have the same live entry of an LSP ID, or none
abbrev pub is_same_at : List Entry → List Entry → LspId → Bool
is_same_at a b id = is_same (entry_in a id) (entry_in b id)

-- they have the same live entries
abbrev pub AreSameLive : List Entry → List Entry → Type 0
AreSameLive a b = (id : LspId) → is_same_at a b id ≡ true

-- they differ at that LSP ID, and at none below it
pub record IsDifference (a b : List Entry) (id : LspId) : Type 0 where
  pub differs : is_same_at a b id ≡ false
  pub least : (x : LspId) → is_below x id ≡ true → is_same_at a b x ≡ true

-- the least LSP ID at which they differ, if they do
abbrev pub IsLeastDifference : List Entry → List Entry → Option LspId → Type 0
IsLeastDifference a b None = AreSameLive a b
IsLeastDifference a b (Some id) = IsDifference a b id

-- ---- the least LSP ID at which they differ, as a value

-- the lesser of two LSP IDs
abbrev pub lesser_id : Option LspId → Option LspId → Option LspId
lesser_id None y = y
lesser_id (Some x) None = Some x
lesser_id (Some x) (Some y) = Some (if is_below x y then x else y)

abbrev pub differs_at : List Entry → List Entry → LspId → Bool
differs_at a b id = not (is_same_at a b id)

-- the lesser of the first LSP ID of either LSDB at which the two differ; the LSP IDs of each are in ascending order
unfoldable pub first_difference : List Entry → List Entry → Option LspId
first_difference a b = lesser_id (find (differs_at a b) (ids_of a)) (find (differs_at a b) (ids_of b))
