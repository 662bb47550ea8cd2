-- A bit index forwarding table (RFC 8279, 6.4) as the list of the routers of its bit positions, from position 1 on, with
-- none where a position has no entry.
use Rattle.std.specs.Prelude.{ℕ, zero, suc, ◌==◌, ◌&&◌, ◌%◌, Bool, true, false, List, [], ◌∷◌, ◌++◌, if◌then◌else◌, map, filter, length, slice_get, slice_index_or, Option, Some, None, is_some}
use Rattle.std.specs.List.{list_any}
use Rattle.std.specs.Str.{bytes_eq}
use Rattle.wire_base.specs.declared.view.First.{First}
use Rattle.wire_base.specs.model.BitSet.{up_to}

-- the router of a position
abbrev pub router_at : List (Option First) → ℕ → Option First
router_at table zero = None
router_at table (suc p) = slice_index_or table p None

-- Two BFR-NBRs are one router where the system ID is the same, and the interface, if it is reached directly.
abbrev pub same_end : Option ℕ → Option ℕ → Bool
same_end None None = true
same_end None (Some b) = false
same_end (Some a) None = false
same_end (Some a) (Some b) = a == b

abbrev pub same_router : First → First → Bool
same_router a b = bytes_eq a.system.0 b.system.0 && same_end a.direct b.direct

abbrev pub leads_to : Option First → First → Bool
leads_to None f = false
leads_to (Some g) f = same_router g f

-- the F-BM of a router: all positions that lead to it
unfoldable pub mask_of : List (Option First) → First → List ℕ
mask_of table f = filter (λ p. leads_to (router_at table p) f) (up_to (length table))

-- the positions that have an entry
unfoldable pub routed_of : List (Option First) → List ℕ
routed_of table = filter (λ p. is_some (router_at table p)) (up_to (length table))

-- each router of a table once, in the order of their first positions, after those that were seen before
abbrev pub routers_from : List First → List (Option First) → List First
routers_from seen [] = seen
routers_from seen (None ∷ os) = routers_from seen os
routers_from seen (Some f ∷ os) = routers_from (if list_any (λ g. same_router g f) seen then seen else seen ++ f ∷ []) os

unfoldable pub routers_of : List (Option First) → List First
routers_of table = routers_from [] table

-- the member at index `class` modulo the size
abbrev pub member_at : ℕ → List First → Option First
member_at class [] = None
member_at class (f ∷ fs) = slice_get (f ∷ fs) (class % length (f ∷ fs))

-- the table of a class: at each position one of the routers to which its bit may be sent
unfoldable pub table_of : List (List First) → ℕ → List (Option First)
table_of rows class = map (member_at class) rows
