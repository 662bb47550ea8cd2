-- How neighbors with their F-BMs, and for each position the number of its neighbor, represent a table.
use Rattle.std.specs.Prelude.{ℕ, suc, ◌≡◌, false, List, [], ◌∷◌, length, map, Option, Some, None, option_map, if◌then◌else◌}
use Rattle.std.specs.List.{AllByRecursion, list_any, slice_get}
use Rattle.wire_base.specs.declared.view.First.{First}
use Rattle.wire_base.specs.model.BitSet.{union, with_member}
use Rattle.bift_table.specs.declared.neighbour.Neighbour.{Neighbour}
use Rattle.bift_table.specs.Bift.{same_router, mask_of, routed_of, routers_of}

-- the router with a number
abbrev pub numbered : {w : ℕ} → List (Neighbour w) → Option ℕ → Option First
numbered ns None = None
numbered ns (Some i) = option_map (λ n. n.to) (slice_get ns i)

-- the routers of the positions
unfoldable pub table_in : {w : ℕ} → List (Neighbour w) → List (Option ℕ) → List (Option First)
table_in ns numbers = map (numbered ns) numbers

-- each F-BM has all positions that lead to its router
abbrev pub AreMasks : {w : ℕ} → List (Option First) → List (Neighbour w) → Type 0
AreMasks table ns = AllByRecursion (λ n. n.mask ≡ mask_of table n.to) ns

-- each position has the number of its router
abbrev pub IsNumber : {w : ℕ} → List (Neighbour w) → Option First → Option ℕ → Type 0
IsNumber ns None None = Unit {0}
IsNumber ns None (Some i) = ⊥
IsNumber ns (Some f) None = ⊥
IsNumber ns (Some f) (Some i) = option_map (λ n. n.to) (slice_get ns i) ≡ Some f

abbrev pub AreNumbers : {w : ℕ} → List (Neighbour w) → List (Option First) → List (Option ℕ) → Type 0
AreNumbers ns [] [] = Unit {0}
AreNumbers ns [] (m ∷ ms) = ⊥
AreNumbers ns (o ∷ os) [] = ⊥
AreNumbers ns (o ∷ os) (m ∷ ms) = IsNumber ns o m × AreNumbers ns os ms

-- the invariant of a table
pub record IsTable {w : ℕ} (size : ℕ) (ns : List (Neighbour w)) (firsts : List First) (numbers : List (Option ℕ)) (positions : List ℕ) : Type 0 where
  pub masks : AreMasks (table_in ns numbers) ns
  pub listed : firsts ≡ map (λ n. n.to) ns
  pub order : firsts ≡ routers_of (table_in ns numbers)
  pub long : length numbers ≡ size
  pub routed : positions ≡ routed_of (table_in ns numbers)

-- ---- one more position

-- the number of a router's neighbor, or the next one
abbrev pub number_in : {w : ℕ} → First → List (Neighbour w) → ℕ
number_in to [] = 0
number_in to (n ∷ ns) = if same_router n.to to then 0 else suc (number_in to ns)

-- the neighbors after a position was added to a router
abbrev pub given : {w : ℕ} → First → ℕ → List (Neighbour w) → List (Neighbour w)
given to p [] = record { to = to; mask = p ∷ [] } ∷ []
given to p (n ∷ ns) = if same_router n.to to then record { to = n.to; mask = with_member p n.mask } ∷ ns else n ∷ given to p ns

abbrev pub given_to : {w : ℕ} → Option First → ℕ → List (Neighbour w) → List (Neighbour w)
given_to None p ns = ns
given_to (Some to) p ns = given to p ns

abbrev pub number_to : {w : ℕ} → Option First → List (Neighbour w) → Option ℕ
number_to None ns = None
number_to (Some to) ns = Some (number_in to ns)

-- ---- all neighbors

-- no router has two neighbors
abbrev pub AreApart : {w : ℕ} → List (Neighbour w) → Type 0
AreApart [] = Unit {0}
AreApart (n ∷ ns) = (list_any (λ m. same_router m.to n.to) ns ≡ false) × AreApart ns

-- those positions, and all that are in some mask
abbrev pub union_from : {w : ℕ} → List ℕ → List (Neighbour w) → List ℕ
union_from positions [] = positions
union_from positions (n ∷ ns) = union_from (union positions n.mask) ns
