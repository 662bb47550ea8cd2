-- What one router does with a packet for a set of BFR-ids (RFC 8279, 6.5): each id is delivered, forwarded in one copy, or
-- dropped.
use Rattle.std.specs.Prelude.{ℕ, zero, suc, ◌+◌, ◌==◌, ◌&&◌, not, Bool, false, List, [], ◌∷◌, ◌++◌, filter, map, Option, Some, None, is_some, if◌then◌else◌}
use Rattle.std.specs.List.{list_any, filter_map}

-- Delivered here; a copy with its ids and its TTL to a node; dropped because the TTL expired; dropped because no router
-- toward the owner is known.
pub data Outcome : Type 0 where
  Local : (id : ℕ) → Outcome
  Copy : (to : ℕ) (ids : List ℕ) (ttl : ℕ) → Outcome
  Expired : (ids : List ℕ) → Outcome
  NoRow : (ids : List ℕ) → Outcome

abbrev pub has : List ℕ → ℕ → Bool
has ids k = list_any (λ j. j == k) ids

-- the ids of an outcome
abbrev pub ids_of : Outcome → List ℕ
ids_of (Local id) = id ∷ []
ids_of (Copy to ids ttl) = ids
ids_of (Expired ids) = ids
ids_of (NoRow ids) = ids

-- each element once, in the order of first occurrence
abbrev pub distinct : List ℕ → List ℕ
distinct [] = []
distinct (x ∷ xs) = x ∷ filter (λ y. not (y == x)) (distinct xs)

abbrev pub is_this : Option ℕ → ℕ → Bool
is_this None x = false
is_this (Some y) x = x == y

-- one copy for each node that is chosen, in the order of the groups' least ids
abbrev pub copies : (ℕ → Option ℕ) → List ℕ → ℕ → List Outcome
copies choose ids ttl = map (λ x. Copy x (filter (λ k. is_this (choose k) x) ids) ttl) (distinct (filter_map choose ids))

abbrev pub unless_empty : (List ℕ → Outcome) → List ℕ → List Outcome
unless_empty f [] = []
unless_empty f (x ∷ xs) = f (x ∷ xs) ∷ []

-- what is forwarded with that TTL left
abbrev pub forward : (ℕ → Option ℕ) → List ℕ → ℕ → List Outcome
forward choose ids zero = unless_empty Expired (filter (λ k. is_some (choose k)) ids)
forward choose ids (suc ttl) = copies choose ids (suc ttl)

-- what the router delivers to itself; own is its id, where it has one
abbrev pub local : Option ℕ → List ℕ → List Outcome
local None ids = []
local (Some o) ids = if has ids o then Local o ∷ [] else []

-- The outcomes for an ascending list of ids, in this order: delivered here, the copies, those whose TTL expired, those with no
-- choice. Where the TTL is 0 on arrival, it expired for all of them. An id without a choice may be any number.
unfoldable pub hop : Option ℕ → (ℕ → Option ℕ) → List ℕ → ℕ → List Outcome
hop own choose ids zero = unless_empty Expired ids
hop own choose ids (suc ttl) =
    local own ids
    ++ forward choose (filter (λ k. not (is_this own k)) ids) ttl
    ++ unless_empty NoRow (filter (λ k. not (is_some (choose k)) && not (is_this own k)) ids)

-- The outcomes for an id are counted: a hop has one for each id of the packet, and none for another.

-- 1 or 0
abbrev pub one_if : Bool → ℕ
one_if b = if b then 1 else 0

-- how many elements pass the test
abbrev pub tally : {X : Type 0} → (X → Bool) → List X → ℕ
tally p [] = 0
tally p (x ∷ xs) = one_if (p x) + tally p xs

abbrev pub about : ℕ → List Outcome → ℕ
about k os = tally (λ o. has (ids_of o) k) os
