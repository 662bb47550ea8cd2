-- Entries that belong to routers, with a look-up by router.
use Rattle.std.specs.Prelude.{◌≡◌, ℕ, Bool, ◌==◌, ◌||◌, List, [], filter, slice_index_or}

-- whether an entry that belongs to these two routers belongs to a given router
abbrev pub is_at : {X : Type 0} → (X → ℕ × ℕ) → ℕ → X → Bool
is_at routers_of router x = ((routers_of x).0 == router) || ((routers_of x).1 == router)

-- each group has the entries of the router at its index, and a router without a group has none
abbrev pub AreGroups : {X : Type 0} → (X → ℕ × ℕ) → List X → List (List X) → Type 0
AreGroups routers_of all groups = (router : ℕ) → slice_index_or groups router [] ≡ filter (is_at routers_of router) all
