-- Lists of BFR-NBRs that are stored one after another: where each starts, and the lists.
use Rattle.std.specs.Prelude.{ℕ, List, [], ◌∷◌, ◌++◌, ◌-◌, ◌≤◌, ⊤, length, take, drop, slice_index_or}
use Rattle.wire_base.specs.declared.view.First.{First}

-- the lists with those starts: each ends before the start of the next one, the last at the end of all routers
abbrev pub lists_in : List ℕ → List First → List (List First)
lists_in [] routers = []
lists_in (start ∷ starts) routers = take (slice_index_or starts 0 (length routers) - start) (drop start routers) ∷ lists_in starts routers

-- no list starts after the next one, or after index n
abbrev pub AreStarts : List ℕ → ℕ → Type 0
AreStarts [] n = ⊤
AreStarts (start ∷ starts) n = (start ≤ slice_index_or starts 0 n) × AreStarts starts n

-- those lists with one more router in the last one
abbrev pub extend_last : First → List (List First) → List (List First)
extend_last first [] = []
extend_last first (list ∷ []) = (list ++ first ∷ []) ∷ []
extend_last first (list ∷ next ∷ lists) = list ∷ extend_last first (next ∷ lists)
