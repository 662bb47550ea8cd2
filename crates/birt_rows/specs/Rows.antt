-- The row of a bit position, from the entries.
use Rattle.std.specs.Prelude.{ℕ, Bool, false, ◌==◌, ◌||◌, not, List, [], filter, map, slice_index_or, Option, Some, None, if◌then◌else◌}
use Rattle.wire_base.specs.declared.view.First.{First}
use Rattle.birt_rows.specs.declared.entries.Entry.{Entry}

-- whether shortest walks lead to d over the entry's router
abbrev pub beyond : ℕ → Entry → Bool
beyond d e = slice_index_or e.beyond.items d false

abbrev pub row_of_owner : List Entry → List Bool → ℕ → Option ℕ → List First
row_of_owner entries covers u None = []
row_of_owner entries covers u (Some d) = if (u == d) || not (slice_index_or covers d false) then [] else map (λ e. e.first) (filter (beyond d) entries)
