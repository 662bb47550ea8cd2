-- How the entries of an LSDB are stored: in the order in which they came, beside their indexes in the order of their LSP IDs.
use Rattle.std.specs.Prelude.{◌≡◌, ◌≢◌, ℕ, ◌-◌, ◌<◌, nat_lt, if◌then◌else◌, List, [], ◌∷◌, length, map, slice_index_or}
use Rattle.std.specs.List.{AllByRecursion}
use Rattle.wire_base.specs.declared.entry.Entry.{Entry}
use Rattle.wire_base.specs.model.Control.{fragment_0, purge}

-- read past the end, where no index leads
abbrev pub no_entry : Entry
no_entry = purge (fragment_0 (record { 0 = [] })) 0

-- the entries at those indexes, one after the other
abbrev pub at_indexes : List Entry → List ℕ → List Entry
at_indexes items order = map (λ i. slice_index_or items i no_entry) order

-- no index twice
abbrev pub AreApart : List ℕ → Type 0
AreApart [] = Unit {0}
AreApart (i ∷ is) = AllByRecursion (λ j. i ≢ j) is × AreApart is

-- each entry's index once
pub record IsOrder (items : List Entry) (order : List ℕ) : Type 0 where
  pub within : AllByRecursion (λ i. i < length items) order
  pub apart : AreApart order
  pub all : length order ≡ length items

-- an index after the removal of the entry at index k
abbrev pub moved_down : ℕ → ℕ → ℕ
moved_down k i = if nat_lt k i then i - 1 else i
