-- How contracts model an LSDB.
use Rattle.std.specs.Prelude.{ℕ, List}
use Rattle.wire_base.specs.declared.entry.Entry.{Entry}

-- The entries in the order of their LSP IDs, and for how many new ones memory is already allocated.
pub record Stored : Type 0 where
  pub entries : List Entry
  pub spare : ℕ
