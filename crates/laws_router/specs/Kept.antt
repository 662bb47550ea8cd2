-- What every event preserves of the flags and the LSDB. Flags are only at links that are up and at entries that exist.
-- Contents fit a frame. The router's own LSP is live (ISO/IEC 10589, 7.3.15 and 7.3.16).
use Rattle.std.specs.Prelude.{◌≡◌, ◌<◌, Bool, false, List, Some}
use Rattle.std.specs.List.{AllByRecursion}
use Rattle.wire_base.specs.declared.addresses.SystemId.{SystemId}
use Rattle.wire_base.specs.declared.entry.Entry.{Entry}
use Rattle.wire_base.specs.model.Control.{fragment_0, entry_in, Flood, IsFlood, HasEntry}
use Rattle.laws_router.specs.State.{IsShort}

-- the own LSP is in the LSDB, and is not yet due for a refresh
abbrev pub OwnStands : SystemId → List Entry → Type 0
OwnStands own entries = (e : Entry) × ((entry_in entries (fragment_0 own) ≡ Some e) × (300 < e.life))

pub record Kept (own : SystemId) (up : List Bool) (spent : Bool) (f : Flood) (entries : List Entry) : Type 0 where
  pub own_is : f.own ≡ own
  pub up_is : f.up ≡ up
  pub flood : IsFlood f
  pub flagged : AllByRecursion (HasEntry entries) f.rows
  pub short : AllByRecursion IsShort entries
  pub stands : spent ≡ false → OwnStands own entries
