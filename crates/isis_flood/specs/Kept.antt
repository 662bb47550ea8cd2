-- What a received PDU never undoes (ISO/IEC 10589, 7.3.16.2).
use Rattle.std.specs.Prelude.{◌≡◌, ◌<◌, ◌⊎◌, List, Option, Some, None}
use Rattle.wire_base.specs.declared.addresses.LspId.{LspId}
use Rattle.wire_base.specs.declared.entry.Entry.{Entry}
use Rattle.wire_base.specs.model.Control.{entry_in}

-- Entries are ordered by their sequence numbers, and at one sequence number a live one is below a purge.
abbrev pub IsAtMost : Entry → Entry → Type 0
IsAtMost a b = (a.seq < b.seq) ⊎ ((a.seq ≡ b.seq) × (a.life ≡ 0 → b.life ≡ 0))

-- an entry that was there is still there, and is not lower
abbrev pub Stays : Option Entry → Option Entry → Type 0
Stays None now = Unit {0}
Stays (Some e) None = ⊥
Stays (Some e) (Some now) = IsAtMost e now

-- each entry of an LSDB is still there, and none is lowered
pub record NotLowered (old new : List Entry) : Type 0 where
  pub each : (id : LspId) → Stays (entry_in old id) (entry_in new id)
