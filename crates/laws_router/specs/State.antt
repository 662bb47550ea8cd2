-- A router as contracts see it, and the invariants of every router.
use Rattle.std.specs.Prelude.{◌≡◌, ℕ, ◌+◌, ◌≤◌, ◌<◌, Bool, true, false, List, length, min, Some, slice_index_or}
use Rattle.std.specs.List.{AllByRecursion}
use Rattle.wire_base.specs.declared.limits.TheConstants.{MOST_CONTENT, REFRESH_LIFE}
use Rattle.wire_base.specs.declared.conf.RouterConf.{RouterConf}
use Rattle.wire_base.specs.declared.entry.Entry.{Entry}
use Rattle.wire_base.specs.model.Configuration.{IsSound}
use Rattle.wire_base.specs.declared.addresses.LspId.{LspId}
use Rattle.wire_base.specs.model.Control.{Control, Flood, IsControl, own_entry_in, entry_in, fragment_0, same_system}
use Rattle.wire_base.specs.model.OwnLsp.{own_content, own_flags}

-- A router: its control state, and how many frames it has received.
pub record RouterState : Type 0 where
  pub control : Control
  pub heard : ℕ

-- an LSP with that much content fits an IS-IS frame, whose length field is at most 1,500 octets
abbrev pub most_content : ℕ
most_content = MOST_CONTENT

abbrev pub IsShort : Entry → Type 0
IsShort e = length e.content ≤ most_content

-- Unless its sequence number space is exhausted, a router has its own LSP, live, with a lifetime above the one at which
-- it is refreshed.
abbrev pub HasOwn : Control → Type 0
HasOwn c = c.spent ≡ false → (e : Entry) × ((own_entry_in c ≡ Some e) × (REFRESH_LIFE < e.life))

-- the invariants of every router
pub record IsRouter (c : Control) : Type 0 where
  pub control : IsControl c
  pub sound : IsSound c.conf
  pub short : AllByRecursion IsShort c.entries
  pub own : HasOwn c

-- A live entry with the router's own system ID: its fragment 0, with the flags and the content that the router
-- originates from its configuration and its interfaces that are up (ISO/IEC 10589, 7.3.6). A router whose sequence
-- number space is exhausted has none.
pub record IsIssued (r : RouterConf) (up : List Bool) (spent : Bool) (id : LspId) (e : Entry) : Type 0 where
  pub unspent : spent ≡ false
  pub fragment : id ≡ fragment_0 r.system
  pub flags : e.flags ≡ own_flags r
  pub content : e.content ≡ own_content r up

-- each live entry of the LSDB with the router's own system ID is what the router originates in its present state
pub record AreIssued (r : RouterConf) (up : List Bool) (spent : Bool) (entries : List Entry) : Type 0 where
  pub each : (id : LspId) (e : Entry) → entry_in entries id ≡ Some e → 0 < e.life → same_system id.system r.system ≡ true → IsIssued r up spent id e

abbrev pub IssuesAlone : Control → Type 0
IssuesAlone c = AreIssued c.conf c.flood.up c.spent c.entries

-- all invariants of a control state
pub record IsWhole (c : Control) : Type 0 where
  pub router : IsRouter c
  pub issued : IssuesAlone c

-- a control state from its parts
abbrev pub control_of : RouterConf → Flood → List Entry → Bool → Control
control_of conf flood entries spent = record { conf = conf; flood = flood; entries = entries; spent = spent }

-- whether the interface at an index is up
abbrev pub is_up : Control → ℕ → Bool
is_up c link = slice_index_or c.flood.up link false

-- the last value of the frame counter
abbrev pub last_count : ℕ
last_count = 18446744073709551615

-- one more, up to the last value
abbrev pub counted : ℕ → ℕ
counted n = min (n + 1) last_count
