-- The control state of one router: its LSDB, and its SRM and SSN flags for each interface
-- (ISO/IEC 10589, 7.3.14 to 7.3.17).
use Rattle.std.specs.Prelude.{◌≡◌, ℕ, ◌-◌, ◌≤◌, ◌==◌, ◌&&◌, nat_lt, nat_le, Bool, true, false, List, [], ◌∷◌, length, map, replicate, slice_index_or, Option, Some, None, if◌then◌else◌}
use Rattle.std.specs.declared.cmp.Ordering.{Ordering}
use Rattle.std.specs.Ordering.{nat_cmp, ordering_then, match_ordering, is_lt}
use Rattle.std.specs.Cmp.Lexicographic.{slice_cmp}
use Rattle.std.specs.List.{AllByRecursion}
use Rattle.std.specs.Str.{bytes_eq}
use Rattle.wire_base.specs.declared.limits.TheConstants.{MOST_ENDS, MOST_ENTRIES, PURGE_HOLD}
use Rattle.wire_base.specs.declared.addresses.SystemId.{SystemId}
use Rattle.wire_base.specs.declared.addresses.LspId.{LspId}
use Rattle.wire_base.specs.declared.conf.RouterConf.{RouterConf}
use Rattle.wire_base.specs.declared.entry.Age.{Age}
use Rattle.wire_base.specs.declared.entry.Age.TheVariants.{Unknown, Newer, Equal, Older, Confused}
use Rattle.wire_base.specs.declared.entry.Aged.{Aged}
use Rattle.wire_base.specs.declared.entry.Aged.TheVariants.{Live, Expired, Held, Removed}
use Rattle.wire_base.specs.declared.entry.Entry.{Entry}
use Rattle.wire_base.specs.declared.triple.Summary.{Summary}

-- ---- identifiers

abbrev pub same_system : SystemId → SystemId → Bool
same_system a b = bytes_eq a.0 b.0

abbrev pub same_id : LspId → LspId → Bool
same_id a b = same_system a.system b.system && ((a.pseudonode == b.pseudonode) && (a.fragment == b.fragment))

-- system IDs are ordered by their octets
abbrev pub system_order : SystemId → SystemId → Ordering
system_order a b = slice_cmp nat_cmp a.0 b.0

-- LSP IDs are ordered by their eight octets
abbrev pub id_order : LspId → LspId → Ordering
id_order a b = ordering_then (system_order a.system b.system) (ordering_then (nat_cmp a.pseudonode b.pseudonode) (nat_cmp a.fragment b.fragment))

abbrev pub is_below : LspId → LspId → Bool
is_below a b = is_lt (id_order a b)

-- each below all after it
abbrev pub AreAscending : List LspId → Type 0
AreAscending [] = Unit {0}
AreAscending (x ∷ xs) = AllByRecursion (λ y. is_below x y ≡ true) xs × AreAscending xs

-- ---- the LSDB: entries in the order of their LSP IDs, no LSP ID twice

abbrev pub most_entries : ℕ
most_entries = MOST_ENTRIES

abbrev pub ids_of : List Entry → List LspId
ids_of entries = map (λ e. e.id) entries

-- the entry of an LSP ID
abbrev pub entry_in : List Entry → LspId → Option Entry
entry_in [] id = None
entry_in (e ∷ es) id = if same_id e.id id then Some e else entry_in es id

-- the list with the entry inserted in order, or in place of the one with its LSP ID
abbrev pub put_entry : Entry → List Entry → List Entry
put_entry e [] = e ∷ []
put_entry e (x ∷ xs) = match_ordering (id_order e.id x.id) (e ∷ x ∷ xs) (e ∷ xs) (x ∷ put_entry e xs)

abbrev pub is_full : List Entry → Bool
is_full entries = nat_le most_entries (length entries)

-- the sequence number of an entry; 0 where there is none
abbrev pub seq_of : Option Entry → ℕ
seq_of None = 0
seq_of (Some e) = e.seq

-- the summary of an entry in a CSNP or PSNP (ISO/IEC 10589, 9.10)
abbrev pub summary_of : Entry → Summary
summary_of e = record { life = e.life; id = e.id; seq = e.seq; sum = e.sum }

-- a purge: for a minute its sequence number is kept, and nothing else of it (ISO/IEC 10589, 7.3.16.4)
abbrev pub purge : LspId → ℕ → Entry
purge id seq = record { id = id; seq = seq; life = 0; hold = PURGE_HOLD; sum = 0; flags = 0; content = [] }

-- ---- comparison with an entry (ISO/IEC 10589, 7.3.16.2)

-- At equal sequence numbers: whether the entry is expired, whether the other is, whether the checksums agree. Two live ones whose
-- checksums differ are LSP confusion (ISO/IEC 10589, 7.3.16.2).
abbrev pub age_by_life : Bool → Bool → Bool → Age
age_by_life true true sums = Equal
age_by_life true false sums = Older
age_by_life false true sums = Newer
age_by_life false false true = Equal
age_by_life false false false = Confused

abbrev pub age_of : Option Entry → Summary → Age
age_of None s = Unknown
age_of (Some e) s =
    if e.seq == s.seq
    then (if s.seq == 0 then Equal else age_by_life (e.life == 0) (s.life == 0) (e.sum == s.sum))
    else (if nat_lt e.seq s.seq then Newer else Older)

abbrev pub is_unknown : Age → Bool
is_unknown Unknown = true
is_unknown Newer = false
is_unknown Equal = false
is_unknown Older = false
is_unknown Confused = false

-- newer, or of equal sequence number and another checksum (LSP confusion)
abbrev pub is_newer_or_confused : Age → Bool
is_newer_or_confused Unknown = false
is_newer_or_confused Newer = true
is_newer_or_confused Equal = false
is_newer_or_confused Older = false
is_newer_or_confused Confused = true

-- ---- one second (ISO/IEC 10589, 7.3.16.3 and 7.3.16.4)

-- A live entry loses a second, and expires at 0. A purge loses a second of its hold, and is removed at 0.
abbrev pub aged : Entry → Aged
aged e = if nat_lt 0 e.life then (if e.life == 1 then Expired else Live) else (if nat_le e.hold 1 then Removed else Held)

-- the entry after that second; one that expires is a purge
abbrev pub aged_to : Aged → Entry → Option Entry
aged_to Live e = Some (record e { life = e.life - 1 })
aged_to Expired e = Some (purge e.id e.seq)
aged_to Held e = Some (record e { hold = e.hold - 1 })
aged_to Removed e = None

abbrev pub after_second : Entry → Option Entry
after_second e = aged_to (aged e) e

-- ---- flags

-- The interfaces on which an LSP must be sent (SRM), and those on which its summary must be sent in a PSNP (SSN).
pub record FlagRow : Type 0 where
  pub id : LspId
  pub srm : List Bool
  pub ssn : List Bool

abbrev pub no_flags : ℕ → LspId → FlagRow
no_flags links id = record { id = id; srm = replicate links false; ssn = replicate links false }

-- changes the row of an LSP ID; without a row it starts with no flags
abbrev pub at_row : ℕ → LspId → (FlagRow → FlagRow) → List FlagRow → List FlagRow
at_row links id change [] = change (no_flags links id) ∷ []
at_row links id change (row ∷ rows) =
    match_ordering (id_order id row.id)
    (change (no_flags links id) ∷ row ∷ rows)
    (change row ∷ rows)
    (row ∷ at_row links id change rows)

-- without the row of an LSP ID
abbrev pub without_row : LspId → List FlagRow → List FlagRow
without_row id [] = []
without_row id (row ∷ rows) = if same_id row.id id then rows else row ∷ without_row id rows

abbrev pub srm_in : List FlagRow → LspId → ℕ → Bool
srm_in [] id link = false
srm_in (row ∷ rows) id link = if same_id row.id id then slice_index_or row.srm link false else srm_in rows id link

abbrev pub ssn_in : List FlagRow → LspId → ℕ → Bool
ssn_in [] id link = false
ssn_in (row ∷ rows) id link = if same_id row.id id then slice_index_or row.ssn link false else ssn_in rows id link

-- The state of flooding beside the LSDB: the router's own system ID, which interfaces are up, on which of them a CSNP is due, and
-- the flags, in the order of their LSP IDs, none twice. An LSP ID without a row has no flags.
pub record Flood : Type 0 where
  pub own : SystemId
  pub up : List Bool
  pub due : List Bool
  pub rows : List FlagRow

abbrev pub srm : Flood → LspId → ℕ → Bool
srm f id link = srm_in f.rows id link

abbrev pub ssn : Flood → LspId → ℕ → Bool
ssn f id link = ssn_in f.rows id link

-- ---- the state

-- The sequence number space of a router that is spent is exhausted; it originates no LSP until it restarts.
pub record Control : Type 0 where
  pub conf : RouterConf
  pub flood : Flood
  pub entries : List Entry
  pub spent : Bool

-- the LSP ID of a system's own fragment 0
abbrev pub fragment_0 : SystemId → LspId
fragment_0 system = record { system = system; pseudonode = 0; fragment = 0 }

-- the router's own LSP
abbrev pub own_entry_in : Control → Option Entry
own_entry_in c = entry_in c.entries (fragment_0 c.conf.system)

-- no flag is set for an interface that is down
abbrev pub IsWithinLinks : List Bool → List Bool → Type 0
IsWithinLinks [] [] = Unit {0}
IsWithinLinks [] (y ∷ ys) = ⊥
IsWithinLinks (x ∷ xs) [] = ⊥
IsWithinLinks (false ∷ xs) (y ∷ ys) = IsWithinLinks xs ys
IsWithinLinks (true ∷ xs) (y ∷ ys) = (y ≡ true) × IsWithinLinks xs ys

pub record IsFlagRow (up : List Bool) (row : FlagRow) : Type 0 where
  pub srm_up : IsWithinLinks row.srm up
  pub ssn_up : IsWithinLinks row.ssn up

-- the invariant of every flood state
pub record IsFlood (f : Flood) : Type 0 where
  pub few : length f.up ≤ MOST_ENDS
  pub due_up : IsWithinLinks f.due f.up
  pub rows : AllByRecursion (IsFlagRow f.up) f.rows
  pub in_order : AreAscending (map (λ row. row.id) f.rows)

-- the invariant of every LSDB
pub record IsDatabase (entries : List Entry) : Type 0 where
  pub few : length entries ≤ most_entries
  pub in_order : AreAscending (ids_of entries)

-- the LSP ID has an entry
abbrev pub HasEntry : List Entry → FlagRow → Type 0
HasEntry entries row = (e : Entry) × (entry_in entries row.id ≡ Some e)

-- the invariant of every control state
pub record IsControl (c : Control) : Type 0 where
  pub flood : IsFlood c.flood
  pub entries : IsDatabase c.entries
  pub own : c.flood.own ≡ c.conf.system
  pub links : length c.flood.up ≡ length c.conf.ends
  pub flagged : AllByRecursion (HasEntry c.entries) c.flood.rows
