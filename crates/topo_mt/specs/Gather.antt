-- The newest LSPs of many.
use Rattle.std.specs.Prelude.{◌≡◌, ℕ, ◌==◌, ◌&&◌, not, Bool, true, false, List, length, Result, Ok, Err, IfErr, if◌then◌else◌}
use Rattle.wire_base.specs.declared.entry.Age.{Age}
use Rattle.wire_base.specs.declared.entry.Age.TheVariants.{Unknown, Newer, Equal, Older, Confused}
use Rattle.wire_base.specs.declared.entry.Entry.{Entry}
use Rattle.wire_base.specs.declared.faults.PutFault.{PutFault}
use Rattle.wire_base.specs.declared.faults.PutFault.TheVariants.{Full, Memory}
use Rattle.wire_base.specs.model.Control.{age_of, entry_in, put_entry, same_system}
use Rattle.wire_base.specs.model.Flooding.{kept}
use Rattle.wire_base.specs.model.Pdu.{Head, head_summary}
use Rattle.lsp_store.specs.Places.{is_refused}
use Rattle.topo_mt.specs.Observer.{no_system}

abbrev pub is_wanted : Age → Bool
is_wanted Unknown = true
is_wanted Newer = true
is_wanted Equal = false
is_wanted Older = false
is_wanted Confused = false

-- An LSP is put where it is unknown or newer, unless it has the sequence number 0 or the system ID of six zeros
-- (ISO/IEC 10589, 7.3.16).
unfoldable pub is_taken : List Entry → Head → Bool
is_taken entries h = not (h.seq == 0) && (not (same_system h.id.system no_system) && is_wanted (age_of (entry_in entries h.id) (head_summary h)))

-- the entries after that LSP
unfoldable pub gathered : List Entry → Head → List ℕ → List Entry
gathered entries h tlvs = if is_taken entries h then put_entry (kept h tlvs) entries else entries

abbrev pub PutGives : Bool → List Entry → Result (Unit {0}) PutFault → Type 0
PutGives true entries result = result ≡ Err (Full (length entries))
PutGives false entries result = IfErr result (λ fault. fault ≡ Memory)

abbrev pub TakenGives : Bool → List Entry → Head → Result (Unit {0}) PutFault → Type 0
TakenGives true entries h result = PutGives (is_refused entries h.id) entries result
TakenGives false entries h result = result ≡ Ok tt

-- The possible results: Full exactly where the LSP is put, is new, and the LSDB is full; otherwise, where it is put, out of memory.
abbrev pub GatherAnswers : List Entry → Head → Result (Unit {0}) PutFault → Type 0
GatherAnswers entries h result = TakenGives (is_taken entries h) entries h result
