-- PDUs that are received.
use Rattle.std.specs.Prelude.{ℕ, ◌+◌, ◌≤◌, Bool, true, false, List, length, Option, Some, None}
use Rattle.wire_base.specs.declared.addresses.LspId.{LspId}
use Rattle.wire_base.specs.declared.entry.Entry.{Entry}
use Rattle.wire_base.specs.declared.triple.Summary.{Summary}
use Rattle.wire_base.specs.model.Control.{Flood}
use Rattle.wire_base.specs.model.Flooding.{SnpAnswer, on_list, csnp_listed}
use Rattle.wire_base.specs.declared.limits.TheConstants.{MOST_CONTENT}
use Rattle.wire_base.specs.declared.cause.Cause.{Cause}
use Rattle.wire_base.specs.declared.flood_out.FloodOut.{FloodOut}
use Rattle.wire_base.specs.declared.flood_out.FloodOut.TheVariants as out
use Rattle.wire_base.specs.model.OnFrame.{Drop}
use Rattle.wire_base.specs.model.Pdu.{Pdu, LspPdu, CsnpPdu, PsnpPdu, HelloPdu, OtherPdu}

-- the TLVs of a PDU that arrived in a frame fit a frame
abbrev pub HasRoom : Pdu → Type 0
HasRoom (LspPdu head tlvs) = length tlvs ≤ MOST_CONTENT
HasRoom (CsnpPdu source start last tlvs) = length tlvs ≤ 1497
HasRoom (PsnpPdu source tlvs) = length tlvs ≤ 1497
HasRoom HelloPdu = Unit {0}
HasRoom (OtherPdu number) = Unit {0}

-- a drop that has no bit positions
abbrev pub full_drop : Cause → Drop
full_drop why = record { cause = why; set = None }

-- whether flooding has done all that an LSP requires; otherwise it has changed nothing
abbrev pub is_kept : FloodOut → Bool
is_kept out.Kept = true
is_kept (out.Reissue s) = false
is_kept (out.Ack s) = false
is_kept out.Full = false
is_kept out.Zero = false

-- what a list of entries that arrived on a link does, as a CSNP, which has a range, or as a PSNP
abbrev pub list_taken : Flood → List Entry → ℕ → Option (LspId × LspId) → List Summary → Bool → SnpAnswer
list_taken f entries link None rows spent = on_list f entries link rows spent
list_taken f entries link (Some range) rows spent = csnp_listed f entries link range.0 range.1 rows spent

-- how many rows of flags it may need
abbrev pub list_room : Option (LspId × LspId) → ℕ → ℕ → ℕ
list_room None rows entries = rows
list_room (Some range) rows entries = rows + entries
