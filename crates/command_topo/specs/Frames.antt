-- The LSDB after a frame of a capture.
use Rattle.std.specs.Prelude.{◌≡◌, ℕ, ◌&&◌, Bool, true, false, List, Option, Some, None, Result, Ok, Err, if◌then◌else◌}
use Rattle.wire_base.specs.declared.conf.Level.{Level}
use Rattle.wire_base.specs.declared.entry.Entry.{Entry}
use Rattle.wire_base.specs.declared.faults.FrameFault.{FrameFault}
use Rattle.wire_base.specs.declared.faults.PduFault.{PduFault}
use Rattle.wire_base.specs.model.Ethernet.{Carried, IsisPdu, frame_at}
use Rattle.wire_base.specs.model.Pdu.{Head, Pdu, LspPdu, pdu_at}
use Rattle.lsp_store.specs.Places.{is_refused}
use Rattle.pcapng_frames.specs.declared.packet.NgRecord.{NgRecord}
use Rattle.topo_mt.specs.Gather.{gathered, is_taken}

-- the entries after an LSP; none where it is to be put and there is no room
abbrev pub after_lsp : List Entry → Head → List ℕ → Option (List Entry)
after_lsp entries h tlvs = if is_taken entries h && is_refused entries h.id then None else Some (gathered entries h tlvs)

abbrev pub after_pdu : List Entry → Pdu → Option (List Entry)
after_pdu entries (LspPdu head tlvs) = after_lsp entries head tlvs
after_pdu entries other = Some entries

-- only LSPs without an error count
abbrev pub after_read : List Entry → Result Pdu PduFault → Option (List Entry)
after_read entries (Ok pdu) = after_pdu entries pdu
after_read entries (Err fault) = Some entries

abbrev pub after_carried : Level → List Entry → Carried → Option (List Entry)
after_carried level entries (IsisPdu octets) = after_read entries (pdu_at level octets)
after_carried level entries other = Some entries

abbrev pub after_content : Level → List Entry → Result Carried FrameFault → Option (List Entry)
after_content level entries (Ok carried) = after_carried level entries carried
after_content level entries (Err fault) = Some entries

-- the entries after the frame of a record; other frames change nothing
unfoldable pub after_frame : Level → List Entry → List ℕ → Option (List Entry)
after_frame level entries frame = after_content level entries (frame_at frame)

-- the same of a record: one of another link type than Ethernet changes nothing
abbrev pub after_record : Level → List Entry → NgRecord → Option (List Entry)
after_record level entries read = if read.ethernet then after_frame level entries read.cap.octets else Some entries

-- whether there was room, and the entries then
abbrev pub HasAdded : Bool → Option (List Entry) → List Entry → Type 0
HasAdded true after entries = after ≡ Some entries
HasAdded false after entries = after ≡ None
