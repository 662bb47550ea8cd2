-- The records of a capture of either format: pcapng where the first four octets are those of a section header, pcap otherwise.
use Rattle.std.specs.Prelude.{ℕ, ◌≡◌, ◌≤◌, ◌⊎◌, true, false, Bool, List, [], ◌++◌, length, map, Result, Ok, Err, Option, Some, None, option_map, nat_lt, ◌==◌, if◌then◌else◌}
use Rattle.byteorder.specs.Endian.{big_number}
use Rattle.wire_base.specs.declared.faults.CaptureFault.{CaptureFault}
use Rattle.wire_base.specs.declared.faults.CaptureFault.TheVariants as faults
use Rattle.wire_base.specs.model.Capture.{CaptureRecord, Stage, HeaderToCome, HeaderRead, Refused, Reading, unread, fed, next_of, end_of, IsCapture}
use Rattle.wire_base.specs.model.Faults.{capture_number, capture_name}
use Rattle.pcap_frames.specs.declared.record.CapRecord.{CapRecord}
use Rattle.pcapng_frames.specs.declared.faults.NgFault.{NgFault}
use Rattle.pcapng_frames.specs.declared.packet.NgRecord.{NgRecord}
use Rattle.pcapng_frames.specs.declared.reader.Step.{Step}
use Rattle.pcapng_frames.specs.declared.reader.Step.TheVariants as steps
use Rattle.pcapng_frames.specs.Draining.{drain_all}
use Rattle.pcapng_frames.specs.Reading.{NgReading, ng_unread, ng_fed, ng_next, ng_end, ng_records}
use Rattle.pcapng_frames.specs.Words.{ng_number, ng_name}
use Rattle.command_drive.specs.declared.capture_reader.CaptureReader.{CaptureReader}
use Rattle.command_drive.specs.declared.capture_reader.CaptureReader.TheVariants as readers
use Rattle.command_drive.specs.declared.capture_reader.RecordFault.{RecordFault}
use Rattle.command_drive.specs.declared.capture_reader.RecordFault.TheVariants as record_faults
use Rattle.command_drive.specs.declared.capture_reader.TheConstants.{PCAPNG}

-- ---- faults

abbrev pub fault_number : RecordFault → ℕ
fault_number (record_faults.Pcap fault) = capture_number fault
fault_number (record_faults.Pcapng fault) = ng_number fault

abbrev pub fault_name : RecordFault → List ℕ
fault_name (record_faults.Pcap fault) = capture_name fault
fault_name (record_faults.Pcapng fault) = ng_name fault

-- the fault of a result
abbrev pub fault_of : Result (Unit {0}) RecordFault → Option RecordFault
fault_of (Ok u) = None
fault_of (Err fault) = Some fault

-- ---- records

-- a record of a pcap capture, which has one interface, of Ethernet
abbrev pub pcap_record : CapRecord → NgRecord
pcap_record cap = record { interface = 0; ethernet = true; cap = cap }

abbrev pub pcap_given : CaptureRecord → NgRecord
pcap_given read = pcap_record (record { sec = read.sec; usec = read.usec; whole = read.whole; octets = read.octets })

-- what a call returned that reads into a record
abbrev pub given : NgRecord → Result Bool RecordFault → Result (Option NgRecord) RecordFault
given read (Ok true) = Ok (Some read)
given read (Ok false) = Ok None
given read (Err fault) = Err fault

-- What a record that is to be read into holds after out of memory: what it held before, but its frame may be empty.
abbrev pub HoldsRest : NgRecord → NgRecord → Type 0
HoldsRest before now = (now ≡ before) ⊎ (now ≡ record before { cap = record before.cap { octets = [] } })

-- What a record that is to be read into holds where none was read: what it held before.
abbrev pub HoldsGiven : {E : Type 0} → NgRecord → Result (Result Bool RecordFault) E → NgRecord → Type 0
HoldsGiven before (Ok (Ok true)) now = Unit {0}
HoldsGiven before (Ok (Ok false)) now = now ≡ before
HoldsGiven before (Ok (Err fault)) now = now ≡ before
HoldsGiven before (Err e) now = HoldsRest before now

-- ---- the format

abbrev pub is_pcapng : List ℕ → Bool
is_pcapng octets = big_number 4 octets == PCAPNG

-- the reader of the format that the first octets tell, which was fed them; none if there are fewer than four
abbrev pub chosen_of : List ℕ → Option CaptureReader
chosen_of octets =
    if nat_lt (length octets) 4 then None else
    if is_pcapng octets then Some (readers.Pcapng (ng_fed ng_unread octets)) else
    Some (readers.Pcap (fed unread octets))

abbrev pub or_unknown : List ℕ → Option CaptureReader → CaptureReader
or_unknown octets None = readers.Unknown octets
or_unknown octets (Some reader) = reader

abbrev pub chosen : CaptureReader → CaptureReader
chosen (readers.Unknown octets) = or_unknown octets (chosen_of octets)
chosen (readers.Pcap reading) = readers.Pcap reading
chosen (readers.Pcapng reading) = readers.Pcapng reading

-- ---- a reader

abbrev pub any_unread : CaptureReader
any_unread = readers.Unknown []

abbrev pub any_fed : CaptureReader → List ℕ → CaptureReader
any_fed (readers.Unknown octets) piece = readers.Unknown (octets ++ piece)
any_fed (readers.Pcap reading) piece = readers.Pcap (fed reading piece)
any_fed (readers.Pcapng reading) piece = readers.Pcapng (ng_fed reading piece)

-- the octets that it was fed and has not yet returned
abbrev pub any_octets : CaptureReader → List ℕ
any_octets (readers.Unknown octets) = octets
any_octets (readers.Pcap reading) = reading.octets
any_octets (readers.Pcapng reading) = reading.octets

abbrev pub any_size : CaptureReader → ℕ
any_size reader = length (any_octets reader)

abbrev pub by_pcap : Result (Option CaptureRecord) CaptureFault × Reading → Result (Option NgRecord) RecordFault × CaptureReader
by_pcap (Ok None, after) = (Ok None, readers.Pcap after)
by_pcap (Ok (Some read), after) = (Ok (Some (pcap_given read)), readers.Pcap after)
by_pcap (Err fault, after) = (Err (record_faults.Pcap fault), readers.Pcap after)

abbrev pub by_pcapng : Result (Option NgRecord) NgFault × NgReading → Result (Option NgRecord) RecordFault × CaptureReader
by_pcapng (Ok read, after) = (Ok read, readers.Pcapng after)
by_pcapng (Err fault, after) = (Err (record_faults.Pcapng fault), readers.Pcapng after)

-- what a reader returns next, once its format is chosen, and the reader after it
abbrev pub answer_of : CaptureReader → Result (Option NgRecord) RecordFault × CaptureReader
answer_of (readers.Unknown octets) = (Ok None, readers.Unknown octets)
answer_of (readers.Pcap reading) = by_pcap (next_of reading)
answer_of (readers.Pcapng reading) = by_pcapng (ng_next reading)

unfoldable pub any_next : CaptureReader → Result (Option NgRecord) RecordFault × CaptureReader
any_next reader = answer_of (chosen reader)

-- all records that it has, and the reader after them
abbrev pub any_drained : CaptureReader → List NgRecord × CaptureReader
any_drained reader = drain_all any_next any_size reader

-- the fault that it has met, which is permanent
abbrev pub stage_fault : Stage → Option RecordFault
stage_fault HeaderToCome = None
stage_fault (HeaderRead form) = None
stage_fault (Refused fault) = Some (record_faults.Pcap fault)

abbrev pub step_fault : Step → Option RecordFault
step_fault steps.Opening = None
step_fault (steps.Section order) = None
step_fault (steps.Refused fault) = Some (record_faults.Pcapng fault)

abbrev pub any_fault : CaptureReader → Option RecordFault
any_fault (readers.Unknown octets) = None
any_fault (readers.Pcap reading) = stage_fault reading.stage
any_fault (readers.Pcapng reading) = step_fault reading.step

-- The fault at the end of the octets, for a reader that has no further record.
abbrev pub any_end : CaptureReader → Option RecordFault
any_end (readers.Unknown octets) = Some (record_faults.Pcap faults.CutHeader)
any_end (readers.Pcap reading) = option_map record_faults.Pcap (end_of reading)
any_end (readers.Pcapng reading) = option_map record_faults.Pcapng (ng_end reading)

-- The records of a capture, and its first fault if it has one.
abbrev pub any_records : List ℕ → List NgRecord × Option RecordFault
any_records octets = ((any_drained (any_fed any_unread octets)).0, any_end (any_drained (any_fed any_unread octets)).1)

-- A capture with these records, in either format.
pub data HasRecords : List ℕ → List NgRecord → Type 0 where
  OfPcap : (octets : List ℕ) (records : List CaptureRecord) → IsCapture octets records → HasRecords octets (map pcap_given records)
  OfPcapng : (octets : List ℕ) (records : List NgRecord) → 4 ≤ length octets → is_pcapng octets ≡ true → ng_records octets ≡ (records, None) → HasRecords octets records
