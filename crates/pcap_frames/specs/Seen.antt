-- How contracts model a reader and its records.
use Rattle.std.specs.Prelude.{◌≡◌, ◌≤◌, ◌-◌, nat_lt, if◌then◌else◌, ℕ, Bool, true, false, List, [], length, drop, Result, Ok, Err, Option, Some, None, option_map}
use Rattle.wire_base.specs.declared.faults.CaptureFault.{CaptureFault}
use Rattle.wire_base.specs.declared.faults.CaptureFault.TheVariants as faults
use Rattle.wire_base.specs.model.Capture.{CaptureForm, CaptureRecord, Stage, HeaderToCome, HeaderRead, Refused}
use Rattle.pcap_frames.specs.declared.header.Form.{Form}
use Rattle.pcap_frames.specs.declared.record.CapRecord.{CapRecord}
use Rattle.pcap_frames.specs.declared.reader.Step.{Step}
use Rattle.pcap_frames.specs.declared.reader.Step.TheVariants as steps

abbrev pub form_seen : Form → CaptureForm
form_seen form = record { low_first = form.low_first; nanoseconds = form.nanoseconds }

abbrev pub record_seen : CapRecord → CaptureRecord
record_seen read = record { sec = read.sec; usec = read.usec; whole = read.whole; octets = read.octets }

abbrev pub stage_seen : Step → Stage
stage_seen steps.Header = HeaderToCome
stage_seen (steps.Records form) = HeaderRead (form_seen form)
stage_seen (steps.Refused fault) = Refused fault

-- The result of a call that allocates, converted by view, equals that of parsing, or is out of memory.
abbrev pub Answers : {X Y : Type 0} → (X → Y) → Result X CaptureFault → Result Y CaptureFault → Type 0
Answers view (Ok x) read = read ≡ Ok (view x)
Answers view (Err faults.Memory) read = Unit {0}
Answers view (Err faults.Magic) read = read ≡ Err faults.Magic
Answers view (Err faults.Version) read = read ≡ Err faults.Version
Answers view (Err faults.LinkType) read = read ≡ Err faults.LinkType
Answers view (Err faults.CutHeader) read = read ≡ Err faults.CutHeader
Answers view (Err faults.CutRecord) read = read ≡ Err faults.CutRecord
Answers view (Err faults.LongRecord) read = read ≡ Err faults.LongRecord

-- the state after a result: after out of memory it is unchanged
abbrev pub after_answer : {X Y : Type 0} → Result X CaptureFault → Y → Y → Y
after_answer (Ok x) before now = now
after_answer (Err faults.Memory) before now = before
after_answer (Err faults.Magic) before now = now
after_answer (Err faults.Version) before now = now
after_answer (Err faults.LinkType) before now = now
after_answer (Err faults.CutHeader) before now = now
after_answer (Err faults.CutRecord) before now = now
after_answer (Err faults.LongRecord) before now = now

-- an error that is permanent, once a reader has met it
abbrev pub IsLasting : CaptureFault → Type 0
IsLasting fault = (fault ≡ faults.Memory) → ⊥

-- the format, and the octets after the header
abbrev pub opened : List ℕ → Option Form → Option (CaptureForm × List ℕ)
opened octets = option_map (λ form. (form_seen form, drop 24 octets))

-- the record that was read, and the octets after it
abbrev pub taken : CapRecord → List ℕ → Option ℕ → Option (CaptureRecord × List ℕ)
taken read octets = option_map (λ size. (record_seen read, drop size octets))

-- the record that was read, if one was found
abbrev pub found : CapRecord → Bool → Option CaptureRecord
found read true = Some (record_seen read)
found read false = None

-- What a record that is to be read into holds where none was read: what it held before. After out of memory its frame is empty.
abbrev pub HoldsElse : CapRecord → CaptureFault → CapRecord → Type 0
HoldsElse before faults.Memory now = now ≡ record before { octets = [] }
HoldsElse before faults.Magic now = now ≡ before
HoldsElse before faults.Version now = now ≡ before
HoldsElse before faults.LinkType now = now ≡ before
HoldsElse before faults.CutHeader now = now ≡ before
HoldsElse before faults.CutRecord now = now ≡ before
HoldsElse before faults.LongRecord now = now ≡ before

abbrev pub Holds : {A : Type 0} → CapRecord → Result (Option A) CaptureFault → CapRecord → Type 0
Holds before (Ok (Some x)) now = Unit {0}
Holds before (Ok None) now = now ≡ before
Holds before (Err fault) now = HoldsElse before fault now

abbrev pub HoldsFound : CapRecord → Result Bool CaptureFault → CapRecord → Type 0
HoldsFound before (Ok true) now = Unit {0}
HoldsFound before (Ok false) now = now ≡ before
HoldsFound before (Err fault) now = HoldsElse before fault now

-- a parsed header is present
abbrev pub HasHeader : ℕ → Option Form → Type 0
HasHeader n (Some form) = 24 ≤ n
HasHeader n None = Unit {0}

-- a parsed record is within that many octets
abbrev pub IsWithin : ℕ → Option ℕ → Type 0
IsWithin n (Some size) = size ≤ n
IsWithin n None = Unit {0}

-- a reader's error is kept
abbrev pub IsKept : Step → Type 0
IsKept steps.Header = Unit {0}
IsKept (steps.Records form) = Unit {0}
IsKept (steps.Refused fault) = IsLasting fault

-- and its index is within its octets
abbrev pub IsSound : Step → ℕ → List ℕ → Type 0
IsSound step at octets = (at ≤ length octets) × IsKept step

-- the error of a result
abbrev pub fault_in : Result (Unit {0}) CaptureFault → Option CaptureFault
fault_in (Ok u) = None
fault_in (Err fault) = Some fault

-- the result at the end with that many octets after the last record, and with that many before which nothing was parsed
abbrev pub cut_end : ℕ → Option CaptureFault
cut_end held = if nat_lt 0 held then Some faults.CutRecord else None

abbrev pub opened_end : ℕ → Option CaptureFault
opened_end held = if nat_lt held 24 then Some faults.CutHeader else cut_end (held - 24)
