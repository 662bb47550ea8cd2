-- Capture files: a header of 24 octets, and then records, each of which has a header of 16 octets and a frame (the libpcap file
-- format, version 2.4). The magic number determines the byte order of all numbers.
use Rattle.std.specs.Prelude.{◌≡◌, ℕ, zero, suc, ◌+◌, ◌-◌, ◌/◌, ◌%◌, ◌<◌, ◌≤◌, Bool, true, false, ◌&&◌, List, [], ◌∷◌, ◌++◌, length, take, drop, Result, Ok, Err, Option, Some, None, nat_lt, ◌==◌, not, if◌then◌else◌}
use Rattle.byteorder.specs.Endian.{big_bytes, little_bytes, big_number, little_number}
use Rattle.wire_base.specs.declared.limits.TheConstants.{MOST_CAPTURED}
use Rattle.wire_base.specs.declared.faults.CaptureFault.{CaptureFault}
use Rattle.wire_base.specs.declared.faults.CaptureFault.TheVariants as faults

-- The format of a capture: whether numbers are little-endian, and whether fractions of a second are
-- nanoseconds or microseconds.
pub record CaptureForm : Type 0 where
  pub low_first : Bool
  pub nanoseconds : Bool

-- A record: the second and the microsecond at which a frame was captured, whether the frame is complete, and its captured octets.
pub record CaptureRecord : Type 0 where
  pub sec : ℕ
  pub usec : ℕ
  pub whole : Bool
  pub octets : List ℕ

-- the maximum size in octets of a record's frame
abbrev pub most_captured : ℕ
most_captured = MOST_CAPTURED

-- a number in its octets
abbrev pub octets_in : CaptureForm → ℕ → ℕ → List ℕ
octets_in form n x = if form.low_first then little_bytes n x else big_bytes n x

-- the number in the first octets
abbrev pub number_in : CaptureForm → ℕ → List ℕ → ℕ
number_in form n octets = if form.low_first then little_number n octets else big_number n octets

-- the magic number: A1B2C3D4 for microseconds, A1B23C4D for nanoseconds
abbrev pub magic : CaptureForm → ℕ
magic form = if form.nanoseconds then 2712812621 else 2712847316

-- The header of a capture. The 12 octets before the link type and the high 16 bits of the link type are ignored. Link type 1 is
-- Ethernet.
abbrev pub header_octets : CaptureForm → List ℕ → ℕ → List ℕ
header_octets form unread link = octets_in form 4 (magic form) ++ (octets_in form 2 2 ++ (octets_in form 2 4 ++ (unread ++ octets_in form 4 link)))

pub record IsHeader (form : CaptureForm) (octets : List ℕ) : Type 0 where
  pub unread : List ℕ
  pub link : ℕ
  pub twelve : length unread ≡ 12
  pub small : link < 4294967296
  pub ethernet : link % 65536 ≡ 1
  pub spelled : octets ≡ header_octets form unread link

-- the encoding of a record
abbrev pub record_octets : CaptureForm → ℕ → ℕ → ℕ → List ℕ → List ℕ
record_octets form sec fraction original frame = octets_in form 4 sec ++ (octets_in form 4 fraction ++ (octets_in form 4 (length frame) ++ (octets_in form 4 original ++ frame)))

-- the microseconds of a fraction, which may be any number of 32 bits
abbrev pub microseconds : CaptureForm → ℕ → ℕ
microseconds form fraction = if form.nanoseconds then fraction / 1000 else fraction

-- the record with these fields
abbrev pub record_of : CaptureForm → ℕ → ℕ → ℕ → List ℕ → CaptureRecord
record_of form sec fraction original frame = record { sec = sec; usec = microseconds form fraction; whole = length frame == original; octets = frame }

pub record IsRecord (form : CaptureForm) (octets : List ℕ) (read : CaptureRecord) : Type 0 where
  pub sec : ℕ
  pub fraction : ℕ
  pub original : ℕ
  pub frame : List ℕ
  pub sec_small : sec < 4294967296
  pub fraction_small : fraction < 4294967296
  pub original_small : original < 4294967296
  pub short : length frame ≤ most_captured
  pub spelled : octets ≡ record_octets form sec fraction original frame
  pub means : read ≡ record_of form sec fraction original frame

-- The octets are records, one after the other, up to their end.
pub data AreRecords (form : CaptureForm) : List ℕ → List CaptureRecord → Type 0 where
  NoRecord : AreRecords form [] []
  OneMore : (front rest : List ℕ) (read : CaptureRecord) (more : List CaptureRecord) → IsRecord form front read → AreRecords form rest more → AreRecords form (front ++ rest) (read ∷ more)

-- a capture with these records
pub record IsCapture (octets : List ℕ) (records : List CaptureRecord) : Type 0 where
  pub form : CaptureForm
  pub header : List ℕ
  pub rest : List ℕ
  pub whole : octets ≡ header ++ rest
  pub is_header : IsHeader form header
  pub are_records : AreRecords form rest records

-- the format of a magic number, read with its highest octet first
abbrev pub form_of : ℕ → Option CaptureForm
form_of number =
    if number == 2712847316 then Some (record { low_first = false; nanoseconds = false }) else
    if number == 2712812621 then Some (record { low_first = false; nanoseconds = true }) else
    if number == 3569595041 then Some (record { low_first = true; nanoseconds = false }) else
    if number == 1295823521 then Some (record { low_first = true; nanoseconds = true }) else
    None

-- version 2.4, and Ethernet
abbrev pub is_version : CaptureForm → List ℕ → Bool
is_version form octets = (number_in form 2 (drop 4 octets) == 2) && (number_in form 2 (drop 6 octets) == 4)

abbrev pub is_ethernet : CaptureForm → List ℕ → Bool
is_ethernet form octets = number_in form 4 (drop 20 octets) % 65536 == 1

-- The header at the front of what has been received so far: its format and the octets after it, nothing yet, or the first rule
-- that it breaks. The magic number is tested as soon as it is complete, everything else when the whole header is.
abbrev pub formed_at : Option CaptureForm → List ℕ → Result (Option (CaptureForm × List ℕ)) CaptureFault
formed_at None octets = Err faults.Magic
formed_at (Some form) octets =
    if nat_lt (length octets) 24 then Ok None else
    if not (is_version form octets) then Err faults.Version else
    if not (is_ethernet form octets) then Err faults.LinkType else
    Ok (Some (form, drop 24 octets))

unfoldable pub header_at : List ℕ → Result (Option (CaptureForm × List ℕ)) CaptureFault
header_at octets = if nat_lt (length octets) 4 then Ok None else formed_at (form_of (big_number 4 octets)) octets

-- The record at the front of what has been received so far, and the octets after it, nothing yet, or the rule that it breaks.
-- The rule is tested as soon as the record's header is complete.
abbrev pub frame_at : CaptureForm → ℕ → List ℕ → Option (CaptureRecord × List ℕ)
frame_at form captured octets =
    if nat_lt (length octets - 16) captured then None else
    Some (record_of form (number_in form 4 octets) (number_in form 4 (drop 4 octets)) (number_in form 4 (drop 12 octets)) (take captured (drop 16 octets)), drop (16 + captured) octets)

unfoldable pub record_at : CaptureForm → List ℕ → Result (Option (CaptureRecord × List ℕ)) CaptureFault
record_at form octets =
    if nat_lt (length octets) 16 then Ok None else
    if nat_lt most_captured (number_in form 4 (drop 8 octets)) then Err faults.LongRecord else
    Ok (frame_at form (number_in form 4 (drop 8 octets)) octets)

-- The state of a reader.
pub data Stage : Type 0 where
  HeaderToCome : Stage
  HeaderRead : (form : CaptureForm) → Stage
  Refused : (fault : CaptureFault) → Stage

-- A reader: its state, and the octets that it was fed and has not yet returned.
pub record Reading : Type 0 where
  pub stage : Stage
  pub octets : List ℕ

-- a reader that was fed nothing
abbrev pub unread : Reading
unread = record { stage = HeaderToCome; octets = [] }

-- the reader after it was fed a chunk
abbrev pub fed : Reading → List ℕ → Reading
fed reading piece = record { stage = reading.stage; octets = reading.octets ++ piece }

-- what is at the front is a record, nothing yet, or an error, which is permanent
abbrev pub by_record : CaptureForm → List ℕ → Result (Option (CaptureRecord × List ℕ)) CaptureFault → Result (Option CaptureRecord) CaptureFault × Reading
by_record form octets (Ok None) = (Ok None, record { stage = HeaderRead form; octets = octets })
by_record form octets (Ok (Some read)) = (Ok (Some read.0), record { stage = HeaderRead form; octets = read.1 })
by_record form octets (Err fault) = (Err fault, record { stage = Refused fault; octets = octets })

abbrev pub by_header : List ℕ → Result (Option (CaptureForm × List ℕ)) CaptureFault → Result (Option CaptureRecord) CaptureFault × Reading
by_header octets (Ok None) = (Ok None, record { stage = HeaderToCome; octets = octets })
by_header octets (Ok (Some read)) = by_record read.0 read.1 (record_at read.0 read.1)
by_header octets (Err fault) = (Err fault, record { stage = Refused fault; octets = octets })

-- What a reader returns next, and the reader after it: the header and then the first record are removed from the front.
abbrev pub next_in : Stage → List ℕ → Result (Option CaptureRecord) CaptureFault × Reading
next_in HeaderToCome octets = by_header octets (header_at octets)
next_in (HeaderRead form) octets = by_record form octets (record_at form octets)
next_in (Refused fault) octets = (Err fault, record { stage = Refused fault; octets = octets })

unfoldable pub next_of : Reading → Result (Option CaptureRecord) CaptureFault × Reading
next_of reading = next_in reading.stage reading.octets

abbrev pub more_after : CaptureRecord → List CaptureRecord × Reading → List CaptureRecord × Reading
more_after read more = (read ∷ more.0, more.1)

-- The records that a reader returns until it has none, at most that many, and the reader after them.
abbrev pub drain_on : (Reading → List CaptureRecord × Reading) → Result (Option CaptureRecord) CaptureFault × Reading → List CaptureRecord × Reading
drain_on drained (Ok (Some read), after) = more_after read (drained after)
drain_on drained (Ok None, after) = ([], after)
drain_on drained (Err fault, after) = ([], after)

unfoldable pub drain : ℕ → Reading → List CaptureRecord × Reading
drain zero reading = ([], reading)
drain (suc most) reading = drain_on (drain most) (next_of reading)

-- All of them: each has 16 octets or more.
unfoldable pub drained : Reading → List CaptureRecord × Reading
drained reading = drain (suc (length reading.octets)) reading

-- the records of octets that come in chunks, and the reader after them
unfoldable pub read_pieces : Reading → List (List ℕ) → List CaptureRecord × Reading
read_pieces reading [] = ([], reading)
read_pieces reading (piece ∷ pieces) = ((drained (fed reading piece)).0 ++ (read_pieces (drained (fed reading piece)).1 pieces).0, (read_pieces (drained (fed reading piece)).1 pieces).1)

-- The error at the end of the octets, for a reader that has no further record.
abbrev pub end_in : Stage → List ℕ → Option CaptureFault
end_in HeaderToCome octets = Some faults.CutHeader
end_in (HeaderRead form) [] = None
end_in (HeaderRead form) (octet ∷ octets) = Some faults.CutRecord
end_in (Refused fault) octets = Some fault

abbrev pub end_of : Reading → Option CaptureFault
end_of reading = end_in reading.stage reading.octets

-- The records of a capture, and its first error if it has one.
abbrev pub capture_at : List ℕ → List CaptureRecord × Option CaptureFault
capture_at octets = ((drained (record { stage = HeaderToCome; octets = octets })).0, end_of (drained (record { stage = HeaderToCome; octets = octets })).1)

-- The format that is written: microseconds, little-endian, up to 65,535 octets of a frame.
abbrev pub written_form : CaptureForm
written_form = record { low_first = true; nanoseconds = false }

abbrev pub written_header : List ℕ
written_header = header_octets written_form (0 ∷ 0 ∷ 0 ∷ 0 ∷ 0 ∷ 0 ∷ 0 ∷ 0 ∷ 255 ∷ 255 ∷ 0 ∷ 0 ∷ []) 1

abbrev pub written_record : ℕ → ℕ → List ℕ → List ℕ
written_record sec usec frame = record_octets written_form sec usec (length frame) frame
