-- A capture's headers: the report on them, and how it ends.
use Rattle.std.specs.Prelude.{ℕ, ◌+◌, ◌≤◌, Bool, true, false, List, [], ◌∷◌, ◌++◌, length, Option, Some, None, codes, if◌then◌else◌}
use Rattle.std.specs.Fmt.{decimal}
use Rattle.wire_base.specs.declared.limits.TheConstants.{CAPTURE_LIMIT}
use Rattle.wire_base.specs.declared.status.Status.{Status}
use Rattle.wire_base.specs.declared.status.Status.TheVariants.{Done, ReadFault}
use Rattle.pcapng_frames.specs.declared.packet.NgRecord.{NgRecord}
use Rattle.command_headers.specs.Sight.{Sight, Passed, sight_of, sight_text, sight_count}
use Rattle.command_drive.specs.Answer.{behind}
use Rattle.command_drive.specs.Captured.{refused_by, too_long}
use Rattle.command_drive.specs.CaptureReading.{any_unread, any_fed, any_drained, any_fault, any_end, HasRecords}
use Rattle.command_drive.specs.Captures.{within_limit, is_within}
use Rattle.command_drive.specs.declared.capture_reader.CaptureReader.{CaptureReader}
use Rattle.command_drive.specs.declared.capture_reader.RecordFault.{RecordFault}

-- ---- the records

-- what a record has: a record of another link type than Ethernet is passed
abbrev pub sight_in : NgRecord → Sight
sight_in read = if read.ethernet then sight_of read.cap.octets else Passed

-- the lines of records that follow n others
unfoldable pub record_lines : ℕ → List NgRecord → List ℕ
record_lines n [] = []
record_lines n (read ∷ more) = sight_text (n + 1) (sight_in read) ++ record_lines (n + 1) more

-- how many headers they have
unfoldable pub header_count : List NgRecord → ℕ
header_count [] = 0
header_count (read ∷ more) = sight_count (sight_in read) + header_count more

-- ---- the end

abbrev pub headers_done : ℕ → ℕ → Status × List ℕ
headers_done n headers = (Done, codes "done records " ++ decimal n ++ codes " headers " ++ decimal headers ++ 10 ∷ [])

-- at the end of the octets
abbrev pub at_end : ℕ → ℕ → Option RecordFault → Status × List ℕ
at_end n headers None = headers_done n headers
at_end n headers (Some fault) = refused_by n fault

-- How a report ends after n records, by the fault that was met and the one at the end of the octets: a fault that was met
-- takes precedence over the limit.
abbrev pub headers_end : Bool → (n headers : ℕ) → (met ended : Option RecordFault) → Status × List ℕ
headers_end short n headers (Some fault) ended = refused_by n fault
headers_end true n headers None ended = at_end n headers ended
headers_end false n headers None ended = too_long n

-- The status and the report of a capture: the lines of its records in order, and a last line.
abbrev pub report_of : Bool → List NgRecord × CaptureReader → Status × List ℕ
report_of short read = behind (record_lines 0 read.0) (headers_end short (length read.0) (header_count read.0) (any_fault read.1) (any_end read.1))

unfoldable pub headers_answer : List ℕ → Status × List ℕ
headers_answer input = report_of (is_within input) (any_drained (any_fed any_unread (within_limit input)))

-- ---- after a read error

-- the lines of the records that are complete in the octets that were read
abbrev pub lines_of : List ℕ → List ℕ
lines_of octets = record_lines 0 (any_drained (any_fed any_unread octets)).0

-- A fault of the capture in them ends the report all the same.
abbrev pub cut_end : ℕ → Option RecordFault → Status × List ℕ
cut_end n None = (ReadFault, [])
cut_end n (Some fault) = refused_by n fault

unfoldable pub headers_cut : List ℕ → Status × List ℕ
headers_cut octets = behind (lines_of octets) (cut_end (length (any_drained (any_fed any_unread octets)).0) (any_fault (any_drained (any_fed any_unread octets)).1))

-- ---- captures that are processed to their end

-- octets that are a capture within the size limit
pub record IsRead (input : List ℕ) : Type 0 where
  pub short : length input ≤ CAPTURE_LIMIT
  pub records : List NgRecord
  pub capture : HasRecords input records
