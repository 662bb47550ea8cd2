-- A capture that is read in chunks and returned record by record.
use Rattle.std.specs.Prelude.{ℕ, ◌+◌, ◌*◌, Bool, true, false, nat_lt, List, length, take, Option, Some, None, if◌then◌else◌}
use Rattle.pcapng_frames.specs.declared.packet.NgRecord.{NgRecord}
use Rattle.command_drive.specs.declared.capture_reader.CaptureReader.{CaptureReader}
use Rattle.command_drive.specs.declared.capture_reader.RecordFault.{RecordFault}
use Rattle.command_drive.specs.declared.items.Close.{Close}
use Rattle.command_drive.specs.declared.items.Close.TheVariants as close
use Rattle.command_drive.specs.CaptureReading.{any_fed, any_size, any_drained, any_fault, any_end}
use Rattle.command_drive.specs.Reading.{End, Ends, Fails, Behind, Closed, Cut, Reads}

-- how a capture closes that ends with that fault, or with none
abbrev pub close_by : Option RecordFault → Close
close_by None = close.Ended
close_by (Some why) = close.Broken why

-- What follows the last record, if octets remain that are not a record: more octets than may be read, the end, or a
-- failed source.
abbrev pub behind_open : Bool → End → CaptureReader → Behind
behind_open true end left = Closed close.TooLong
behind_open false Ends left = Closed (close_by (any_end left))
behind_open false Fails left = Cut

-- A fault that was met takes precedence over all of these.
abbrev pub behind_records : Option RecordFault → Behind → Behind
behind_records None open_end = open_end
behind_records (Some why) open_end = Closed (close.Broken why)

abbrev pub capture_read : Bool → End → List NgRecord × CaptureReader → Reads NgRecord
capture_read over end read = record { items = read.0; behind = behind_records (any_fault read.1) (behind_open over end read.1) }

-- The items that a reader returns from further octets. It may read `room` more; with `over` it has found more octets
-- than it may read.
abbrev pub records_read : CaptureReader → (room : ℕ) → (over : Bool) → End → List ℕ → Reads NgRecord
records_read reader room true end octets = capture_read true end (any_drained reader)
records_read reader room false end octets = capture_read (nat_lt room (length octets)) end (any_drained (any_fed reader (take room octets)))

-- how many records and waits may still occur
abbrev pub records_left : CaptureReader → (room : ℕ) → (short : Bool) → ℕ
records_left reader room short = 3 * room + (2 * any_size reader + (if short then 1 else 0))
