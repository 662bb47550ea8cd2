-- One topology of a capture: the report on it, and how the report ends.
use Rattle.std.specs.Prelude.{ℕ, ◌+◌, ◌≤◌, not, List, [], ◌∷◌, length, Option, Some, None, codes}
use Rattle.std.specs.Fmt.{decimal}
use Rattle.wire_base.specs.declared.conf.Level.{Level}
use Rattle.wire_base.specs.declared.entry.Entry.{Entry}
use Rattle.wire_base.specs.declared.limits.TheConstants.{CAPTURE_LIMIT}
use Rattle.wire_base.specs.declared.status.Status.{Status}
use Rattle.wire_base.specs.declared.status.Status.TheVariants.{Done, ReadFault}
use Rattle.pcapng_frames.specs.declared.packet.NgRecord.{NgRecord}
use Rattle.command_drive.specs.Captured.{refused_by, refused_record, too_long}
use Rattle.command_drive.specs.CaptureReading.{any_unread, any_fed, any_drained, any_fault, HasRecords}
use Rattle.command_drive.specs.Captures.{within_limit, is_within}
use Rattle.command_drive.specs.declared.capture_reader.CaptureReader.{CaptureReader}
use Rattle.command_drive.specs.Reading.{Ends, Behind, Closed, Cut}
use Rattle.command_drive.specs.Records.{behind_open, behind_records}
use Rattle.command_drive.specs.declared.items.Close.TheVariants as close
use Rattle.command_topo.specs.declared.query.Query.{Query}
use Rattle.command_topo.specs.Frames.{after_record}
use Rattle.command_topo.specs.Lines.{topology_text}

-- the status and the report after n records, with those entries
abbrev pub end_by : Query → (n : ℕ) → List Entry → Behind → Status × List ℕ
end_by q n entries (Closed close.Ended) = (Done, topology_text q.mt q.from n entries)
end_by q n entries (Closed close.TooLong) = too_long n
end_by q n entries (Closed (close.Broken why)) = refused_by n why
end_by q n entries Cut = (ReadFault, [])

-- at the record after n others whose LSP has no room
abbrev pub full_at : (n : ℕ) → Status × List ℕ
full_at n = refused_record (n + 1) (decimal 9 ∷ codes "Full" ∷ [])

abbrev pub if_room : (n : ℕ) → Option (List Entry) → (List Entry → Status × List ℕ) → Status × List ℕ
if_room n None more = full_at n
if_room n (Some entries) more = more entries

-- The status and the report of records that follow n others, and of what follows them: one topology of the newest LSPs, or the
-- first error.
unfoldable pub report_from : Query → (n : ℕ) → List Entry → List NgRecord → Behind → Status × List ℕ
report_from q n entries [] how = end_by q n entries how
report_from q n entries (read ∷ more) how = if_room n (after_record q.level entries read) (λ now. report_from q (n + 1) now more how)

-- how a capture ends after its last record
abbrev pub behind_of : List ℕ → CaptureReader → Behind
behind_of input left = behind_records (any_fault left) (behind_open (not (is_within input)) Ends left)

-- the status and the report of a list of records, and of what follows them
abbrev pub report_of : Query → Behind → List NgRecord → Status × List ℕ
report_of q how records = report_from q 0 [] records how

unfoldable pub topo_answer : Query → List ℕ → Status × List ℕ
topo_answer q input = report_of q (behind_of input (any_drained (any_fed any_unread (within_limit input))).1) (any_drained (any_fed any_unread (within_limit input))).0

-- After a read error nothing is reported, except where the records read so far end the report, or a fault of the capture does.
unfoldable pub topo_cut : Query → List ℕ → Status × List ℕ
topo_cut q octets = report_of q (behind_records (any_fault (any_drained (any_fed any_unread octets)).1) Cut) (any_drained (any_fed any_unread octets)).0

-- ---- captures that are processed to their end

abbrev pub RoomAfter : Option (List Entry) → (List Entry → Type 0) → Type 0
RoomAfter None More = ⊥
RoomAfter (Some entries) More = More entries

-- no LSP lacks room
abbrev pub HasRoom : Level → List Entry → List NgRecord → Type 0
HasRoom level entries [] = Unit {0}
HasRoom level entries (read ∷ more) = RoomAfter (after_record level entries read) (λ now. HasRoom level now more)

-- octets that are a capture within the size limit, and the LSDB has room for its LSPs
pub record IsGathered (level : Level) (input : List ℕ) : Type 0 where
  pub short : length input ≤ CAPTURE_LIMIT
  pub records : List NgRecord
  pub capture : HasRecords input records
  pub room : HasRoom level [] records
