-- What remains to be produced for a capture from some record on.
use Rattle.std.specs.Prelude.{ℕ, ◌≡◌, ◌+◌, List, [], length, refl}
use Rattle.wire_base.specs.declared.status.Status.{Status}
use Rattle.wire_base.specs.declared.status.Status.TheVariants.{ReadFault}
use Rattle.pcapng_frames.specs.declared.packet.NgRecord.{NgRecord}
use Rattle.command_drive.specs.Answer.{Verdict, behind}
use Rattle.command_drive.specs.Captured.{refused_by, too_long}
use Rattle.command_drive.specs.Doing.{nothing_more}
use Rattle.command_drive.specs.Reading.{Behind, Closed, Cut}
use Rattle.command_drive.specs.Reporting.{alone}
use Rattle.command_drive.specs.declared.items.Close.TheVariants as close
use Rattle.command_headers.specs.HeadersText.{record_lines, header_count, headers_done}

-- how a report ends, after n records with that many headers
abbrev pub end_by : Behind → (n headers : ℕ) → Status × List ℕ
end_by (Closed close.Ended) n headers = headers_done n headers
end_by (Closed close.TooLong) n headers = too_long n
end_by (Closed (close.Broken why)) n headers = refused_by n why
end_by Cut n headers = (ReadFault, [])

-- the result on records that follow n others
abbrev pub answer_on : (n headers : ℕ) → List NgRecord → Behind → Status × List ℕ
answer_on n headers records how = behind (record_lines n records) (end_by how (n + length records) (headers + header_count records))

abbrev pub owed : (n headers : ℕ) → List NgRecord → Behind → Verdict
owed n headers given how = alone (answer_on n headers given how)

-- nothing after a read error
pub nothing_cut : (n headers : ℕ) → owed n headers [] Cut ≡ nothing_more
unfolding record_lines
nothing_cut n headers = refl
