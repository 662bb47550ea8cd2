-- What remains to be produced for a capture from some record on.
use Rattle.std.specs.Prelude.{ℕ, ◌≡◌, List, [], refl}
use Rattle.wire_base.specs.declared.entry.Entry.{Entry}
use Rattle.pcapng_frames.specs.declared.packet.NgRecord.{NgRecord}
use Rattle.command_drive.specs.Answer.{Verdict}
use Rattle.command_drive.specs.Doing.{nothing_more}
use Rattle.command_drive.specs.Reading.{Behind, Cut}
use Rattle.command_drive.specs.Reporting.{alone}
use Rattle.command_topo.specs.declared.query.Query.{Query}
use Rattle.command_topo.specs.TopoText.{report_from}

abbrev pub owed : Query → (n : ℕ) → List Entry → List NgRecord → Behind → Verdict
owed q n entries given how = alone (report_from q n entries given how)

-- nothing after a read error
pub nothing_cut : (q : Query) (n : ℕ) (entries : List Entry) → owed q n entries [] Cut ≡ nothing_more
unfolding report_from
nothing_cut q n entries = refl
