use Rattle.std.proofs.Common.{length}
use Rattle.isis_dump.proofs.dump.Progress.show_records.Given as goal

abbrev pub decreases-records : goal.decreases-records
decreases-records l = length l.self.reader.octets
