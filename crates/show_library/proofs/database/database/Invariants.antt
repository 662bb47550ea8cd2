use Rattle.std.proofs.Common.{length}
use Rattle.show_library.proofs.database.database.Given as goal

abbrev pub decreases-records : goal.decreases-records
decreases-records l = length l.reader.octets
