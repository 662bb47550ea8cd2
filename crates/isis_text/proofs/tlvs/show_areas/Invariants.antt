use Rattle.std.proofs.Common.{length}
use Rattle.isis_text.proofs.tlvs.show_areas.Given as goal

abbrev pub decreases-areas : goal.decreases-areas
decreases-areas l = length l.rest
