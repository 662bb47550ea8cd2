use Rattle.bier_bits.proofs.WordLaws.{none_is}
use Rattle.bier_bits.proofs.bit_string.BitString.clear.Goals as goal

pub returns : goal.returns
returns g c = none_is g.row.W c.clear.new.words c.clear.ensures.empty
