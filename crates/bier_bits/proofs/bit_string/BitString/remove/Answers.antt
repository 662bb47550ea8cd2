use Rattle.bier_bits.proofs.WordLaws.{removed_is}
use Rattle.bier_bits.proofs.bit_string.BitString.remove.Goals as goal

pub returns : goal.returns
returns g c = rw c.from-place.ensures (removed_is g.row.W c.args.bp c.self.inside.lanes c.args.self.now c.self.told c.self.view_is c.requires.low c.requires.high)
