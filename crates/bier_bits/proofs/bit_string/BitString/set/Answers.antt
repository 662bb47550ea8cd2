use Rattle.std.proofs.Common.{◌/◌, arith}
use Rattle.bier_bits.proofs.Marks.{marked_bit}
use Rattle.bier_bits.proofs.Widths.{width_le}
use Rattle.bier_bits.proofs.WordLaws.{set_is}
use Rattle.bier_bits.proofs.bit_string.BitString.set.Goals as goal

pub returns : goal.returns
returns g c = rw c.from-place.ensures (set_is g.row.W c.args.bp c.self.inside.lanes c.args.self.now c.self.told c.self.view_is c.requires.low c.requires.high)

pub invariant_of-self : goal.invariant_of-self
invariant_of-self g c = marked_bit c.self.inside.lanes c.self.inside.marks (c.from-place.result / 64) _ (omega (arith, c.from-place.ensures, c.requires.low, c.requires.high, c.self.told)) (omega (arith, c.from-place.ensures, c.requires.low, c.requires.high, width_le g.row.W c.requires.width)) c.self.invariant
