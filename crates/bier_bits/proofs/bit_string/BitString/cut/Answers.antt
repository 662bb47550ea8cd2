use Rattle.std.proofs.Common.{arith}
use Rattle.bier_bits.proofs.Joined.{and_is, without_is}
use Rattle.bier_bits.proofs.Marks.{shared_marks}
use Rattle.bier_bits.proofs.bit_string.BitString.cut.Goals as goal

pub returns-clause-taken : goal.returns-clause-taken
returns-clause-taken g c = and_is g.row.W c.self.inside.lanes c.mask.inside.lanes c.cut-marks.new.taken c.args.self.now c.args.mask.now c.cut-marks.ensures.fits c.self.view_is c.mask.view_is (λ k lt. c.cut-marks.ensures.taken k (omega (arith, c.self.told, lt)))

pub returns-clause-left : goal.returns-clause-left
returns-clause-left g c = without_is g.row.W c.self.inside.lanes c.mask.inside.lanes c.cut-marks.new.words c.args.self.now c.args.mask.now c.cut-marks.ensures.fits c.self.view_is c.mask.view_is (λ k lt. c.cut-marks.ensures.left k (omega (arith, c.self.told, lt)))

pub cut-marks-requires-clause-shared : goal.cut-marks-requires-clause-shared
cut-marks-requires-clause-shared g c = shared_marks c.self.inside.marks c.mask.inside.marks c.self.inside.lanes c.mask.inside.lanes c.self.invariant c.mask.invariant
