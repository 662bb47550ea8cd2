use Rattle.std.proofs.Common.{arith, ℕ, ap, ◌/◌}
use Rattle.bier_bits.proofs.Joined.{and_is, without_is}
use Rattle.bier_bits.proofs.Marks.{shared_marks}
use Rattle.bier_bits.proofs.Places.{none_apart}
use Rattle.bier_bits.proofs.bit_string.BitString.cut_from_into.Goals as goal

pub returns-clause-taken : goal.returns-clause-taken
returns-clause-taken g c = and_is g.row.W c.self.inside.lanes c.mask.inside.lanes c.cut-marks.new.taken c.args.self.now c.args.mask.now c.cut-marks.ensures.fits c.self.view_is c.mask.view_is (λ k lt. c.cut-marks.ensures.taken k (omega (arith, c.self.told, lt)))

pub returns-clause-left : goal.returns-clause-left
returns-clause-left g c = without_is g.row.W c.self.inside.lanes c.mask.inside.lanes c.cut-marks.new.words c.args.self.now c.args.mask.now c.cut-marks.ensures.fits c.self.view_is c.mask.view_is (λ k lt. c.cut-marks.ensures.left k (omega (arith, c.self.told, lt)))

pub cut-marks-requires-clause-none : goal.cut-marks-requires-clause-none
cut-marks-requires-clause-none g c =
    none_apart g.row.W c.args.bp (c.from-from.result / 64) c.self.inside.lanes c.mask.inside.lanes c.args.self.now c.args.mask.now c.self.view_is c.mask.view_is c.requires.low (omega (arith, c.requires.high)) (ap (λ (n : ℕ). n / 64) c.from-from.ensures) c.requires.apart

pub cut-marks-requires-clause-shared : goal.cut-marks-requires-clause-shared
cut-marks-requires-clause-shared g c = shared_marks c.self.inside.marks c.mask.inside.marks c.self.inside.lanes c.mask.inside.lanes c.self.invariant c.mask.invariant
