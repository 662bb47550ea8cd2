use Rattle.bier_bits.proofs.Marks.{taken_lowest}
use Rattle.bier_bits.proofs.words.without_least.Goals as goal

pub returns : goal.returns
returns c all at is = taken_lowest all c.args.marks at c.ranges.marks.fits is
