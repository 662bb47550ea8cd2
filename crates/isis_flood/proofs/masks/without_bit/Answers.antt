use Rattle.std.proofs.Common.{refl}
use Rattle.isis_flood.proofs.MaskLaws.{bit_clear, bit_clear_other}
use Rattle.isis_flood.proofs.masks.without_bit.Goals as goal

pub returns-clause-here : goal.returns-clause-here
returns-clause-here c = bit_clear c.args.mask c.args.link _ c.requires refl

pub returns-clause-others : goal.returns-clause-others
returns-clause-others c = λ i low apart. bit_clear_other c.args.mask c.args.link _ i c.requires refl low apart
