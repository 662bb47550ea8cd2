use Rattle.std.proofs.Common.{refl}
use Rattle.isis_flood.proofs.MaskLaws.{bit_set, bit_set_other}
use Rattle.isis_flood.proofs.masks.with_bit.Goals as goal

pub returns-clause-here : goal.returns-clause-here
returns-clause-here c = bit_set c.args.mask c.args.link _ c.requires refl

pub returns-clause-others : goal.returns-clause-others
returns-clause-others c = λ i low apart. bit_set_other c.args.mask c.args.link _ i c.requires refl apart
