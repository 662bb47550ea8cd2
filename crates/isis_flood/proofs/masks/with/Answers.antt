use Rattle.std.proofs.Common.{true}
use Rattle.isis_flood.proofs.MaskLaws.{links_set}
use Rattle.isis_flood.proofs.masks.with.Goals as goal

pub returns : goal.returns
returns c = λ n lt few. links_set c.args.mask c.with_bit.result c.args.link n true lt few c.with_bit.ensures.here c.with_bit.ensures.others
