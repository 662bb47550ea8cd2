use Rattle.std.proofs.Common.{false}
use Rattle.isis_flood.proofs.MaskLaws.{links_set}
use Rattle.isis_flood.proofs.octets.octet_without.Goals as goal

pub returns : goal.returns
returns c = λ n lt few. links_set c.args.octet c.without_bit.result c.args.link n false lt few c.without_bit.ensures.here c.without_bit.ensures.others
