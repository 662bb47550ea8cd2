use Rattle.std.proofs.Common.{refl}
use Rattle.laws_format.proofs.ChecksumLaws.{check_from}
use Rattle.isis_pdu.proofs.checksum.pair_at.Goals as goal

pub returns : goal.returns
returns c = check_from c.args.bytes.now c.args.at c.sums-plain.result.0 c.sums-plain.result.1 _ c.sums-plain.ensures.plain c.sums-plain.ensures.heavy refl
