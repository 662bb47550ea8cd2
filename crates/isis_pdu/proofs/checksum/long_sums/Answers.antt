use Rattle.std.proofs.Common.{arith}
use Rattle.laws_format.proofs.ChecksumLaws.{sum_step, weighted_step}
use Rattle.isis_pdu.proofs.checksum.long_sums.Goals as goal

pub loop-byte-preserved : goal.loop-byte-preserved
loop-byte-preserved c =
    let s = sum_step c.args.bytes.now c.loop-byte.byte-index c.loop-byte-test.true in
    let w = weighted_step c.args.bytes.now c.loop-byte.byte-index c.loop-byte-test.true in
    (omega (arith, s), omega (arith, s, w))
